-- What a client did by its pass: told by the log that the pass saw before, and by the one that it sees now.
use Rattle.std.specs.Prelude.{◌≡◌, Bool, true, List, ◌++◌, Option, Some, None}
use Rattle.update_log.specs.Pasts.{off}
use Rattle.client_plays.specs.declared.played.Played.{Played}
use Rattle.client_plays.specs.Endings.{EndsSo}
use Rattle.client_plays.specs.Moments.{Moment, mine}
use Rattle.client_plays.specs.Scripts.{PlayedSo, PlaysAll}
use Rattle.turn_lock.specs.Shown.{PassView}
use Rattle.shared_daemon.specs.declared.entry.Entry.{Entry}
use Rattle.shared_daemon.specs.Closings.{IsFreePass}
use Rattle.shared_daemon.specs.Entries.{past_seen}

-- The client's own events of the boot, each with the past before it, in what the pass saw last.
abbrev pub own : PassView Entry → List Moment
own pass = mine pass.number (past_seen pass.seen)

-- These are the client's own moments since, and it has nothing out.
pub record Did (moments : List Moment) (old new : PassView Entry) : Type 0 where
  pub same : new.number ≡ old.number
  pub own_are : own new ≡ own old ++ moments
  pub free : IsFreePass new

-- What a client did who played something.
pub record Ended (played : Played) (Play : List Moment → Type 0) (old new : PassView Entry) : Type 0 where
  pub moments : List Moment
  pub did : Did moments old new
  pub ends : EndsSo played old.number Play (past_seen new.seen) moments

-- What is told of a play: whether memory was wanting so far, or nothing where the boot is off.
abbrev pub told_of : Played → Bool → Option Bool
told_of Played.Done wanting = Some wanting
told_of Played.NoMemory wanting = Some true
told_of Played.Off wanting = None

-- What a client has done so far who goes through a list of things.
pub record SoFar {X : Type 0} (wanting : Bool) (Play : X → List Moment → Type 0) (done : List X) (old new : PassView Entry) : Type 0 where
  pub moments : List Moment
  pub did : Did moments old new
  pub plays : PlaysAll wanting old.number Play done moments

-- What a client did who went through a list of things. `wanting` says that memory was wanting.
pub record PassWent {X : Type 0} (wanting : Bool) (Play : X → List Moment → Type 0) (xs : List X) (old new : PassView Entry) : Type 0 where
  pub moments : List Moment
  pub did : Did moments old new
  pub plays : PlayedSo (off (past_seen new.seen)) wanting old.number Play xs moments
