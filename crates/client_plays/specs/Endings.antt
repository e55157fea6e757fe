-- How a play ended, and what it did to a house.
use Rattle.std.specs.Prelude.{◌≡◌, ◌⊎◌, ◌≤◌, ◌-◌, ◌^◌, ℕ, Bool, true, false, List, [], ◌∷◌, Option, Some, None, Result, Ok, Err}
use Rattle.history_keeper.specs.Signs.{KeeperSigns}
use Rattle.update_log.specs.declared.event.Event.{Event}
use Rattle.update_log.specs.declared.event.Query.{Query}
use Rattle.update_log.specs.Holding.{holds, live}
use Rattle.update_log.specs.Pasts.{is_boot, off}
use Rattle.daemon_core.specs.declared.stop.Stop.{Stop}
use Rattle.daemon_core.specs.HouseLog.{SameFacts}
use Rattle.daemon_core.specs.Housed.{basis_in, Housed, past}
use Rattle.daemon_core.specs.Keeping.{keeper_faults, last_faulted}
use Rattle.daemon_core.specs.Turns.{KeeperFared}
use Rattle.daemon_core.specs.Planned.{KeepsPlans}
use Rattle.client_scripts.specs.declared.item.Item.{Item}
use Rattle.client_plays.specs.declared.played.Played.{Played}
use Rattle.client_plays.specs.Left.{LeavesUntaken, PlayedOrLeft}
use Rattle.client_plays.specs.Moments.{Did, Grew, Moment}
use Rattle.client_plays.specs.Plays.{Leaves}
use Rattle.client_plays.specs.Scripts.{BootPlayed, PlayedSo, PlaysAll}
use Rattle.client_plays.specs.Tools.{Means}

-- Nobody has a hold or a live entry.
pub record IsIdle (past : List Event) : Type 0 where
  pub no_hold : holds past ≡ []
  pub no_live : live past ≡ []

-- The question may stand in a script: it isn't the one that settling a device asks.
abbrev pub IsQuestion : Query → Type 0
IsQuestion Query.Devices = Unit {0}
IsQuestion (Query.Releases selector) = Unit {0}
IsQuestion (Query.Upgrades selector) = Unit {0}
IsQuestion Query.History = Unit {0}
IsQuestion (Query.Results selector) = Unit {0}
IsQuestion (Query.Settle selector) = ⊥

abbrev pub IsScriptItem : Item → Type 0
IsScriptItem (Item.Ask query) = IsQuestion query
IsScriptItem (Item.Install request) = Unit {0}
IsScriptItem (Item.Settle selector) = Unit {0}
IsScriptItem (Item.Unplug selector) = Unit {0}
IsScriptItem (Item.Plug selector) = Unit {0}

-- Why a play of one turn ended.
abbrev pub played_of : {A : Type 0} → Result A Stop → Played
played_of (Ok answer) = Played.Done
played_of (Err Stop.Off) = Played.Off
played_of (Err Stop.NoMemory) = Played.NoMemory

-- These events are the whole play; or it was left, in a boot that is off, or for want of memory before it
-- took an entry.
abbrev pub EndsSo : Played → ℕ → (List Moment → Type 0) → List Event → List Moment → Type 0
EndsSo Played.Done client Play new moments = Play moments
EndsSo Played.Off client Play new moments = Leaves client Play moments × (off new ≡ true)
EndsSo Played.NoMemory client Play new moments = LeavesUntaken client Play moments

-- What a client did who played something, between two pasts of one boot.
pub record Ended (played : Played) (client : ℕ) (Play : List Moment → Type 0) (old new : List Event) : Type 0 where
  pub moments : List Moment
  pub did : Did client moments old new
  pub ends : EndsSo played client Play new moments

-- A house is at rest, after plays in one boot: nobody has anything out, what no event but a boot
-- changes is as before, and each fault of the keeper that the log tells was counted. Each board at home has
-- the faults planned that its number had.
pub record AtRest {K : Type 0} (signs : KeeperSigns K) (old new : Housed K) : Type 0 where
  pub idle : IsIdle (past new)
  pub same : SameFacts old.house_log new.house_log
  pub counted : KeeperFared signs old new
  pub counts : signs.faults old.keeper ≤ signs.faults new.keeper
  pub plans : KeepsPlans old.places new.places

-- The keeper counted each fault that the log tells, or its count stands at its end.
abbrev pub IsCounted : {K : Type 0} → KeeperSigns K → Housed K → Type 0
IsCounted signs h = (keeper_faults (past h) ≤ signs.faults h.keeper) ⊎ (2 ^ 64 - 1 ≤ signs.faults h.keeper)

-- What a client did who went through a list of things, between two pasts of one boot. `wanting` says
-- that memory was wanting.
pub record WentThrough {X : Type 0} (wanting : Bool) (client : ℕ) (Play : X → List Moment → Type 0) (xs : List X) (old new : List Event) : Type 0 where
  pub moments : List Moment
  pub did : Did client moments old new
  pub plays : PlayedSo (off new) wanting client Play xs moments

-- What that did to a house.
pub record HouseWent {K X : Type 0} (signs : KeeperSigns K) (wanting : Bool) (client : ℕ) (Play : X → List Moment → Type 0) (xs : List X) (old new : Housed K) : Type 0 where
  pub went : WentThrough wanting client Play xs (past old) (past new)
  pub rest : AtRest signs old new

-- What a client did who played one thing more: it was played; or it was left for want of memory, and
-- that is told; or it was left in a boot that is off.
abbrev pub OnceMore : Option Bool → Bool → ℕ → (List Moment → Type 0) → List Event → List Moment → Type 0
OnceMore (Some now) wanting client Play new moments =
    ((now ≡ true) ⊎ (now ≡ wanting)) × PlayedOrLeft now client Play moments
OnceMore None wanting client Play new moments = Leaves client Play moments × (off new ≡ true)

-- What a client has done so far who goes through a list of things.
pub record SoFar {K X : Type 0} (signs : KeeperSigns K) (wanting : Bool) (client : ℕ) (Play : X → List Moment → Type 0) (done : List X) (old new : Housed K) : Type 0 where
  pub moments : List Moment
  pub did : Did client moments (past old) (past new)
  pub plays : PlaysAll wanting client Play done moments
  pub rest : AtRest signs old new

-- A boot was played: the log grew by events of this boot, and the house is at rest.
pub record HouseBootPlayed {K : Type 0} (signs : KeeperSigns K) (wanting : Bool) (means : ℕ → Means) (of_boot : List (List Item)) (old new : Housed K) : Type 0 where
  pub played : BootPlayed wanting (basis_in old.house_log) means of_boot (past new)
  pub grew : Grew (past old) (past new)
  pub rest : AtRest signs old new

-- A boot has just begun.
pub record IsFresh (past : List Event) : Type 0 where
  pub boot : Event
  pub before : List Event
  pub are : past ≡ boot ∷ before
  pub is : is_boot boot ≡ true

-- Where the last boot read the history, nobody opened the keeper again since.
abbrev pub ReadLast : {K : Type 0} → Housed K → Type 0
ReadLast h = last_faulted (past h) ≡ false → h.house_log.reopened ≡ false
