-- What the run of a claim put behind the log: which entries its pass gained as its own.
--
-- What other clients put between them is theirs, and is told by their passes.
use Rattle.std.specs.Prelude.{◌≡◌, ℕ, Bool, true, List, [], ◌∷◌, ◌++◌, Option, map}
use Rattle.emulated_boards.specs.Boards.{BoardState}
use Rattle.plugin_trait.specs.Steps.{PluginSteps}
use Rattle.update_log.specs.declared.event.Back.{Back}
use Rattle.update_log.specs.declared.event.Event.{Event}
use Rattle.update_log.specs.declared.event.Op.{Op}
use Rattle.update_log.specs.Legal.{IsFree}
use Rattle.update_log.specs.Pasts.{off}
use Rattle.daemon_core.specs.declared.finished.Finished.{Finished}
use Rattle.device_claims.specs.declared.claim.Parts.{Parts}
use Rattle.claim_runs.specs.declared.outcome.Outcome.{Outcome}
use Rattle.claim_runs.specs.Made.{AreMade, IsBegun, StepMade, cut_events, start_events, step_events}
use Rattle.turn_lock.specs.Lists.{BeginsWith}
use Rattle.turn_lock.specs.Shown.{PassView}
use Rattle.shared_daemon.specs.declared.entry.Entry.{Entry}
use Rattle.shared_daemon.specs.Entries.{entry_of, past_seen}

-- The pass gained these events as its own. It sees what it saw before, and what came since.
pub record Gained (more : List Event) (old new : PassView Entry) : Type 0 where
  pub same : new.number ≡ old.number
  pub seen : BeginsWith new.seen old.seen
  pub mine_are : new.mine ≡ old.mine ++ map (entry_of old.number) more

-- The client made steps of the entry, and nothing else: the plugin took the claim from what it was to what it is.
pub record MadeSteps (by : PluginSteps) (entry : ℕ) (was is : Parts) (old new : PassView Entry) : Type 0 where
  pub steps : List StepMade
  pub gained : Gained (step_events old.number entry steps) old new
  pub payload : is.payload ≡ was.payload
  pub made : AreMade by entry was.payload was.board steps is.board

-- The event that gives the entry back.
abbrev pub back_event : ℕ → ℕ → Event
back_event client entry = Event.GiveBack client (Back.Entry entry)

-- The boot is off, and the client has nothing out.
pub record IsOver (pass : PassView Entry) : Type 0 where
  pub off_is : off (past_seen pass.seen) ≡ true
  pub free_is : IsFree (past_seen pass.seen) pass.number

-- The boot went off, perhaps by a cut that the client met, and the entry was given back.
pub record CameBack (entry : ℕ) (old new : PassView Entry) : Type 0 where
  pub cut : Bool
  pub gained : Gained (cut_events cut ++ back_event old.number entry ∷ []) old new
  pub over : IsOver new

-- The boot went off: behind such steps, and the start of one more perhaps, the entry was given back.
pub record GaveBack (by : PluginSteps) (entry : ℕ) (was : Parts) (old new : PassView Entry) : Type 0 where
  pub steps : List StepMade
  pub started : Option Op
  pub cut : Bool
  pub gained : Gained (step_events old.number entry steps ++ (start_events old.number entry started ++ (cut_events cut ++ back_event old.number entry ∷ []))) old new
  pub over : IsOver new
  pub last : BoardState
  pub made : AreMade by entry was.payload was.board steps last
  pub begun : IsBegun by entry was.payload last started

-- Behind such steps the entry was finished, in that state, and the client has nothing out.
pub record Finishes (by : PluginSteps) (entry : ℕ) (was : Parts) (finished : Finished) (old new : PassView Entry) : Type 0 where
  pub steps : List StepMade
  pub gained : Gained (step_events old.number entry steps ++ Event.Finish old.number entry finished.state finished.stored ∷ []) old new
  pub free_is : IsFree (past_seen new.seen) new.number
  pub last : BoardState
  pub made : AreMade by entry was.payload was.board steps last

abbrev pub Ran : PluginSteps → ℕ → Parts → Outcome → PassView Entry → PassView Entry → Type 0
Ran by entry was (Outcome.Finished finished) old new = Finishes by entry was finished old new
Ran by entry was Outcome.Off old new = GaveBack by entry was old new

-- The entry was finished, in that state, and nothing else happened. The client has nothing out.
pub record WasFinished (entry : ℕ) (finished : Finished) (old new : PassView Entry) : Type 0 where
  pub gained : Gained (Event.Finish old.number entry finished.state finished.stored ∷ []) old new
  pub free_is : IsFree (past_seen new.seen) new.number

-- It was finished, or given back.
abbrev pub Closes : ℕ → Outcome → PassView Entry → PassView Entry → Type 0
Closes entry (Outcome.Finished finished) old new = WasFinished entry finished old new
Closes entry Outcome.Off old new = CameBack entry old new
