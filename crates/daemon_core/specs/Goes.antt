-- What the turns of a live entry did, which take no memory.
use Rattle.std.specs.Prelude.{◌≡◌, ℕ, true, Result, Ok, Err}
use Rattle.update_log.specs.declared.event.Event.{Event}
use Rattle.daemon_core.specs.declared.off.Off.{Off}
use Rattle.daemon_core.specs.HouseLog.{Appended, IsOff, Runs}
use Rattle.daemon_core.specs.Housed.{HouseLogView}
use Rattle.daemon_core.specs.Turns.{WentOff}

-- The boot runs, and nothing has changed; or it is off, perhaps by this turn.
abbrev pub GoesOn : {A : Type 0} → ℕ → Result A Off → HouseLogView → HouseLogView → Type 0
GoesOn client (Ok _) old new = Runs old × (old.loaded ≡ true) × (new ≡ old)
GoesOn client (Err _) old new = IsOff client old new

-- A turn of a client that put this event behind the log, or else was answered off.
abbrev pub TurnedOrOff : {A : Type 0} → ℕ → (A → Event) → Result A Off → HouseLogView → HouseLogView → Type 0
TurnedOrOff client event (Ok answer) old new = Runs old × Appended client (event answer) old new
TurnedOrOff client event (Err _) old new = WentOff client old new
