-- Requests that are put off to the next boot.
use Rattle.std.specs.Prelude.{◌≡◌, ℕ, Result, Ok, Err}
use Rattle.release_catalogue.specs.declared.reference.ReleaseRef.{ReleaseRef}
use Rattle.update_log.specs.declared.answer.ClaimAnswer.{ClaimAnswer}
use Rattle.update_log.specs.declared.decision.Decision.{Decision}
use Rattle.update_log.specs.declared.event.Event.{Event}
use Rattle.update_log.specs.declared.request.Request.{Request}
use Rattle.daemon_core.specs.HouseLog.{Appended}
use Rattle.daemon_core.specs.Housed.{HouseLogView}
use Rattle.daemon_core.specs.declared.stop.Stop.{Stop}

-- It was decided to accept.
abbrev pub IsAccept : Decision → Type 0
IsAccept d = (device : ℕ) × (release : ReleaseRef) × (blocks : ℕ) × (d ≡ Decision.Accept device release blocks)

-- What became of a request that was accepted: the answer stands in the log, or the row couldn't be stored for
-- want of memory, and nothing changed.
abbrev pub PutOff : ℕ → Request → Result ClaimAnswer Stop → HouseLogView → HouseLogView → Type 0
PutOff client request (Ok answer) old new = Appended client (Event.Schedule client request answer) old new
PutOff client request (Err Stop.Off) old new = ⊥
PutOff client request (Err Stop.NoMemory) old new = new ≡ old
