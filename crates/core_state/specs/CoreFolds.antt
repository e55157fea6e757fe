-- Parts of what one event makes of what the log said before.
use Rattle.std.specs.Prelude.{ℕ, Bool, false, ◌||◌}
use Rattle.history_keeper.specs.declared.change.Change.{Change}
use Rattle.update_log.specs.declared.answer.ClaimAnswer.{ClaimAnswer}
use Rattle.update_log.specs.declared.answer.ResumeAnswer.{ResumeAnswer}
use Rattle.update_log.specs.declared.event.Stored.{Stored}
use Rattle.update_log.specs.Pasts.{is_fault, is_keeper_fault}

-- The answer is that the history couldn't be written.
abbrev pub is_refused_by_keeper : ClaimAnswer → Bool
is_refused_by_keeper (ClaimAnswer.Entry entry) = false
is_refused_by_keeper (ClaimAnswer.Kept entry state) = false
is_refused_by_keeper (ClaimAnswer.Refused refusal) = is_keeper_fault refusal

-- The resumption met a fault of the history.
abbrev pub stops_resuming : ResumeAnswer → Stored → Bool
stops_resuming (ResumeAnswer.Refused refusal) stored = is_keeper_fault refusal || is_fault stored
stops_resuming ResumeAnswer.Begun stored = is_fault stored

-- How many rows a change adds.
abbrev pub rows_added : Change → ℕ
rows_added (Change.Add row) = 1
rows_added (Change.Advance entry state reason time) = 0
