-- The words of the report.
use Rattle.std.specs.Prelude.{ℕ, List, codes, Result, Ok, Err, ⊤}
use Rattle.emulated_boards.specs.declared.fault.BoardFault.{BoardFault}
use Rattle.emulated_boards.specs.declared.fault.BoardFault.TheVariants as faults
use Rattle.emulated_boards.specs.declared.mark.Mark.{Mark}
use Rattle.emulated_boards.specs.declared.mark.Mark.TheVariants as marks
use Rattle.update_log.specs.declared.event.Op.{Op}
use Rattle.update_log.specs.declared.event.Op.TheVariants as ops

-- a step of an update
abbrev pub op_word : Op → List ℕ
op_word ops.Prepare = codes "prepare"
op_word ops.Detach = codes "detach"
op_word ops.Write = codes "write"
op_word ops.Attach = codes "attach"
op_word ops.Reload = codes "reload"
op_word ops.Cleanup = codes "cleanup"

-- how a step ended
abbrev pub outcome_word : Result ⊤ BoardFault → List ℕ
outcome_word (Ok done) = codes "ok"
outcome_word (Err faults.Failed) = codes "fault-failed"
outcome_word (Err faults.Torn) = codes "fault-torn"
outcome_word (Err faults.Gone) = codes "fault-gone"
outcome_word (Err faults.Stranger) = codes "fault-stranger"

-- a mark of a board's journal
abbrev pub mark_word : Mark → List ℕ
mark_word marks.Entered = codes "entered"
mark_word (marks.Began entry) = codes "began"
mark_word (marks.Ended entry digest) = codes "ended"
mark_word marks.Left = codes "left"
