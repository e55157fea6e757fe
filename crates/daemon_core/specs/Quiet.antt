-- Events that change nothing but the log.
use Rattle.std.specs.Prelude.{Bool, true, false, not}
use Rattle.update_log.specs.declared.answer.AskAnswer.{AskAnswer}
use Rattle.update_log.specs.declared.answer.ClaimAnswer.{ClaimAnswer}
use Rattle.update_log.specs.declared.answer.PlugAnswer.{PlugAnswer}
use Rattle.update_log.specs.declared.event.Event.{Event}
use Rattle.update_log.specs.Pasts.{is_keeper_fault}

-- The answer holds no blocks.
abbrev pub holds_none : AskAnswer → Bool
holds_none (AskAnswer.Hold blocks release) = false
holds_none (AskAnswer.Kept entry state) = true
holds_none (AskAnswer.Refused refusal) = true

-- The answer adds no row, and none is in doubt.
abbrev pub adds_none : ClaimAnswer → Bool
adds_none (ClaimAnswer.Entry entry) = false
adds_none (ClaimAnswer.Kept entry state) = true
adds_none (ClaimAnswer.Refused refusal) = not (is_keeper_fault refusal)

-- Nothing was moved.
abbrev pub moves_none : PlugAnswer → Bool
moves_none (PlugAnswer.Done seen) = false
moves_none PlugAnswer.NoDevice = true
moves_none (PlugAnswer.Busy entry) = true
moves_none PlugAnswer.NotThere = true
moves_none PlugAnswer.AlreadyThere = true

-- The event changes nothing that is said of rows, boards, holds and live entries.
abbrev pub is_quiet : Event → Bool
is_quiet (Event.Query client query) = true
is_quiet (Event.Ask client request pending answer) = holds_none answer
is_quiet (Event.Schedule client request answer) = adds_none answer
is_quiet (Event.Unplug client device answer) = moves_none answer
is_quiet (Event.Plug client device answer) = moves_none answer
is_quiet Event.Cut = true
is_quiet _ = false
