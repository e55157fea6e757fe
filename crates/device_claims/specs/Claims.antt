-- What a step of a claim gives, and what it notes.
use Rattle.std.specs.Prelude.{◌≡◌, ℕ, Result, ⊤}
use Rattle.block_pool.specs.Views.{SealedBytes}
use Rattle.emulated_boards.specs.declared.fault.BoardFault.{BoardFault}
use Rattle.emulated_boards.specs.Boards.{BoardState}
use Rattle.emulated_boards.specs.Conditions.{view_of}
use Rattle.update_log.specs.declared.event.Op.{Op}
use Rattle.device_claims.specs.declared.claim.Parts.{Parts}
use Rattle.update_log.specs.Steps.{with_step}
use Rattle.plugin_trait.specs.Steps.{PluginSteps}

-- What the step of each kind gives, of those that a plugin has, for an entry and a payload: the board before,
-- the answer, and the board after.
abbrev pub StepGives : PluginSteps → Op → ℕ → SealedBytes → BoardState → Result ⊤ BoardFault → BoardState → Type 0
StepGives steps Op.Prepare entry payload old answer new = steps.prepare old answer new
StepGives steps Op.Detach entry payload old answer new = steps.detach old answer new
StepGives steps Op.Write entry payload old answer new = steps.write entry payload old answer new
StepGives steps Op.Attach entry payload old answer new = steps.attach old answer new
StepGives steps Op.Reload entry payload old answer new = steps.reload old answer new
StepGives steps Op.Cleanup entry payload old answer new = steps.cleanup old answer new

-- The new trace is the old one and this step, with its answer and what the board shows now; entry and
-- payload stay.
pub record Noted (op : Op) (old : Parts) (answer : Result ⊤ BoardFault) (new : Parts) : Type 0 where
  pub trace : new.trace ≡ with_step (record { op = op; outcome = answer; seen = view_of new.board.condition }) old.trace
  pub entry : new.entry ≡ old.entry
  pub payload : new.payload ≡ old.payload
