use Rattle.std.proofs.Common.{◌≡◌, ◌++◌, drop}
use Rattle.requirements.specs.Requirements.{cause}
use Rattle.update_log.specs.Verdicts.{features_for}
use Rattle.command_outputs.specs.Explained.{requirement_lines}
use Rattle.command_outputs.proofs.requirements_met.put_requirements.Given as goal

abbrev pub invariant-loop-index : goal.invariant-loop-index
invariant-loop-index l =
    l.out.items ++ requirement_lines (cause l.facts.machine (features_for l.facts 1) l.views l.view) l.index (drop l.index l.requirements)
    ≡ l.fn.out.items ++ requirement_lines (cause l.facts.machine (features_for l.facts 1) l.views l.view) 0 l.requirements
