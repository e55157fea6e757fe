use Rattle.std.proofs.Common.{◌≡◌, ◌+◌, ◌++◌, drop}
use Rattle.campaign_plans.specs.Printed.{step_lines}
use Rattle.campaign_plans.proofs.printing.put_steps.Given as goal

abbrev pub invariant-loop-index : goal.invariant-loop-index
invariant-loop-index l =
    l.out.items ++ step_lines l.facts l.views (l.index + 1) (drop l.index l.steps) ≡ l.fn.out.items ++ step_lines l.facts l.views 1 l.steps
