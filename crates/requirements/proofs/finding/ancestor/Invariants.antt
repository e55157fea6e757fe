use Rattle.std.proofs.Common.{◌≡◌, ◌-◌}
use Rattle.requirements.specs.Requirements.{ancestor}
use Rattle.requirements.proofs.finding.ancestor.Given as goal

abbrev pub invariant-loop : goal.invariant-loop
invariant-loop l = ancestor l.views (l.depth - l.counter) l.found ≡ ancestor l.views l.depth l.view
