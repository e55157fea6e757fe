use Rattle.std.proofs.Common.{length}
use Rattle.update_plans.specs.Walks.{is_root, visit}
use Rattle.update_plans.proofs.Walking.{IsVisiting}
use Rattle.update_plans.proofs.walk.visit_roots.Given as goal

abbrev pub invariant-loop-at : goal.invariant-loop-at
invariant-loop-at l = IsVisiting (visit l.kin (length l.kin)) is_root l.kin l.initial.order.items l.order.items l.at
