use Rattle.std.proofs.Common.{◌-◌}
use Rattle.update_plans.specs.Walks.{is_child, visit}
use Rattle.update_plans.specs.declared.walk.Turn.TheVariants.{AfterParent, BeforeParent}
use Rattle.update_plans.proofs.Walking.{IsVisiting}
use Rattle.update_plans.proofs.walk.+visit.Given as goal

abbrev pub decreases-visit : goal.decreases-visit
decreases-visit l = l.generations

abbrev pub invariant-loop-place : goal.invariant-loop-place
invariant-loop-place l =
    IsVisiting (visit l.kin (l.generations - 1)) (is_child BeforeParent l.at) l.kin l.initial.order.items l.order.items l.place

abbrev pub invariant-loop-late : goal.invariant-loop-late
invariant-loop-late l =
    IsVisiting (visit l.kin (l.generations - 1)) (is_child AfterParent l.at) l.kin l.initial.order.items l.order.items l.late
