use Rattle.std.proofs.Common.{ℕ, ◌-◌, List, ◌++◌, sym, ap, ◌∙◌, append-nil}
use Rattle.update_plans.specs.Walks.{is_child, visit}
use Rattle.update_plans.specs.declared.walk.Turn.TheVariants.{AfterParent, BeforeParent}
use Rattle.update_plans.proofs.Walking.{visit-none, visit-parts, visiting-all}
use Rattle.update_plans.proofs.walk.+visit.Goals as goal

pub returns-then-generations-eq0 : goal.returns-then-generations-eq0
returns-then-generations-eq0 t c =
    sym (append-nil c.args.order.now.items)
    ∙ ap (λ (l : List ℕ). c.args.order.now.items ++ l) (sym (visit-none c.args.kin.now c.args.at c.args.generations c.if-generations-eq0.true))

pub returns : goal.returns
returns t c =
    let kin = c.args.kin.now in
    let before = visit kin (c.args.generations - 1) in
    visit-parts kin c.args.at c.args.generations c.args.order.now.items c.loop-place.order.items c.push.new.self.items c.loop-late.order.items
    c.if-generations-eq0.false
    (visiting-all before (is_child BeforeParent c.args.at) kin c.args.order.now.items c.loop-place.order.items c.loop-place.place c.loop-place-test.false c.loop-place.invariant)
    c.in_ok-push.ensures.items
    (visiting-all before (is_child AfterParent c.args.at) kin c.push.new.self.items c.loop-late.order.items c.loop-late.late c.loop-late-test.false c.loop-late.invariant)
