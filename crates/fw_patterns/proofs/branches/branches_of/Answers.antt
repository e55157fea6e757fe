use Rattle.std.proofs.Common.{◌∙◌, sym, ap, List}
use Rattle.fw_patterns.specs.Drafts.{drafted}
use Rattle.fw_patterns.specs.declared.marks.Placed.{Placed}
use Rattle.fw_patterns.proofs.BranchLemmas.{over, over-nothing, over-push}
use Rattle.fw_patterns.proofs.branches.branches_of.Goals as goal

pub loop-placed-init : goal.loop-placed-init
loop-placed-init c = rw (c.new-draft.ensures.repeat, c.new-draft.ensures.branches) (over-nothing c.args.marks.items)

pub loop-placed-preserved : goal.loop-placed-preserved
loop-placed-preserved c =
    let draft = c.loop-placed.draft in
    rw (c.in_ok-take.ensures.repeat, c.in_ok-take.ensures.branches)
    (sym (over-push c.pop.new.self.items c.in-Some.placed draft.repeat (drafted draft))
    ∙ ap (λ (marks : List Placed). over marks draft.repeat (drafted draft)) (sym c.in-Some.ensures.items)
    ∙ c.loop-placed.invariant)
