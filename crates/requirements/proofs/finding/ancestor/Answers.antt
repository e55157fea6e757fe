use Rattle.std.proofs.Common.{◌<◌, arith, sym, ap, ◌∙◌}
use Rattle.std.specs.Option.{option_copied}
use Rattle.requirements.proofs.AncestorLemmas.{ancestor-step, ancestor-end}
use Rattle.requirements.proofs.finding.ancestor.Goals as goal

pub loop-preserved : goal.loop-preserved
loop-preserved c =
    let lt : c.loop.counter < c.args.depth = omega arith in
    sym (ancestor-step c.args.views.now c.args.depth c.loop.counter c.loop.found.now c.in_ok-found.found.now lt
    (sym c.parent.ensures ∙ ap option_copied c.in_ok-found.was))
    ∙ c.loop.invariant

pub returns-in_err-found : goal.returns-in_err-found
returns-in_err-found c =
    let lt : c.loop.counter < c.args.depth = omega arith in
    ap option_copied c.from_residual.ensures
    ∙ sym (ancestor-end c.args.views.now c.args.depth c.loop.counter c.loop.found.now lt
    (sym c.parent.ensures ∙ ap option_copied c.in_err-found.was))
    ∙ c.loop.invariant
