use Rattle.std.proofs.Common.{sym, ◌∙◌}
use Rattle.remote_set.proofs.Names.{name_found, name_passed}
use Rattle.remote_set.proofs.merging.first_repeated.Goals as goal

pub returns-then-has_name : goal.returns-then-has_name
returns-then-has_name c =
    name_found c.args.remotes.now c.loop-at.at c.index-remotes-at.result _ c.loop-at-test.true c.index-remotes-at.is (sym c.has_name.ensures ∙ c.if-has_name.true) c.loop-at.invariant

pub loop-at-preserved : goal.loop-at-preserved
loop-at-preserved c =
    name_passed c.args.remotes.now c.loop-at.at c.index-remotes-at.result _ c.loop-at-test.true c.index-remotes-at.is (sym c.has_name.ensures ∙ c.if-has_name.false) c.loop-at.invariant
