use Rattle.std.proofs.Common.{◌∙◌}
use Rattle.site_making.proofs.Adding.{map_nothing, none_run}
use Rattle.document_tests.proofs.settling.quirks_are_applied.Goals as goal

pub settle_site-requires-clause-plugins : goal.settle_site-requires-clause-plugins
settle_site-requires-clause-plugins g c =
    none_run c.deref.result.now c.in_ok-arrangement.arrangement _ (c.deref.ensures.value ∙ c.new-sheets.ensures.items)
    (map_nothing _ c.deref-2.result.now (c.deref-2.ensures.value ∙ c.new-plugins.ensures.items))
    c.in_ok-arrangement.ensures.accepted c.in_ok-arrangement.ensures.arranged
