use Rattle.std.proofs.Common.{map, subst}
use Rattle.std.specs.Prelude.{IfOk}
use Rattle.site_making.specs.Settled.{vetoes_of}
use Rattle.site_types.specs.declared.site.Site.{Site}
use Rattle.campaign_inputs.specs.Settled.{IsCampaignOf}
use Rattle.campaign_inputs.proofs.making.make_campaign.Goals as goal

pub returns-clause-settled : goal.returns-clause-settled
returns-clause-settled g c =
    subst (λ (site : Site). IfOk c.settle.result (λ ready. IsCampaignOf site (map (λ b. (goal.Plugin-dyn g (b.vtable, b.value)).own_sheet b.value) c.args.plugins.items)
    (map (λ b. vetoes_of ((goal.Plugin-dyn g (b.vtable, b.value)).own_sheet b.value) ((goal.Plugin-dyn g (b.vtable, b.value)).vetoes_on b.value site.machine)) c.args.plugins.items)
    ready.campaign)) c.in_ok-site.ensures.made c.settle.ensures.settled
