use Rattle.std.proofs.Common.{ℕ, List, map, sym, ap, ◌∙◌, subst}
use Rattle.campaign_inputs.specs.Chosen.{AreAt}
use Rattle.update_log.specs.declared.facts.PluginVetoes.{PluginVetoes}
use Rattle.site_making.specs.Priorities.{priorities_of, priority_of, running}
use Rattle.site_making.specs.Settled.{settled_sheets, vetoes_of}
use Rattle.campaign_inputs.proofs.Beginnings.{can_begin}
use Rattle.campaign_inputs.proofs.CampaignsSo.{campaign_so, joined_at}
use Rattle.campaign_inputs.proofs.settling.settle.Goals as goal

pub returns-clause-plugins : goal.returns-clause-plugins
returns-clause-plugins g c =
    c.in_ok-campaign.ensures.vetoes
    ∙ ap (map (λ b. vetoes_of ((goal.Plugin-dyn g (b.vtable, b.value)).own_sheet b.value) ((goal.Plugin-dyn g (b.vtable, b.value)).own_vetoes b.value))) c.deref.ensures.value

pub returns-clause-settled : goal.returns-clause-settled
returns-clause-settled g c =
    let sheets = map (λ b. (goal.Plugin-dyn g (b.vtable, b.value)).own_sheet b.value) c.args.plugins.items in
    let vetoes = map (λ b. vetoes_of ((goal.Plugin-dyn g (b.vtable, b.value)).own_sheet b.value) ((goal.Plugin-dyn g (b.vtable, b.value)).vetoes_on b.value c.args.site.machine)) c.args.plugins.items in
    let names = map (λ b. ((goal.Plugin-dyn g (b.vtable, b.value)).own_sheet b.value).name) c.in_ok-started.started.plugins.items in
    campaign_so c.args.site sheets vetoes c.in_ok-started.started.arrangement names c.in_ok-campaign.campaign c.in_ok-started.ensures.enabled c.in_ok-campaign.ensures.same
    (c.in_ok-campaign.ensures.sheets
    ∙ ap (λ (names : List (List ℕ)). settled_sheets c.args.site (priority_of names (priorities_of c.in_ok-started.started.arrangement)))
    (ap (map (λ b. ((goal.Plugin-dyn g (b.vtable, b.value)).own_sheet b.value).name)) c.deref.ensures.value))
    (λ name. c.in_ok-campaign.ensures.priorities sheets names c.in_ok-started.ensures.enabled name)
    (subst (λ (those : List PluginVetoes). AreAt vetoes (running c.in_ok-started.started.arrangement) those) (sym (returns-clause-plugins g c))
    (joined_at (λ b. (goal.Plugin-dyn g (b.vtable, b.value)).own_sheet b.value) (λ b. (goal.Plugin-dyn g (b.vtable, b.value)).vetoes_on b.value c.args.site.machine)
    (λ b. (goal.Plugin-dyn g (b.vtable, b.value)).own_sheet b.value) (λ b. (goal.Plugin-dyn g (b.vtable, b.value)).own_vetoes b.value)
    vetoes_of c.args.plugins.items c.in_ok-started.started.plugins.items (running c.in_ok-started.started.arrangement)
    c.in_ok-started.ensures.sheets c.in_ok-started.ensures.vetoes))
    c.in_ok-campaign.ensures.boards

pub returns-clause-begins : goal.returns-clause-begins
returns-clause-begins g c = λ few. can_begin c.args.site _ _ c.in_ok-campaign.campaign few (returns-clause-settled g c)

pub returns-clause-running : goal.returns-clause-running
returns-clause-running g c = record {
  arrangement = c.in_ok-started.started.arrangement;
  arranged = c.in_ok-started.ensures.enabled.arranged;
  started_are = c.in_ok-started.ensures.sheets;
}
