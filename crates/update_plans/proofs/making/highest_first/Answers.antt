use Rattle.std.proofs.Common.{ap, ◌∙◌, rules}
use Rattle.fw_facts.specs.Views.{guids_of}
use Rattle.release_catalogue.specs.Places.{matching_places}
use Rattle.update_plans.proofs.Sorting.{sorted-highest}
use Rattle.update_plans.proofs.making.highest_first.Goals as goal

pub returns : goal.returns
returns c =
    sorted-highest c.args.facts.now (guids_of c.args.view.now) c.in_ok-releases.releases.items c.sort_by.new.self.items (c.in_ok-releases.ensures ∙ ap (matching_places c.args.facts.now.catalogue) c.guids.ensures)
    c.sort_by.ensures.permutation c.in_ok-sort_by.ensures.sorted c.sort_by.ensures.stable (λ a r q k. search rules)
