-- The component of the release that is chosen, from the place that the catalogue finds.
use Rattle.std.proofs.Common.{◌≡◌, ℕ, List, Some, sym, ap, ◌∙◌}
use Rattle.std.specs.Prelude.{option_map, slice_get}
use Rattle.fw_facts.specs.declared.release.Component.{Component}
use Rattle.release_catalogue.specs.declared.reference.ReleaseRef.{ReleaseRef}
use Rattle.release_catalogue.specs.Lookup.{Chosen, chosen}
use Rattle.release_catalogue.specs.Places.{chosen_place}
use Rattle.update_log.proofs.Placed.{FoundAt, found-at}

pub component_chosen : (components : List Component) (guids : List (List ℕ)) (version : List ℕ) (at : ReleaseRef) (c : Component)
    → Some at ≡ chosen_place components guids version → slice_get components at.component ≡ Some c
    → Some c ≡ option_map (λ (found : Chosen). found.component) (chosen components guids version)
component_chosen components guids version at c h is =
    let f : FoundAt components guids version at = found-at components guids version at h in
    let there : Some f.component ≡ Some c = sym f.component_is ∙ is in
    sym (ap (option_map (λ (found : Chosen). found.component)) f.chosen_is ∙ there)
