-- The limits of a catalogue, component by component.
use Rattle.std.proofs.Common.{◌≤◌, List, length, All, arith, subst}
use Rattle.std.proofs.lemmas.Option.{slice_get_within, get_or_from_slice_get}
use Rattle.fw_facts.specs.declared.release.Component.{Component}
use Rattle.request_verdicts.specs.Cases.{HasFew}

-- At most 64 requirements each are fewer than 2^32 each.
pub few-each : (catalogue : List Component) → All (λ c. length c.requirements ≤ 64) catalogue → HasFew catalogue
few-each catalogue all at component e =
    let few : length component.requirements ≤ 64 =
    subst (λ (x : Component). length x.requirements ≤ 64) (get_or_from_slice_get catalogue at component component e) (all at component (slice_get_within catalogue at component e)) in
    omega (arith, few)
