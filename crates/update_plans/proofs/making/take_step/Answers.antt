use Rattle.std.proofs.Common.{refl, sym, ◌∙◌, subst, arith}
use Rattle.std.specs.Prelude.{IfOk, IfSome, Option, List, ℕ}
use Rattle.fw_facts.specs.declared.view.DeviceView.{DeviceView}
use Rattle.fw_facts.specs.Views.{guids_of}
use Rattle.update_plans.specs.Choosing.{IsHighestFirst}
use Rattle.update_plans.specs.Plans.{scene}
use Rattle.update_plans.proofs.Taking.{guids-kept, places-kept}
use Rattle.update_plans.proofs.making.take_step.Goals as goal
use Rattle.update_log.specs.Known.{basis_of}

pub install-requires : goal.install-requires
install-requires g c = (c.requires.1.0, (c.requires.1.1.0, (refl, (refl, (c.requires.1.1.1.0, (c.requires.1.1.1.1.0, (c.requires.1.1.1.1.1.0)))))))

pub device-requires-2 : goal.device-requires-2
device-requires-2 g c =
    let s = scene (basis_of c.args.asker.now.facts.now g.opening) c.args.asker.now.client c.args.asker.now.tag.now in
    let same = places-kept s c.args.state.now c.install.new.state c.args.at c.requires.1.1.1.0 c.in_ok-install.ensures.stands in
    omega (arith, same, c.requires.0)

pub on_side-requires : goal.on_side-requires
on_side-requires g c = λ same.
    let s = scene (basis_of c.args.asker.now.facts.now g.opening) c.args.asker.now.client c.args.asker.now.tag.now in
    let sorted =
    subst (λ (o : Option DeviceView). IfSome o (λ view. IsHighestFirst s.basis.facts (guids_of view) c.args.releases.items)) c.device.ensures c.requires.1.1.1.1.1.1 in
    let guids =
    guids-kept s c.args.state.now c.install.new.state c.args.at c.requires.1.1.1.0 c.in_ok-install.ensures.stands c.device.result.now c.device-2.result.now c.device.ensures c.device-2.ensures
    (same ∙ c.side_of-side.ensures) in
    subst (λ (gs : List (List ℕ)). IsHighestFirst s.basis.facts gs c.args.releases.items) (sym guids) sorted

pub returns-clause-releases : goal.returns-clause-releases
returns-clause-releases g c =
    subst (λ (o : Option DeviceView). IfOk c.on_side.result (λ places. IfSome o (λ view. IsHighestFirst c.args.asker.now.facts.now (guids_of view) places.items))) (sym c.device-2.ensures) c.on_side.ensures
