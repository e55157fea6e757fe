use Rattle.std.proofs.Common.{◌≡◌, List, [], ◌∷◌, ◌++◌, refl, subst}
use Rattle.std.specs.Result.{OnOk}
use Rattle.client_scripts.specs.declared.item.Item.{Item}
use Rattle.update_plans.specs.Plans.{Scene, scene}
use Rattle.campaign_plans.specs.Updating.{install_of}
use Rattle.campaign_plans.proofs.Installs.{install_put, install_unput}
use Rattle.campaign_plans.proofs.updating.put_install.Goals as goal
use Rattle.update_log.specs.Known.{basis_of}

pub returns-in-Some : goal.returns-in-Some
returns-in-Some c =
    let s : Scene = scene (basis_of c.args.facts.now []) 1 c.args.tag.now in
    let asked = c.request_of-request.result in
    let e : Item.Install asked ∷ [] ≡ install_of s c.args.number c.args.step.now =
    install_put s c.args.facts.now c.args.tag.now c.args.number c.args.step.now c.in-Some.version.now [] (Item.Install asked ∷ []) asked refl refl c.in-Some.ensures c.request_of-request.ensures refl in
    subst (λ (xs : List Item). OnOk c.push_request.result (c.push_request.new.items.items ≡ c.args.items.now.items ++ xs)) e c.push_request.ensures

pub returns-in-None : goal.returns-in-None
returns-in-None c =
    install_unput (scene (basis_of c.args.facts.now []) 1 c.args.tag.now) c.args.facts.now c.args.number c.args.step.now c.args.items.now.items refl c.in-None.ensures
