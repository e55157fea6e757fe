use Rattle.std.proofs.Common.{sym, ◌∙◌, subst, rules}
use Rattle.std.specs.Prelude.{IfSome, Option}
use Rattle.fw_facts.specs.declared.view.DeviceView.{DeviceView}
use Rattle.fw_facts.specs.Views.{guids_of}
use Rattle.update_log.specs.Pasts.{past_of}
use Rattle.update_log.specs.Known.{basis_of}
use Rattle.update_plans.specs.Choosing.{IsHighestFirst}
use Rattle.update_plans.specs.Plans.{device_at, scene}
use Rattle.update_plans.proofs.Choice.{none_shown, tried-next}
use Rattle.update_plans.proofs.Taking.{own-device}
use Rattle.update_plans.proofs.making.next_step.Goals as goal

pub returns-in_err-shown : goal.returns-in_err-shown
returns-in_err-shown c = λ opening stands quiet.
    let s = scene (basis_of c.args.asker.now.facts.now opening) c.args.asker.now.client c.args.asker.now.tag.now in
    let here = own-device s c.args.state.now c.args.at c.device-view.result.now stands c.device-view.ensures in
    let e = none_shown s c.args.number (device_at c.args.state.now.views c.args.at) c.device-view.result.now (past_of c.args.state.now.log) here (sym c.in_err-shown.ensures) in
    rw e (search rules)

pub returns : goal.returns
returns c = λ opening stands quiet.
    let s = scene (basis_of c.args.asker.now.facts.now opening) c.args.asker.now.client c.args.asker.now.tag.now in
    let here = own-device s c.args.state.now c.args.at c.device-view.result.now stands c.device-view.ensures in
    c.first_good.ensures opening stands quiet
    ∙ tried-next s c.args.number (device_at c.args.state.now.views c.args.at) c.device-view.result.now c.in_ok-shown.shown (past_of c.args.state.now.log) c.args.releases.now here (sym c.in_ok-shown.ensures)
    (subst (λ (o : Option DeviceView). IfSome o (λ view. IsHighestFirst s.basis.facts (guids_of view) c.args.releases.now)) c.device-view.ensures c.requires.releases)
