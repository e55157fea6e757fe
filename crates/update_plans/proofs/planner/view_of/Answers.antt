use Rattle.std.proofs.Common.{◌≡◌, None, find, sym, ap, ◌∙◌, rules}
use Rattle.std.specs.Prelude.{option_and_then, slice_get, List}
use Rattle.fw_facts.specs.declared.view.DeviceView.{DeviceView}
use Rattle.update_plans.specs.Plans.{has_id}
use Rattle.update_plans.proofs.Good.{looked_up}
use Rattle.update_plans.proofs.planner.view_of.Goals as goal

pub returns-in_err-at : goal.returns-in_err-at
returns-in_err-at c =
    let none : find (has_id c.args.device.now) c.args.state.now.views ≡ None =
    sym (looked_up c.args.device.now c.args.state.now.views) ∙ ap (option_and_then (slice_get c.args.state.now.views)) (sym c.in_err-at.ensures) in
    rw none (search rules)

pub returns : goal.returns
returns c =
    c.view_at.ensures ∙ ap (λ (views : List DeviceView). slice_get views c.in_ok-at.at) c.views.ensures
    ∙ ap (option_and_then (slice_get c.args.state.now.views)) c.in_ok-at.ensures ∙ looked_up c.args.device.now c.args.state.now.views
