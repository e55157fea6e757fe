use Rattle.std.proofs.Common.{◌≤◌, List, length, ap, subst, ◌∙◌}
use Rattle.std.specs.List.{IsDistinct}
use Rattle.std.specs.Str.{bytes_eq}
use Rattle.fw_facts.specs.declared.view.DeviceView.{DeviceView}
use Rattle.device_list.proofs.Fresh.{fresh}
use Rattle.device_list.proofs.GuidLaws.{devices_of-sheets}
use Rattle.device_list.specs.Lists.{ids_in}
use Rattle.device_list.proofs.devices.Devices.differ.Goals as goal

pub returns : goal.returns
returns c =
    λ at view there.
    fresh c.args.self.now at view
    (subst (IsDistinct bytes_eq) (c.self.invariant.ids_of ∙ devices_of-sheets c.self.inside.views.items ∙ ap ids_in c.self.view_is) c.len-count.ensures.unique)
    (subst (λ (views : List DeviceView). length views ≤ 256) c.self.view_is c.self.invariant.few)
    there
