use Rattle.std.proofs.Common.{ap, subst, ◌∙◌}
use Rattle.std.specs.List.{IsDistinct}
use Rattle.std.specs.Str.{bytes_eq}
use Rattle.device_list.proofs.GuidLaws.{devices_of-sheets}
use Rattle.device_list.specs.Lists.{ids_in}
use Rattle.device_list.proofs.devices.Devices.distinct.Goals as goal

pub returns : goal.returns
returns c =
    subst (IsDistinct bytes_eq) (c.self.invariant.ids_of ∙ devices_of-sheets c.self.inside.views.items ∙ ap ids_in c.self.view_is) c.len-count.ensures.unique
