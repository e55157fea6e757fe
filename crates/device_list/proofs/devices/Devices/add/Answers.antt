use Rattle.std.proofs.Common.{List, ap, ◌∙◌, ℕ}
use Rattle.std.specs.List.{list_any}
use Rattle.std.specs.Str.{bytes_eq}
use Rattle.fw_facts.specs.declared.view.DeviceView.{DeviceView}
use Rattle.device_list.proofs.Places.{list_any-map}
use Rattle.device_list.proofs.GuidLaws.{devices_of-sheets}
use Rattle.device_list.specs.Lists.{refused}
use Rattle.device_list.proofs.Adding.{not_full, indexed_after}
use Rattle.device_list.proofs.devices.Devices.add.Goals as goal

pub append-requires : goal.append-requires
append-requires c =
    ap (λ (ids : List (List ℕ)). list_any (bytes_eq c.args.view.sheet.device) ids) (c.self.invariant.ids_of ∙ devices_of-sheets c.self.inside.views.items)
    ∙ list_any-map (λ (view : DeviceView). view.sheet.device) (bytes_eq c.args.view.sheet.device) c.self.inside.views.items
    ∙ ap (λ (views : List DeviceView). list_any (λ view. bytes_eq c.args.view.sheet.device view.sheet.device) views) c.self.view_is
    ∙ rw (← c.device_of-device.ensures) c.in-Ok.ensures.free

pub invariant_of-self : goal.invariant_of-self
invariant_of-self c =
    let e = c.append.ensures in
    let room = not_full c.self.inside.views.items c.device_of-device.result (ap (λ (views : List DeviceView). refused views c.device_of-device.result) c.self.view_is ∙ c.in-Ok.ensures.refused) c.self.invariant.few in
    indexed_after c.self.inside.views.items c.append.new.views.items c.args.view c.self.inside.ids.keys c.append.new.ids.keys c.self.inside.guids c.append.new.guids c.self.invariant
    c.append.result room e.added e.id e.places e.unchanged e.same_ids e.same_places
