use Rattle.std.proofs.Common.{List, ap, ◌∙◌, ℕ}
use Rattle.std.specs.Prelude.{position}
use Rattle.std.specs.List.{list_any}
use Rattle.std.specs.Str.{bytes_eq}
use Rattle.fw_facts.specs.declared.view.DeviceView.{DeviceView}
use Rattle.device_list.proofs.Places.{position-map, list_any-map}
use Rattle.device_list.proofs.GuidLaws.{devices_of-sheets}
use Rattle.device_list.proofs.devices.Devices.by_id.Goals as goal

pub returns-clause-first : goal.returns-clause-first
returns-clause-first c =
    c.get_index_of.ensures.index ∙ ap (λ (ids : List (List ℕ)). position (bytes_eq c.args.device.now) ids) (c.self.invariant.ids_of ∙ devices_of-sheets c.self.inside.views.items)
    ∙ position-map (λ (view : DeviceView). view.sheet.device) (bytes_eq c.args.device.now) c.self.inside.views.items
    ∙ ap (λ (views : List DeviceView). position (λ view. bytes_eq c.args.device.now view.sheet.device) views) c.self.view_is

pub returns-clause-found : goal.returns-clause-found
returns-clause-found c =
    c.get_index_of.ensures.found ∙ ap (λ (ids : List (List ℕ)). list_any (bytes_eq c.args.device.now) ids) (c.self.invariant.ids_of ∙ devices_of-sheets c.self.inside.views.items)
    ∙ list_any-map (λ (view : DeviceView). view.sheet.device) (bytes_eq c.args.device.now) c.self.inside.views.items
    ∙ ap (λ (views : List DeviceView). list_any (λ view. bytes_eq c.args.device.now view.sheet.device) views) c.self.view_is
