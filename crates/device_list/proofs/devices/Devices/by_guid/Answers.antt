use Rattle.std.proofs.Common.{◌∙◌, ap, List, ℕ}
use Rattle.std.specs.Prelude.{position}
use Rattle.std.specs.List.{find}
use Rattle.fw_facts.specs.declared.view.DeviceView.{DeviceView}
use Rattle.device_list.specs.Lists.{shows}
use Rattle.device_list.specs.Guids.{shows_at, places_of, sheets}
use Rattle.device_list.proofs.GuidLaws.{find-places_of}
use Rattle.device_list.proofs.devices.Devices.by_guid.Goals as goal

pub returns : goal.returns
returns c =
    c.first_showing.ensures
    ∙ ap (λ (places : List ℕ). find (shows_at c.args.guid.now c.deref.result.now) places) (c.listed.ensures ∙ c.self.invariant.places c.args.guid.now)
    ∙ ap (λ (views : List DeviceView). find (shows_at c.args.guid.now views) (places_of c.args.guid.now (sheets c.self.inside.views.items))) c.deref.ensures.value
    ∙ find-places_of c.args.guid.now c.self.inside.views.items
    ∙ ap (λ (views : List DeviceView). position (shows c.args.guid.now) views) c.self.view_is
