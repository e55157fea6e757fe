use Rattle.std.proofs.Common.{refl}
use Rattle.fw_facts.specs.declared.view.DeviceView.{DeviceView}
use Rattle.device_list.proofs.Places.{map-set_same}
use Rattle.device_list.proofs.devices.put_claim.Goals as goal

pub returns-clause-same_sheets : goal.returns-clause-same_sheets
returns-clause-same_sheets c =
    map-set_same (λ (view : DeviceView). view.sheet) c.args.views.now c.args.at _ c.index-views-at.result c.requires refl
