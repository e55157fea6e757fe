use Rattle.std.proofs.Common.{get_or, sym}
use Rattle.fw_facts.specs.declared.view.DeviceView.{DeviceView}
use Rattle.std.proofs.lemmas.Option.{slice_get-get_or}
use Rattle.device_list.proofs.Places.{map-set_same}
use Rattle.device_list.proofs.devices.put.Goals as goal

pub returns-clause-same_sheets : goal.returns-clause-same_sheets
returns-clause-same_sheets c =
    map-set_same (λ (view : DeviceView). view.sheet) c.args.views.now c.args.at c.args.view c.args.view c.requires.place
    (sym (c.requires.same_sheet (get_or c.args.views.now c.args.at c.args.view) (slice_get-get_or c.args.views.now c.args.at c.args.view c.requires.place)))
