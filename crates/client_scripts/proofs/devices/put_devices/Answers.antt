use Rattle.std.proofs.Common.{ap, ◌∙◌, ℕ, ◌++◌}
use Rattle.std.specs.Prelude.{Option}
use Rattle.client_scripts.specs.Replies.{device_line, reply_line, told_text}
use Rattle.client_scripts.proofs.Pieces.{put_one}
use Rattle.client_scripts.proofs.devices.put_devices.Goals as goal

pub loop-view-preserved : goal.loop-view-preserved
loop-view-preserved c =
    put_one (device_line c.args.machine.now c.args.rows.now) c.args.views.now c.loop-view.view-index c.view-item.result _ _ _ c.loop-view-test.true c.view-item.is c.loop-view.invariant
    (c.in_ok-put_device.ensures ∙ ap (λ (o : Option ℕ). c.loop-view.out.items ++ reply_line (told_text c.args.machine.now c.view-item.result o)) (c.entry_of-entry.ensures ∙ c.in_ok-waiting.ensures c.view-item.result.sheet.device))
