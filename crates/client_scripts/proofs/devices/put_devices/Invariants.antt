use Rattle.client_scripts.specs.Replies.{device_line}
use Rattle.client_scripts.proofs.Pieces.{PutUpTo}
use Rattle.client_scripts.proofs.devices.put_devices.Given as goal

abbrev pub invariant-loop-view : goal.invariant-loop-view
invariant-loop-view l = PutUpTo (device_line l.machine l.rows) l.views l.view-index l.fn.out.items l.out.items
