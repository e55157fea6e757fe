use Rattle.std.proofs.Common.{◌≡◌, ◌++◌, take}
use Rattle.std.specs.List.{flat_map}
use Rattle.command_outputs.specs.Printed.{remote_line}
use Rattle.command_outputs.proofs.remotes.put_remotes.Given as goal

abbrev pub invariant-loop-remote : goal.invariant-loop-remote
invariant-loop-remote l = l.out.items ≡ l.fn.out.items ++ flat_map remote_line (take l.remote-index l.remotes)
