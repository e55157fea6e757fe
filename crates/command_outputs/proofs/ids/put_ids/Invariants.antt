use Rattle.std.proofs.Common.{◌≡◌, ◌++◌, take}
use Rattle.command_outputs.specs.Printed.{ids_output}
use Rattle.command_outputs.proofs.ids.put_ids.Given as goal

abbrev pub invariant-loop-text : goal.invariant-loop-text
invariant-loop-text l = l.out.items ≡ l.fn.out.items ++ ids_output (take l.text-index l.texts)
