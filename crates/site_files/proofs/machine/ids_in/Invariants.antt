use Rattle.std.proofs.Common.{◌≡◌, []}
use Rattle.json_values.specs.Trees.{members_view}
use Rattle.site_files.specs.Machines.{each_id}
use Rattle.site_files.proofs.machine.ids_in.Given as goal

abbrev pub invariant-loop-key : goal.invariant-loop-key
invariant-loop-key l = each_id l.spot l.ids.items (members_view l.key-iterator) ≡ each_id l.spot [] (members_view l.members.entries)
