use Rattle.std.proofs.Common.{◌≡◌, drop}
use Rattle.json.specs.Value.{members_view as entries_view}
use Rattle.serde_json.specs.Data.{no_members}
use Rattle.json_values.specs.Trees.{members_of, members_view}
use Rattle.json_values.proofs.ordered.in_order.Given as goal

abbrev pub invariant-loop-entry : goal.invariant-loop-entry
invariant-loop-entry l = members_of (entries_view (drop l.entry-index l.list)) (members_view l.found.entries) ≡ members_of (entries_view l.list) no_members
