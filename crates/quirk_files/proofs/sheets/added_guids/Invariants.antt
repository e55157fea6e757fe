use Rattle.std.proofs.Common.{◌≡◌, ℕ, List, drop}
use Rattle.std.specs.List.{list_any}
use Rattle.std.specs.Str.{bytes_eq}
use Rattle.quirk_files.specs.Sheets.{added}
use Rattle.quirk_files.proofs.sheets.added_guids.Given as goal

abbrev pub invariant-loop-next : goal.invariant-loop-next
invariant-loop-next l = record {
  known : (q : List ℕ) → list_any (bytes_eq q) l.there.keys ≡ list_any (bytes_eq q) l.all.items;
  to_add : added l.all.items (drop l.next-index l.more) ≡ added l.list l.more;
}
