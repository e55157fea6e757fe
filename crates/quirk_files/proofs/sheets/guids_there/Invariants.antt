use Rattle.std.proofs.Common.{◌≡◌, ℕ, List, take}
use Rattle.std.specs.List.{list_any}
use Rattle.std.specs.Str.{bytes_eq}
use Rattle.quirk_files.proofs.sheets.guids_there.Given as goal

abbrev pub invariant-loop-guid : goal.invariant-loop-guid
invariant-loop-guid l = (q : List ℕ) → list_any (bytes_eq q) l.there.keys ≡ list_any (bytes_eq q) (take l.guid-index l.list)
