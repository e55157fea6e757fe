use Rattle.std.proofs.Common.{◌≡◌, ℕ, List, map, take}
use Rattle.std.specs.List.{list_any}
use Rattle.std.specs.Str.{bytes_eq}
use Rattle.quirk_files.proofs.sheets.names_there.Given as goal

abbrev pub invariant-loop-name : goal.invariant-loop-name
invariant-loop-name l =
    (q : List ℕ) → list_any (bytes_eq q) (map (λ name. name.now) l.there.keys) ≡ list_any (bytes_eq q) (take l.name-index l.list)
