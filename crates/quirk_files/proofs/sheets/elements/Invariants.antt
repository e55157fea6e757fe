use Rattle.std.proofs.Common.{◌≡◌, map, take}
use Rattle.std.specs.List.{flat_map}
use Rattle.quirk_files.specs.Sheets.{elements_in}
use Rattle.quirk_files.proofs.sheets.elements.Given as goal

abbrev pub invariant-loop-quirk : goal.invariant-loop-quirk
invariant-loop-quirk l =
    map (λ element. element.now) l.elements.items ≡ flat_map (elements_in l.key) (take l.quirk-index (map (λ quirk. quirk.now) l.quirks))
