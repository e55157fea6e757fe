use Rattle.std.proofs.Common.{◌≡◌, map, take}
use Rattle.std.specs.List.{filter_map}
use Rattle.quirk_files.proofs.sheets.read_all.Given as goal

abbrev pub invariant-loop-element : goal.invariant-loop-element
invariant-loop-element g l =
    l.read.items ≡ filter_map (g.R.Reader.reads l.reader) (take l.element-index (map (λ element. element.now) l.elements))
