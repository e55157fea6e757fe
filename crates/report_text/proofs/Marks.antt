-- The words of two lists of marks, one behind the other.
use Rattle.std.proofs.Common.{◌≡◌, List, ◌++◌}
use Rattle.std.proofs.lemmas.Grind.{flat_map-append}
use Rattle.emulated_boards.specs.declared.mark.Mark.{Mark}
use Rattle.report_text.specs.Lines.{mark_text, marks_text}

pub parts_text : (xs ys : List Mark) → marks_text (xs ++ ys) ≡ marks_text xs ++ marks_text ys
parts_text xs ys = flat_map-append mark_text xs ys
