use Rattle.std.proofs.Common.{◌≡◌, drop, None}
use Rattle.fw_patterns.specs.Reading.{signs}
use Rattle.fw_patterns.proofs.SignLemmas.{behind}
use Rattle.fw_patterns.proofs.signs.signs_of.Given as goal

abbrev pub invariant-loop-at : goal.invariant-loop-at
invariant-loop-at l = behind l.items.items (signs l.backslash l.at (drop l.at l.text)) ≡ signs None 0 l.text
