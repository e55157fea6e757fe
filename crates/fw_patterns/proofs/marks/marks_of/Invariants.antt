use Rattle.std.proofs.Common.{◌≡◌, drop, false}
use Rattle.fw_patterns.specs.Reading.{marks}
use Rattle.fw_patterns.proofs.SignLemmas.{behind}
use Rattle.fw_patterns.proofs.marks.marks_of.Given as goal

abbrev pub invariant-loop-index : goal.invariant-loop-index
invariant-loop-index l = behind l.items.items (marks l.inside l.end (drop l.index l.signs)) ≡ marks false l.end l.signs
