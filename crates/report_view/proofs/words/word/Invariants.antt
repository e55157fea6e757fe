use Rattle.std.proofs.Common.{◌≡◌, ◌-◌}
use Rattle.report_view.specs.Words.{word}
use Rattle.report_view.proofs.words.word.Given as goal

abbrev pub invariant-loop-passed : goal.invariant-loop-passed
invariant-loop-passed l = word (l.at - l.passed) l.rest ≡ word l.at l.line
