use Rattle.std.proofs.Common.{◌≡◌, drop}
use Rattle.fw_patterns.specs.Places.{some_branch}
use Rattle.fw_patterns.proofs.pattern.Pattern.matches.Given as goal

abbrev pub invariant-loop-branch : goal.invariant-loop-branch
invariant-loop-branch l = some_branch (drop l.branch-index l.self) l.text ≡ some_branch l.self l.text
