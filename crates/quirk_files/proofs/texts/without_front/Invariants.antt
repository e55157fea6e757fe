use Rattle.std.proofs.Common.{◌≡◌, ◌≤◌, ◌-◌, length, drop}
use Rattle.quirk_files.specs.Texts.{without_front}
use Rattle.quirk_files.proofs.texts.without_front.Given as goal

abbrev pub invariant-loop-start : goal.invariant-loop-start
invariant-loop-start l = record {
  behind : l.start ≤ length l.text;
  same : without_front (drop l.start l.text) ≡ without_front l.text;
}

abbrev pub decreases-loop-start : goal.decreases-loop-start
decreases-loop-start l = length l.text - l.start
