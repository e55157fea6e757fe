use Rattle.std.proofs.Common.{◌≡◌, ◌≤◌, length, take}
use Rattle.quirk_files.specs.Texts.{without_back}
use Rattle.quirk_files.proofs.texts.without_back.Given as goal

abbrev pub invariant-loop-end : goal.invariant-loop-end
invariant-loop-end l = record {
  within : l.end ≤ length l.text;
  same : without_back (take l.end l.text) ≡ without_back l.text;
}

abbrev pub decreases-loop-end : goal.decreases-loop-end
decreases-loop-end l = l.end
