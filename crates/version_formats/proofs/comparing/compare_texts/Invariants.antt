use Rattle.std.proofs.Common.{◌≡◌, length}
use Rattle.version_formats.specs.VersionOrder.{version_cmp}
use Rattle.version_formats.proofs.comparing.compare_texts.Given as goal

abbrev pub invariant-sections : goal.invariant-sections
invariant-sections l = version_cmp l.left l.right ≡ version_cmp l.fn.left l.fn.right

abbrev pub decreases-sections : goal.decreases-sections
decreases-sections l = length l.left
