use Rattle.std.proofs.Common.{◌≡◌, take}
use Rattle.site_remotes.specs.Told.{with_kept}
use Rattle.site_remotes.proofs.gathering.with_kept.Given as goal

abbrev pub invariant-loop-i : goal.invariant-loop-i
invariant-loop-i l = l.told.items ≡ with_kept (take l.i l.stated) (take l.i l.kept)
