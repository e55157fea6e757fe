use Rattle.std.proofs.Common.{◌≡◌, drop}
use Rattle.quirk_files.specs.Flags.{changed}
use Rattle.quirk_files.proofs.changes.changed.Given as goal

abbrev pub invariant-loop-change : goal.invariant-loop-change
invariant-loop-change l = changed l.flags (drop l.change-index l.changes) ≡ changed l.fn.before l.changes
