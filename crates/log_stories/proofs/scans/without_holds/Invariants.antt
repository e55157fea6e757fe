use Rattle.std.proofs.Common.{◌≡◌, ◌-◌, drop}
use Rattle.log_stories.specs.Plain.{held_in}
use Rattle.log_stories.proofs.scans.without_holds.Given as goal

abbrev pub invariant-loop-at : goal.invariant-loop-at
invariant-loop-at l = l.free - held_in (drop l.at l.log) ≡ l.initial.free - held_in l.log
