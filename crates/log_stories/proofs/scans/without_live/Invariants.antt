use Rattle.std.proofs.Common.{◌≡◌, ◌-◌, drop}
use Rattle.log_stories.specs.Plain.{live_in}
use Rattle.log_stories.proofs.scans.without_live.Given as goal

abbrev pub invariant-loop-at : goal.invariant-loop-at
invariant-loop-at l = l.free - live_in (drop l.at l.log) ≡ l.initial.free - live_in l.log
