use Rattle.turn_lock.specs.Shown.{IsReady}
use Rattle.turn_lock.proofs.tests.count_up.Given as goal

abbrev pub invariant-loop-count : goal.invariant-loop-count
invariant-loop-count g l = IsReady l.lock.id l.pass
