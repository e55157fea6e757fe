use Rattle.std.proofs.Common.{ap}
use Rattle.turn_lock.specs.declared.boxed.Boxed.{Boxed}
use Rattle.turn_lock.specs.Steps.{Seated}
use Rattle.turn_lock.proofs.lock.TurnLock.enter.Goals as goal

-- the value is out with the seat whose turn has come
pub take-boxed-requires-clause-full : goal.take-boxed-requires-clause-full
take-boxed-requires-clause-full g c =
    let turn = c.wait_for.ensures.turn in (turn.0, ap (λ (m : Seated (Boxed g.row.V.Denot) g.row.V-Entry.Denot). m.1) turn.1.value.1)
