use Rattle.std.proofs.Common.{rules, ◌+◌, ◌%◌, ◌^◌}
use Rattle.std.specs.Prelude.{◌==◌}
use mathlib.Core.Option.{none}
use prog.Atomic.{either}
use Rattle.atomic_table.specs.Table.{step}
use Rattle.turn_lock.proofs.Turns.{rings}
use Rattle.turn_lock.proofs.steps.ring.Goals as goal

pub compare_exchange-requires : goal.compare_exchange-requires
compare_exchange-requires g c =
    let marked = c.peek-marked.result in
    let rung = (marked + 1) % 2 ^ 64 in
    (search rules, search rules, rings g.V.Chronicle.entries g.V.Chronicle.by _ _ _ _ _ _ (λ n. either (n == marked) rung n) c.bell_of-bell.ensures.0 (step 1 c.bell_of-bell.result marked rung none))
