use Rattle.std.proofs.Common.{◌≡◌, ◌==◌, drop}
use Rattle.std.specs.List.{find}
use Rattle.emulated_boards.proofs.fault.fault_at.Given as goal

abbrev pub invariant-loop-next : goal.invariant-loop-next
invariant-loop-next l =
    find (λ next. next.call == l.call) (drop l.next-index l.plan) ≡ find (λ next. next.call == l.call) l.plan
