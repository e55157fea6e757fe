use Rattle.std.proofs.Common.{◌≡◌, ◌+◌, ◌<◌, ◌⊎◌, true, false, is_some, inl, inr, ⊎_elim, sym, ◌∙◌, arith}
use Rattle.std.proofs.lemmas.Bool.{cases_lt}
use Rattle.emulated_boards.specs.Plans.{planned}
use Rattle.emulated_boards.proofs.Counting.{counted-fault, counted-none}
use Rattle.emulated_boards.proofs.fault.FaultPlan.next_call.Goals as goal

pub invariant_of-self : goal.invariant_of-self
invariant_of-self c =
    let was = c.args.self.now in
    let now = c.saturating_add-self.result in
    let fault : is_some (planned was.planned.items now) ≡ true = cc in
    let small = c.fault_at-fault.ensures.small (sym c.is_some.ensures ∙ c.if-is_some.true) in
    let one_more : now ≡ was.calls + 1 = omega arith in
    record {
      rising = was.rising;
      counted = counted-fault was.planned.items was.faults was.calls now was.rising was.counted one_more fault;
    }

pub invariant_of-self-else-is_some : goal.invariant_of-self-else-is_some
invariant_of-self-else-is_some c =
    let was = c.args.self.now in
    let now = c.saturating_add-self.result in
    let none : is_some (planned was.planned.items now) ≡ false = cc in
    let one_more : (now ≡ was.calls + 1) ⊎ (now ≡ was.calls) =
    ⊎_elim (λ (h : was.calls < 18446744073709551615). inl (omega arith)) (λ h. inr (omega arith)) (cases_lt was.calls 18446744073709551615) in
    record {
      rising = was.rising;
      counted = counted-none was.planned.items was.faults was.calls now was.rising was.counted one_more none;
    }
