use Rattle.std.proofs.Common.{◌≡◌, ◌-◌, take}
use Rattle.std.specs.Prelude.{sum_by}
use Rattle.request_verdicts.proofs.decide.without_holds.Given as goal

abbrev pub invariant-loop-hold : goal.invariant-loop-hold
invariant-loop-hold l = l.free ≡ l.initial.free - sum_by (λ x. x.blocks) (take l.hold-index l.holds)
