use Rattle.std.proofs.Common.{◌≡◌, ◌-◌, take}
use Rattle.std.specs.Prelude.{sum_by}
use Rattle.request_verdicts.proofs.decide.without_live.Given as goal

abbrev pub invariant-loop-entry : goal.invariant-loop-entry
invariant-loop-entry l = l.free ≡ l.initial.free - sum_by (λ x. x.blocks) (take l.entry-index l.live)
