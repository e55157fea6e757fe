use Rattle.std.proofs.Common.{ℕ, List, length}
use Rattle.update_plans.specs.Fields.{AreNumbers}
use Rattle.update_plans.proofs.Reading.{IsLeft}
use Rattle.update_plans.proofs.numbers.numbers.Given as goal

abbrev pub invariant-sections : goal.invariant-sections
invariant-sections l = (given : List ℕ) → AreNumbers l.fn.version given → IsLeft given l.numbers.items l.text

abbrev pub decreases-sections : goal.decreases-sections
decreases-sections l = length l.text
