use Rattle.std.proofs.Common.{ℕ, ◌≤◌, All, List, sym, subst}
use Rattle.site_making.proofs.Adding.{small_priorities}
use Rattle.site_making.proofs.priorities.Running.of.Goals as goal

pub invariant_of-result : goal.invariant_of-result
invariant_of-result g c = record {
  small = subst (λ (numbers : List ℕ). All (λ priority. priority ≤ 64) numbers) (sym c.in_ok-priorities_of.ensures)
      (small_priorities c.requires.0 c.args.arrangement.now _ c.requires.1);
}
