-- The least number below a bound that passes a test.
use Rattle.std.proofs.Common.{◌≡◌, ℕ, zero, suc, ◌<◌, Bool, true, false, Some, None, inl, inr, refl, sym, arith}
use Rattle.std.proofs.lemmas.Bool.{cases_eq}
use Rattle.update_plans.specs.RawNumbers.{least_below}

-- there is none where none passes
pub least_below-none : (test : ℕ → Bool) (bound : ℕ) → ((n : ℕ) → n < bound → test n ≡ false) → least_below test bound ≡ None
unfolding least_below
least_below-none test zero fails = refl
least_below-none test (suc bound) fails =
    rw (least_below-none test bound (λ n h. fails n (omega arith)), fails bound (omega arith)) refl

-- a number that passes is the least where no lower one does
pub least_below-is : (test : ℕ → Bool) (bound least : ℕ) → least < bound → test least ≡ true → ((n : ℕ) → n < least → test n ≡ false)
    → least_below test bound ≡ Some least
unfolding least_below
least_below-is test zero least h passes fails = absurd (omega arith)
least_below-is test (suc bound) least h passes fails =
    elim (cases_eq least bound) [
      | inl last ↦ rw (least_below-none test bound (λ n below. fails n (omega arith)), sym last, passes) refl
      | inr other ↦ rw (least_below-is test bound least (omega arith) passes fails) refl
    ]
