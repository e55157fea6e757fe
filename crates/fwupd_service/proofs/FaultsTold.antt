-- That a log tells no fault of a keeper that counted none.
use Rattle.std.proofs.Common.{◌≡◌, ◌⊎◌, ℕ, ◌<◌, ◌≤◌, ◌+◌, Bool, false, List, [], ◌∷◌, refl, sym, ap, ◌∙◌, inl, inr, arith}
use Rattle.std.proofs.lemmas.List.Sorted.{IsPermutation-reverse, list_any-IsPermutation}
use Rattle.std.proofs.lemmas.Bool.{or_from}
use Rattle.std.specs.List.{list_any}
use Rattle.std.specs.Prelude.{if◌then◌else◌}
use Rattle.update_log.proofs.Lists.{by_test}
use Rattle.update_log.specs.declared.event.Event.{Event}
use Rattle.update_log.specs.Pasts.{meets_fault, past_of}
use Rattle.daemon_core.specs.Keeping.{keeper_faults}
use Rattle.fwupd_service.specs.Telling.{any_fault}

none-told : (past : List Event) → keeper_faults past ≡ 0 → list_any meets_fault past ≡ false
none-told [] z = refl
none-told (event ∷ past) z =
    let counted = λ (b : Bool). if b then keeper_faults past + 1 else keeper_faults past in
    by_test (meets_fault event) (list_any meets_fault (event ∷ past) ≡ false)
    (λ t. let bad : keeper_faults past + 1 ≡ 0 = ap counted (sym t) ∙ z in absurd (omega (arith, bad)))
    (λ f. or_from (meets_fault event) (list_any meets_fault past) f (none-told past (ap counted (sym f) ∙ z)))

pub no-fault-told : (log : List Event) → keeper_faults (past_of log) ≡ 0 → any_fault log ≡ false
no-fault-told log z = list_any-IsPermutation meets_fault log (past_of log) (IsPermutation-reverse log) ∙ none-told (past_of log) z

-- A count that didn't rise, and isn't at its end, had nothing to count.
pub counted-none : (most met was is : ℕ) → (met + was ≤ is) ⊎ (most ≤ is) → is ≡ was → was < most → met ≡ 0
counted-none most met was is (inl l) e w = omega (arith, l, e)
counted-none most met was is (inr l) e w = absurd (omega (arith, l, e, w))
