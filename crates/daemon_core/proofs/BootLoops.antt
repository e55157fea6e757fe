-- One more board is started.
use Rattle.std.proofs.Common.{◌≡◌, ◌≢◌, ℕ, zero, suc, true, false, ◌+◌, ◌<◌, ◌≤◌, List, [], ◌∷◌, ◌++◌, refl, ap, sym, ◌∙◌, arith, length, subst}
use Rattle.std.proofs.Math.ListN.{set}
use Rattle.std.specs.Prelude.{Some, ◌==◌, slice_get}
use Rattle.std.proofs.lemmas.Bool.{eqb-true}
use Rattle.update_log.proofs.CrashOnce.{get-before}
use Rattle.update_log.proofs.Lists.{by_test, eqb-self}
use Rattle.update_log.proofs.StepsKept.{get-last}
use Rattle.update_log.specs.declared.event.BoardSeen.{BoardSeen}
use Rattle.update_log.specs.declared.facts.BootPlan.{BootPlan}
use Rattle.update_log.specs.Legal.{is_absent}
use Rattle.daemon_core.specs.Booting.{Started, StartedAt}
use Rattle.daemon_core.specs.Housed.{Place}

pub get-set_same : {X : Type 0} (xs : List X) (i : ℕ) (x : X) → i < length xs → slice_get (set xs i x) i ≡ Some x
get-set_same [] i x l = absurd (omega arith)
get-set_same (y ∷ ys) zero x l = refl
get-set_same (y ∷ ys) (suc i) x l = get-set_same ys i x (omega arith)

pub get-set_other : {X : Type 0} (xs : List X) (i n : ℕ) (x : X) → i ≢ n → slice_get (set xs i x) n ≡ slice_get xs n
get-set_other [] i n x d = refl
get-set_other (y ∷ ys) zero zero x d = absurd (d refl)
get-set_other (y ∷ ys) zero (suc n) x d = refl
get-set_other (y ∷ ys) (suc i) zero x d = refl
get-set_other (y ∷ ys) (suc i) (suc n) x d = get-set_other ys i n x (λ e. d (ap suc e))

module _ (plan : BootPlan) (old now : List Place) (listed : List BoardSeen) (i : ℕ) (p after : Place) (seen : BoardSeen)
    (count : length listed ≡ i) (within : i < length now) (is : slice_get old i ≡ Some p) (s : Started (is_absent plan i) i p after seen) where
  pub started-more : ((n : ℕ) (q : Place) → n < i → slice_get old n ≡ Some q → StartedAt plan n q now listed)
      → (n : ℕ) (q : Place) → n < i + 1 → slice_get old n ≡ Some q → StartedAt plan n q (set now i after) (listed ++ seen ∷ [])
  started-more done n q l e =
      by_test (n == i) _
      (λ t. let m : n ≡ i = eqb-true n i t in here m)
      (λ f. earlier (λ m. let t : (i == i) ≡ false = subst (λ (x : ℕ). (x == i) ≡ false) m f in unequal t))
    where
      unequal : (i == i) ≡ false → ⊥
      unequal t = let s : (i == i) ≡ true = eqb-self i in cc

      here : n ≡ i → StartedAt plan n q (set now i after) (listed ++ seen ∷ [])
      here m =
          let same : p ≡ q = (let x : Some p ≡ Some q = sym is ∙ ap (slice_get old) (sym m) ∙ e in cc) in
          subst (λ (x : ℕ). StartedAt plan x q (set now i after) (listed ++ seen ∷ [])) (sym m)
          (subst (λ (x : Place). StartedAt plan i x (set now i after) (listed ++ seen ∷ [])) same
          (after, seen, get-set_same now i after within, ap (slice_get (listed ++ seen ∷ [])) (sym count) ∙ get-last listed seen, s))

      earlier : n ≢ i → StartedAt plan n q (set now i after) (listed ++ seen ∷ [])
      earlier d =
          let t = done n q (omega (arith, l, d)) e in
          (t.0, t.1, get-set_other now i n after (λ m. d (sym m)) ∙ t.2, get-before listed seen t.1 n t.3, t.4)

pub rest-more : (old now : List Place) (i : ℕ) (after : Place) → ((n : ℕ) → i ≤ n → slice_get now n ≡ slice_get old n) → (n : ℕ) → i + 1 ≤ n → slice_get (set now i after) n ≡ slice_get old n
rest-more old now i after rest n l = get-set_other now i n after (omega (arith, l)) ∙ rest n (omega (arith, l))
