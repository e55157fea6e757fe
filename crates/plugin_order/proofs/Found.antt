-- Numbers that are found one after another, each at a place of a list.
use Rattle.std.proofs.Common.{◌≡◌, ℕ, zero, suc, ◌+◌, ◌<◌, ◌⊎◌, inl, inr, Option, Some, None, List, [], ◌∷◌, ◌++◌, length, get_or, set, drop, replicate, IsTrue, refl, sym, ap, ◌∙◌, subst, arith, Bool, length-append}
use Rattle.std.proofs.lemmas.List.{get_or-set_same, get_or-set_other, get_or-replicate}
use Rattle.std.proofs.Math.ListN.{get_or-append, get_or-eq_default, length-replicate}
use Rattle.std.proofs.Math.Seq.{get_or-append_seam}
use Rattle.std.proofs.lemmas.Bool.Decides.{eqb_tells}
use Rattle.std.proofs.lemmas.Bool.{cases_lt}
use Rattle.plugin_order.specs.declared.rules.Rules.{Rules}
use Rattle.plugin_order.specs.Chains.{IsLongest, Leads, IsCycle}
use Rattle.plugin_order.specs.Table.{holds, height_of}
use Rattle.plugin_order.specs.Heights.{IsHeight}
use Rattle.plugin_order.proofs.ChainLaws.{StandsOn}

-- what holds of each number found so far and of the new one holds of each found then
pub set_found : (P : ℕ → ℕ → Type 0) (hs : List (Option ℕ)) (at new : ℕ) → at < length hs → P at new
    → ((p h : ℕ) → height_of hs p ≡ Some h → P p h) → (p h : ℕ) → height_of (set hs at (Some new)) p ≡ Some h → P p h
set_found P hs at new lt here old p h e =
    elim (eqb_tells p at) [
      | inl y ↦ (
          let same : get_or (set hs at (Some new)) at None ≡ Some new = get_or-set_same hs at (Some new) None lt in
          let e' : get_or (set hs at (Some new)) at None ≡ Some h = ap (λ (k : ℕ). get_or (set hs at (Some new)) k None) (sym y.1) ∙ e in
          let hn : new ≡ h = cc in
          let Q : ℕ → Type 0 = λ k. P p k in
          let R : ℕ → Type 0 = λ k. P k new in
          subst Q hn (subst R (sym y.1) here))
      | inr n ↦ old p h (sym (get_or-set_other hs at p (Some new) None n.1) ∙ e)
    ]

pub option_cases : (o : Option ℕ) → (o ≡ None) ⊎ ((h : ℕ) × (o ≡ Some h))
option_cases None = inl refl
option_cases (Some h) = inr (h, refl)

not_both : (o : Option ℕ) (h : ℕ) → o ≡ None → o ≡ Some h → ⊥
not_both o h n s = cc

-- a list of nothing has no number
pub none_found : (n p h : ℕ) → height_of (replicate n None) p ≡ Some h → ⊥
none_found n p h e = elim (cases_lt p n) [
  | inl l ↦ (let s : get_or (replicate n None) p None ≡ None = get_or-replicate n p None None l in not_both _ h s e)
  | inr g ↦ (
      let len : length (replicate {A = Option ℕ} n None) ≡ n = length-replicate n None in
      let s : get_or (replicate n None) p None ≡ None = get_or-eq_default (replicate n None) None (omega arith) in not_both _ h s e)
]

-- a height over the heights of what a plugin's rules lead to
pub stands : (rules : Rules) (hs : List (Option ℕ)) (p height : ℕ)
    → ((q h : ℕ) → height_of hs q ≡ Some h → IsLongest (holds rules) q h)
    → ((q : ℕ) → IsTrue (holds rules p q) → height_of hs q ≡ None → ⊥)
    → IsHeight rules hs p height → StandsOn (holds rules) p height
stands rules hs p height longest all is = record {
  above = λ q r. elim (option_cases (height_of hs q)) [
    | inl n ↦ absurd (all q r n)
    | inr s ↦ (s.0, longest q s.0 s.1, is.above q s.0 r s.1)
  ];
  reached = elim is.reached [
    | inl z ↦ inl z
    | inr w ↦ inr (w.0, w.1, w.2, longest w.0 w.1 w.3, w.4)
  ];
}

-- the path from the place where it comes back to is a cycle
pub cycle_tail : (rule : ℕ → ℕ → Bool) (path : List ℕ) (at step : ℕ) → Leads rule path at → step < length path
    → get_or path step 0 ≡ at → IsCycle rule (drop step path)
cycle_tail rule [] at step h lt e = absurd (omega arith)
cycle_tail rule (x ∷ xs) at zero h lt e = let P : ℕ → Type 0 = λ r. Leads rule (x ∷ xs) r in subst P (sym e) h
cycle_tail rule (x ∷ xs) at (suc i) h lt e = cycle_tail rule xs at i h.1 (omega arith) e

-- the place of each step of a path, once one more is made
pub kept_more : (steps : List (Option ℕ)) (path : List ℕ) (at : ℕ) → at < length steps
    → ((k i : ℕ) → height_of steps k ≡ Some i → (i < length path) × (get_or path i 0 ≡ k))
    → (k i : ℕ) → height_of (set steps at (Some (length path))) k ≡ Some i
    → (i < length (path ++ at ∷ [])) × (get_or (path ++ at ∷ []) i 0 ≡ k)
kept_more steps path at lt old =
    let len : length (path ++ at ∷ []) ≡ length path + 1 = length-append path (at ∷ []) in
    set_found (λ k i. (i < length (path ++ at ∷ [])) × (get_or (path ++ at ∷ []) i 0 ≡ k)) steps at (length path) lt
    (omega arith, get_or-append_seam path at [] 0)
    (λ k i e. let o : (i < length path) × (get_or path i 0 ≡ k) = old k i e in
    (omega arith, get_or-append path (at ∷ []) 0 i o.0 ∙ o.1))
