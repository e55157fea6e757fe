-- A chain of rules that form no cycle is no longer than there are plugins.
use Rattle.std.proofs.Common.{◌≡◌, ℕ, ◌<◌, ◌≤◌, inl, inr, Bool, true, false, IsTrue, Option, Some, None, List, [], ◌∷◌, length, slice_get, refl, sym, subst, arith}
use Rattle.std.specs.Prelude.{nat_eq}
use Rattle.std.specs.List.{AllByRecursion, IsDistinct, list_any}
use Rattle.std.proofs.lemmas.Bool.Decides.{eqb_tells}
use Rattle.std.proofs.lemmas.Map.Keys.{IsDistinct-cons}
use Rattle.std.proofs.lemmas.Map.Steps.{length-le_from_distinct_below}
use Rattle.std.proofs.lemmas.Option.{slice_get_cases}
use Rattle.plugin_order.specs.declared.sheet.PluginSheet.{PluginSheet}
use Rattle.plugin_order.specs.declared.rules.Kind.TheVariants.{IsBetter}
use Rattle.plugin_order.specs.Chains.{Chain, Leads}
use Rattle.plugin_order.specs.Sheets.{is_better, related, rule_of}
use Rattle.plugin_order.specs.Arranged.{HasNoCycle, IsPriority}

-- each plugin of a chain is reached from its start
reached : (rule : ℕ → ℕ → Bool) (p : ℕ) (qs : List ℕ) (x : ℕ) → Chain rule p qs → list_any (nat_eq x) qs ≡ true
    → (ps : List ℕ) × Leads rule (p ∷ ps) x
reached rule p [] x ch h = cc
reached rule p (q ∷ qs) x ch h = elim (eqb_tells x q) [
  | inl same ↦ ([], (subst (λ (z : ℕ). IsTrue (rule p z)) (sym same.1) ch.0, tt))
  | inr other ↦ (
      let rest : (ps : List ℕ) × Leads rule (q ∷ ps) x = reached rule q qs x ch.1 (rw other.0 at h) in
      (q ∷ rest.0, (ch.0, rest.1)))
]

all_other : (q : ℕ) (ys : List ℕ) → (list_any (nat_eq q) ys ≡ true → ⊥) → AllByRecursion (λ y. nat_eq q y ≡ false) ys
all_other q [] none = tt
all_other q (y ∷ ys) none = elim (eqb_tells q y) [
  | inl same ↦ absurd (none (rw same.0 refl))
  | inr other ↦ (other.0, all_other q ys (λ h. none (rw other.0 h)))
]

-- without a cycle no plugin is in a chain twice
distinct : (rule : ℕ → ℕ → Bool) (p : ℕ) (qs : List ℕ) → HasNoCycle rule → Chain rule p qs → IsDistinct nat_eq qs
unfolding IsDistinct
distinct rule p [] none ch = tt
distinct rule p (q ∷ qs) none ch =
    IsDistinct-cons nat_eq q qs
    (all_other q qs (λ h. let r : (ps : List ℕ) × Leads rule (q ∷ ps) q = reached rule q qs q ch.1 h in none (q ∷ r.0) r.1))
    (distinct rule q qs none ch.1)

no_rule : (o : Option PluginSheet) → related (rule_of IsBetter) o None ≡ false
no_rule None = refl
no_rule (Some s) = refl

-- a rule leads to a plugin that is there
below : (sheets : List PluginSheet) (p q : ℕ) → IsTrue (is_better sheets p q) → q < length sheets
below sheets p q h = elim (slice_get_cases sheets q).1 [
  | inl there ↦ there.1
  | inr past ↦ absurd (
      let none : slice_get sheets q ≡ None = past.1 in
      let is : related (rule_of IsBetter) (slice_get sheets p) None ≡ true = rw none at h in
      let not : related (rule_of IsBetter) (slice_get sheets p) None ≡ false = no_rule (slice_get sheets p) in
      cc)
]

all_below : (sheets : List PluginSheet) (p : ℕ) (qs : List ℕ) → Chain (is_better sheets) p qs
    → (x : ℕ) → list_any (nat_eq x) qs ≡ true → x < length sheets
all_below sheets p [] ch x h = cc
all_below sheets p (q ∷ qs) ch x h = elim (eqb_tells x q) [
  | inl same ↦ subst (λ (z : ℕ). z < length sheets) (sym same.1) (below sheets p q ch.0)
  | inr other ↦ all_below sheets q qs ch.1 x (rw other.0 at h)
]

-- so no priority is above the number of plugins
pub few_better : (sheets : List PluginSheet) (p k : ℕ) → HasNoCycle (is_better sheets) → IsPriority sheets p k → k ≤ length sheets
few_better sheets p k none is =
    let most : length is.shown.0 ≤ length sheets =
    length-le_from_distinct_below is.shown.0 (length sheets) (distinct (is_better sheets) p is.shown.0 none is.shown.1)
    (all_below sheets p is.shown.0 is.shown.1) in
    omega (arith, is.shown.2)
