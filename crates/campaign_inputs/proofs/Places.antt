-- The places of the plugins that run differ, and what stands there.
use Rattle.std.proofs.Common.{◌≡◌, ℕ, ◌+◌, ◌<◌, ◌≤◌, inl, inr, Bool, true, false, cond, Option, Some, List, [], ◌∷◌, length, map, get_or, All, slice_get, slice_index_or, refl, sym, ap, ◌∙◌, subst, arith}
use Rattle.std.specs.Prelude.{nat_eq, filter}
use Rattle.std.specs.Option.{option_map}
use Rattle.std.specs.List.{AllByRecursion, IsDistinct, range_with_len}
use Rattle.std.proofs.lemmas.Bool.Decides.{eqb_tells}
use Rattle.std.proofs.lemmas.List.Elements.{All-filter}
use Rattle.std.proofs.lemmas.List.FromFn.{length-range_with_len, get_or-range_with_len}
use Rattle.std.proofs.lemmas.Map.Keys.{IsDistinct-cons, IsDistinct-from_apart, IsDistinct-head, IsDistinct-IsPermutation, IsDistinct-tail}
use Rattle.std.proofs.lemmas.Option.{slice_get-map}
use Rattle.plugin_order.specs.declared.sheet.PluginSheet.{PluginSheet}
use Rattle.plugin_order.specs.declared.arrangement.Arrangement.{Arrangement}
use Rattle.plugin_order.specs.Sheets.{name_at, name_of}
use Rattle.plugin_order.specs.Arranged.{CanBeArranged, IsArrangement}
use Rattle.plugin_order.proofs.SeatLaws.{order_within}
use Rattle.site_making.specs.Priorities.{AreEnabledOf, running}
use Rattle.campaign_inputs.specs.Chosen.{AreAt}

-- ---- one more turn of a loop

-- ---- the places of those that run

not_same : (p q : ℕ) → (p ≡ q → ⊥) → nat_eq p q ≡ false
not_same p q n = elim (eqb_tells p q) [ inl same ↦ absurd (n same.1) | inr other ↦ other.0 ]

flips : (p q : ℕ) → nat_eq p q ≡ nat_eq q p
flips p q = elim (eqb_tells p q) [
  | inl same ↦ rw same.1 refl
  | inr other ↦ other.0 ∙ sym (not_same q p (λ e. other.1 (sym e)))
]

all_differ : (n : ℕ) → IsDistinct nat_eq (range_with_len 0 n)
all_differ n = IsDistinct-from_apart nat_eq (range_with_len 0 n) (λ i j d low high.
    let long : length (range_with_len 0 n) ≡ n = length-range_with_len 0 n in
    let one : get_or (range_with_len 0 n) i d ≡ 0 + i = get_or-range_with_len 0 n i d (omega arith) in
    let two : get_or (range_with_len 0 n) j d ≡ 0 + j = get_or-range_with_len 0 n j d (omega arith) in
    not_same _ _ (λ e. omega arith))

all_filtered : (P : ℕ → Type 0) (test : ℕ → Bool) (ps : List ℕ) → AllByRecursion P ps → AllByRecursion P (filter test ps)
all_filtered P test [] all = tt
all_filtered P test (p ∷ ps) all = elim (test p) as (λ v. AllByRecursion P (cond v (p ∷ filter test ps) (filter test ps))) [
  | true ↦ (all.0, all_filtered P test ps all.1)
  | false ↦ all_filtered P test ps all.1
]

differ_filtered : (test : ℕ → Bool) (ps : List ℕ) → IsDistinct nat_eq ps → IsDistinct nat_eq (filter test ps)
differ_filtered test [] apart = apart
differ_filtered test (p ∷ ps) apart =
    let rest : IsDistinct nat_eq (filter test ps) = differ_filtered test ps (IsDistinct-tail nat_eq p ps apart) in
    elim (test p) as (λ v. IsDistinct nat_eq (cond v (p ∷ filter test ps) (filter test ps))) [
      | true ↦ IsDistinct-cons nat_eq p (filter test ps)
          (all_filtered (λ q. nat_eq p q ≡ false) test ps (IsDistinct-head nat_eq p ps apart)) rest
      | false ↦ rest
    ]

pub running_differ : (sheets : List PluginSheet) (a : Arrangement) → IsArrangement sheets a → IsDistinct nat_eq (running a)
running_differ sheets a arranged = differ_filtered (λ p. slice_index_or a.enabled p false) a.order
    (IsDistinct-IsPermutation nat_eq flips (range_with_len 0 (length sheets)) a.order arranged.order.once (all_differ (length sheets)))

pub running_within : (sheets : List PluginSheet) (a : Arrangement) (n : ℕ) → IsArrangement sheets a → length sheets ≡ n → All (λ p. p < n) (running a)
running_within sheets a n arranged e = subst (λ (m : ℕ). All (λ p. p < m) (running a)) e
    (All-filter (λ p. slice_index_or a.enabled p false) (λ p. p < length sheets) a.order (order_within sheets arranged.places a.order arranged.order))

-- ---- what stands at places

seen : {A B : Type 0} (f : A → B) (ys : List A) → map Some (map f ys) ≡ map (option_map f) (map Some ys)
seen f [] = refl
seen f (y ∷ ys) = ap (λ (zs : List (Option _)). Some (f y) ∷ zs) (seen f ys)

looked : {A B : Type 0} (f : A → B) (xs : List A) (ps : List ℕ) → map (option_map f) (map (slice_get xs) ps) ≡ map (slice_get (map f xs)) ps
looked f xs [] = refl
looked f xs (p ∷ ps) = rw (slice_get-map f xs p, looked f xs ps) refl

-- what is made of each is made of those at the places
pub at_map : {A B : Type 0} (f : A → B) (xs ys : List A) (ps : List ℕ) → AreAt xs ps ys → AreAt (map f xs) ps (map f ys)
at_map f xs ys ps h = seen f ys ∙ ap (map (option_map f)) h ∙ looked f xs ps

named : (sheets : List PluginSheet) → map name_of (map Some sheets) ≡ map (λ (s : PluginSheet). s.name) sheets
named [] = refl
named (s ∷ sheets) = ap (λ (names : List (List ℕ)). s.name ∷ names) (named sheets)

named_at : (sheets : List PluginSheet) (ps : List ℕ) → map name_of (map (slice_get sheets) ps) ≡ map (name_at sheets) ps
named_at sheets [] = refl
named_at sheets (p ∷ ps) = ap (λ (names : List (List ℕ)). name_at sheets p ∷ names) (named_at sheets ps)

of_each : {A : Type 0} (sheet : A → PluginSheet) (xs : List A) → map (λ x. (sheet x).name) xs ≡ map (λ (s : PluginSheet). s.name) (map sheet xs)
of_each sheet [] = refl
of_each sheet (x ∷ xs) = ap (λ (names : List (List ℕ)). (sheet x).name ∷ names) (of_each sheet xs)

-- ---- those that were started

-- what is made of those at the places, once they changed
pub made_at : {A B : Type 0} (before after : A → B) (all old new : List A) (places running : List ℕ) → places ≡ running → AreAt all places old
    → map after new ≡ map before old → AreAt (map before all) running (map after new)
made_at before after all old new places running is at made =
    subst (λ (ps : List ℕ). AreAt (map before all) ps (map after new)) is
    (ap (map Some) made ∙ at_map before all old places at)

pub enabled_of : {A : Type 0} (sheet : A → PluginSheet) (all new : List A) (sheets : List PluginSheet) (a : Arrangement)
    → length all ≤ 64 → length (map sheet all) ≡ length all → sheets ≡ map sheet all → CanBeArranged sheets → IsArrangement sheets a
    → AreAt (map sheet all) (running a) (map sheet new) → AreEnabledOf (map sheet all) a (map (λ x. (sheet x).name) new)
enabled_of sheet all new sheets a few long is possible arranged at = record {
  few = rw long few;
  possible = subst CanBeArranged is possible;
  arranged = subst (λ (s : List PluginSheet). IsArrangement s a) is arranged;
  named = of_each sheet new ∙ sym (named (map sheet new)) ∙ ap (map name_of) at ∙ named_at (map sheet all) (running a);
}
