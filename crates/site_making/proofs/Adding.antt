-- What the names of the plugins that run add, said of the sheets of all plugins.
use Rattle.std.proofs.Common.{◌≡◌, ℕ, ◌+◌, ◌<◌, ◌≤◌, inl, inr, Bool, true, false, not, Option, Some, None, List, [], length, get_or, slice_index, slice_index_or, All, refl, sym, ap, ◌∙◌, subst, arith, ◌∷◌, map}
use Rattle.std.specs.Prelude.{nat_eq, nat_lt, bytes_eq, filter, position}
use Rattle.std.specs.List.{Any, Contains, list_any, position_or_len, range_with_len}
use Rattle.std.proofs.lemmas.Bool.{eq-eqb, eqb-true, lt-ltb}
use Rattle.std.proofs.lemmas.Bool.Decides.{eqb_tells, leb_tells}
use Rattle.std.proofs.lemmas.List.{length-map, get_or-map, get_or_read}
use Rattle.std.proofs.lemmas.List.Elements.{All-filter, All-map, filter_passes, Contains-get_or}
use Rattle.std.proofs.lemmas.List.Folds.{Any-from_list_any, list_any_at}
use Rattle.std.proofs.lemmas.List.FromFn.{length-range_with_len, get_or-range_with_len}
use Rattle.std.proofs.lemmas.List.Quantifiers.{position-Some}
use Rattle.std.proofs.lemmas.List.Sorted.{Contains-permutation, length_permutation}
use Rattle.std.proofs.lemmas.List.Sums.{prefix_len_passes}
use Rattle.std.proofs.lemmas.Map.Views.{any-filter_same}
use Rattle.std.proofs.lemmas.Slice.Eq.{bytes_eq-Decides}
use Rattle.plugin_order.proofs.Found.{option_cases}
use Rattle.plugin_order.specs.declared.sheet.PluginSheet.{PluginSheet}
use Rattle.plugin_order.specs.declared.arrangement.Arrangement.{Arrangement}
use Rattle.plugin_order.specs.Sheets.{name_at}
use Rattle.plugin_order.specs.Arranged.{CanBeArranged, HasNoRepeat, IsArrangement, IsPriority, enabled}
use Rattle.plugin_order.proofs.SeatLaws.{order_within}
use Rattle.site_making.specs.Priorities.{running, priorities_of, number_at, priority_of, AreEnabled, AreEnabledOf, Adds}
use Rattle.site_making.proofs.Chains.{few_better}

-- each plugin that runs has a sheet
within : (sheets : List PluginSheet) (arrangement : Arrangement) (names : List (List ℕ)) → AreEnabledOf sheets arrangement names
    → All (λ p. p < length sheets) (running arrangement)
within sheets arrangement names are =
    All-filter (λ p. slice_index_or arrangement.enabled p false) (λ p. p < length sheets) arrangement.order
    (order_within sheets are.arranged.places arrangement.order are.arranged.order)

-- no priority of a plugin that runs is above 64
pub small_priorities : (sheets : List PluginSheet) (arrangement : Arrangement) (names : List (List ℕ)) → AreEnabledOf sheets arrangement names
    → All (λ priority. priority ≤ 64) (priorities_of arrangement)
small_priorities sheets arrangement names are =
    All-map (λ priority. priority ≤ 64) (λ p. slice_index arrangement.priority p) (running arrangement)
    (λ k d lt.
    let there : get_or (running arrangement) k d < length sheets = within sheets arrangement names are k d lt in
    let few : slice_index arrangement.priority (get_or (running arrangement) k d) ≤ length sheets =
    few_better sheets (get_or (running arrangement) k d) _ are.possible.better (are.arranged.priority_each (get_or (running arrangement) k d) there) in
    omega (arith, are.few))

-- two plugins of one name are one
same_plugin : (sheets : List PluginSheet) (p q : ℕ) → HasNoRepeat sheets → p < length sheets → q < length sheets
    → name_at sheets p ≡ name_at sheets q → p ≡ q
same_plugin sheets p q none pn qn e = elim (eqb_tells p q) [
  | inl same ↦ same.1
  | inr other ↦ absurd (elim (leb_tells p q) [
    | inl le ↦ (let lt : p < q = omega (arith, le.1, other.1) in none q qn (p, lt, e))
    | inr gt ↦ none p pn (q, gt.1, sym e)
  ])
]

-- where no place is found, no element passes
none_passes : {X : Type 0} (test : X → Bool) (xs : List X) (k : ℕ) (d : X) → position test xs ≡ None → k < length xs
    → test (get_or xs k d) ≡ true → ⊥
none_passes test xs k d none lt pass = elim (leb_tells (length xs) (position_or_len test xs)) [
  | inl all ↦ (
      let front : k < position_or_len test xs = omega (arith, all.1) in
      let fails : not (test (get_or xs k d)) ≡ true = prefix_len_passes (λ x. not (test x)) xs k d front in
      let fails' : not true ≡ true = rw pass at fails in
      cc)
  | inr found ↦ (
      let is : nat_lt (position_or_len test xs) (length xs) ≡ true = lt-ltb (position_or_len test xs) (length xs) found.1 in
      let some : Some (position_or_len test xs) ≡ None = rw is at none in
      cc)
]

-- an enabled plugin runs, at some place
runs : (sheets : List PluginSheet) (arrangement : Arrangement) (names : List (List ℕ)) → AreEnabledOf sheets arrangement names
    → (p : ℕ) → p < length sheets → slice_index_or arrangement.enabled p false ≡ true → Any (λ q. nat_eq p q ≡ true) (running arrangement)
runs sheets arrangement names are p lt on =
    let long : length (range_with_len 0 (length sheets)) ≡ length sheets = length-range_with_len 0 (length sheets) in
    let is : get_or (range_with_len 0 (length sheets)) p 0 ≡ 0 + p = get_or-range_with_len 0 (length sheets) p 0 lt in
    let here : get_or (range_with_len 0 (length sheets)) p 0 ≡ p = omega arith in
    let ordered : Contains arrangement.order p =
    Contains-permutation (range_with_len 0 (length sheets)) arrangement.order p are.arranged.order.once
    (subst (Contains (range_with_len 0 (length sheets))) here (Contains-get_or (range_with_len 0 (length sheets)) p 0 (omega arith))) in
    let any : list_any (nat_eq p) arrangement.order ≡ true =
    list_any_at (nat_eq p) arrangement.order ordered.0 p ordered.1 (eq-eqb p _ (sym ordered.2)) in
    Any-from_list_any (nat_eq p) (running arrangement)
    (any-filter_same (nat_eq p) (λ q. slice_index_or arrangement.enabled q false) true
    (λ q e. subst (λ (z : ℕ). slice_index_or arrangement.enabled z false ≡ true) (eqb-true p q e) on) arrangement.order ∙ any)

-- what stands at a place of those that run
at_place : (sheets : List PluginSheet) (arrangement : Arrangement) (names : List (List ℕ)) → AreEnabledOf sheets arrangement names
    → (at : ℕ) → at < length (running arrangement) → get_or names at [] ≡ name_at sheets (get_or (running arrangement) at 0)
at_place sheets arrangement names are at lt =
    ap (λ (xs : List (List ℕ)). get_or xs at []) are.named ∙ get_or-map (name_at sheets) (running arrangement) at 0 [] lt

-- what a name adds where none of those that run has it
adds_nothing : (sheets : List PluginSheet) (arrangement : Arrangement) (names : List (List ℕ)) → AreEnabledOf sheets arrangement names
    → (name : List ℕ) → position (λ other. bytes_eq other name) names ≡ None → Adds sheets arrangement.order name 0
adds_nothing sheets arrangement names are name none = record {
  own = λ p lt named on. absurd (
      let on' : slice_index_or arrangement.enabled p false ≡ true = are.arranged.enabled_each p lt ∙ on in
      let any : Any (λ q. nat_eq p q ≡ true) (running arrangement) = runs sheets arrangement names are p lt on' in
      let q : get_or (running arrangement) any.0 0 ≡ p = sym (get_or_read (running arrangement) any.0 any.1 any.2 (sym any.3) 0) ∙ sym (eqb-true p any.1 any.4) in
      let long : length names ≡ length (running arrangement) = ap length are.named ∙ length-map (running arrangement) (name_at sheets) in
      let is : get_or names any.0 [] ≡ name =
      at_place sheets arrangement names are any.0 any.2 ∙ ap (name_at sheets) q ∙ named in
      none_passes (λ other. bytes_eq other name) names any.0 [] none (omega (arith, any.2)) ((bytes_eq-Decides (get_or names any.0 []) name).1 is));
  nothing = λ _. refl;
}

-- what a name adds where the plugin at this place has it
adds_own : (sheets : List PluginSheet) (arrangement : Arrangement) (names : List (List ℕ)) → AreEnabledOf sheets arrangement names
    → (name : List ℕ) (at : ℕ) → position (λ other. bytes_eq other name) names ≡ Some at
    → Adds sheets arrangement.order name (slice_index (priorities_of arrangement) at)
adds_own sheets arrangement names are name at found =
    let first : (at < length names) × (bytes_eq (get_or names at []) name ≡ true) × ((k : ℕ) → k < at → bytes_eq (get_or names k []) name ≡ false) =
    position-Some (λ other. bytes_eq other name) names at [] found in
    let long : length names ≡ length (running arrangement) = ap length are.named ∙ length-map (running arrangement) (name_at sheets) in
    let lt : at < length (running arrangement) = omega (arith, first.0) in
    let has : name_at sheets (get_or (running arrangement) at 0) ≡ name =
    sym (at_place sheets arrangement names are at lt) ∙ (bytes_eq-Decides (get_or names at []) name).0 first.1 in
    let there : get_or (running arrangement) at 0 < length sheets = within sheets arrangement names are at 0 lt in
    let on : slice_index_or arrangement.enabled (get_or (running arrangement) at 0) false ≡ true =
    filter_passes (λ p. slice_index_or arrangement.enabled p false) arrangement.order at 0 lt in
    let value : slice_index (priorities_of arrangement) at ≡ slice_index arrangement.priority (get_or (running arrangement) at 0) =
    get_or-map (λ p. slice_index arrangement.priority p) (running arrangement) at 0 0 lt in
    record {
      own = λ p pn named _.
          let same : p ≡ get_or (running arrangement) at 0 =
          same_plugin sheets p (get_or (running arrangement) at 0) are.possible.names pn there (named ∙ sym has) in
          subst (λ (k : ℕ). IsPriority sheets p k) (ap (λ (z : ℕ). slice_index arrangement.priority z) same ∙ sym value)
          (are.arranged.priority_each p pn);
      nothing = λ off. absurd (
          let no : enabled sheets arrangement.order (get_or (running arrangement) at 0) ≡ false = off (get_or (running arrangement) at 0) there has in
          let yes : enabled sheets arrangement.order (get_or (running arrangement) at 0) ≡ true =
          sym (are.arranged.enabled_each (get_or (running arrangement) at 0) there) ∙ on in
          cc);
    }

-- each name adds the priority of its plugin, or nothing
pub adds : (sheets : List PluginSheet) (arrangement : Arrangement) (names : List (List ℕ)) → AreEnabledOf sheets arrangement names
    → (name : List ℕ) → Adds sheets arrangement.order name (priority_of names (priorities_of arrangement) name)
adds sheets arrangement names are name = elim (option_cases (position (λ other. bytes_eq other name) names)) [
  | inl none ↦ subst (λ (o : Option ℕ). Adds sheets arrangement.order name (number_at o (priorities_of arrangement))) (sym none)
      (adds_nothing sheets arrangement names are name none)
  | inr some ↦ subst (λ (o : Option ℕ). Adds sheets arrangement.order name (number_at o (priorities_of arrangement))) (sym some.1)
      (adds_own sheets arrangement names are name some.0 some.1)
]

nothing : (ps : List ℕ) → length ps ≡ 0 → ps ≡ []
nothing [] e = refl
nothing (p ∷ ps) e = absurd (omega arith)

-- without plugins none runs
pub none_run : (sheets : List PluginSheet) (arrangement : Arrangement) (names : List (List ℕ)) → sheets ≡ [] → names ≡ [] → CanBeArranged sheets
    → IsArrangement sheets arrangement → AreEnabled arrangement names
none_run sheets arrangement names none unnamed possible arranged =
    let few : length sheets ≡ 0 = ap length none in
    let same : length arrangement.order ≡ length (range_with_len 0 (length sheets)) =
    length_permutation (range_with_len 0 (length sheets)) arrangement.order arranged.order.once in
    let long : length (range_with_len 0 (length sheets)) ≡ length sheets = length-range_with_len 0 (length sheets) in (
      sheets,
      record {
        few = omega arith;
        possible = possible;
        arranged = arranged;
        named = unnamed ∙ sym (ap (λ (ps : List ℕ). map (name_at sheets) (filter (λ p. slice_index_or arrangement.enabled p false) ps))
            (nothing arrangement.order (omega arith)));
      },
    )

pub map_nothing : {A B : Type 0} (f : A → B) (xs : List A) → xs ≡ [] → map f xs ≡ []
map_nothing f xs e = ap (map f) e
