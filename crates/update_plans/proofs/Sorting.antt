-- Releases that were sorted by their versions stand from the highest down, and those of one version in catalogue order.
use Rattle.std.proofs.Common.{◌≡◌, ℕ, zero, suc, ◌+◌, ◌<◌, ◌≤◌, ◌⊎◌, ◌&&◌, ◌||◌, ◌==◌, Bool, true, false, not, nat_lt, List, [], ◌∷◌, map, inl, inr, refl, sym, ap, ◌∙◌, subst, arith}
use Rattle.std.specs.Prelude.{AllPairs, Option, Some, None, filter, slice_index_or}
use Rattle.std.specs.Fn.{Called, ComparesAs}
use Rattle.std.specs.List.Sorted.{IsPermutation, IsSortedBy, IsStableBy}
use denote.Param.Members.{Mut}
use denote.Ref.{Bor}
use Rattle.std.proofs.lemmas.Fn.{always_returns_same}
use Rattle.std.specs.Cmp.{IsStrictWeakOrder}
use Rattle.std.specs.Ordering.{is_le, is_lt, ordering_reverse}
use Rattle.std.specs.declared.cmp.Ordering.{Ordering}
use Rattle.std.specs.declared.cmp.Ordering.TheVariants.{Less, Equal, Greater}
use Rattle.std.proofs.lemmas.Bool.{eqb-true, le-ltb, ltb-false, ltb-true, ne_eqb, or_parts, and_parts, not-true, or_from}
use Rattle.std.proofs.lemmas.List.Sorted.{sorted_far, ties_stay_sorted}
use Rattle.version_formats.proofs.VersionLaws.{version_cmp-back, version_cmp-transitive}
use Rattle.release_catalogue.specs.declared.reference.ReleaseRef.{ReleaseRef}
use Rattle.release_catalogue.specs.Lookup.{Chosen, all_releases, provides}
use Rattle.release_catalogue.specs.Places.{matching_places}
use Rattle.update_log.specs.declared.facts.Facts.{Facts}
use Rattle.update_log.proofs.Lists.{All-filter, by_test, eqb-self}
use Rattle.update_plans.specs.Choosing.{IsHighestFirst, comes_before, found_cmp, goes_first, is_higher, version_found}
use Rattle.update_plans.proofs.Choice.{before-once}
use Rattle.update_plans.proofs.Highest.{Ordered, catalogue-ordered}

-- ---- versions that were found

found-back : (a b : Option (List ℕ)) → found_cmp b a ≡ ordering_reverse (found_cmp a b)
found-back None None = refl
found-back None (Some b) = refl
found-back (Some a) None = refl
found-back (Some a) (Some b) = version_cmp-back a b

found-chain : (a b c : Option (List ℕ)) → is_le (found_cmp a b) ≡ true → is_le (found_cmp b c) ≡ true → is_le (found_cmp a c) ≡ true
found-chain None b None h k = refl
found-chain None b (Some c) h k = refl
found-chain (Some a) None c h k = cc
found-chain (Some a) (Some b) None h k = cc
found-chain (Some a) (Some b) (Some c) h k = version_cmp-transitive a b c h k

le-back : (a b : Option (List ℕ)) → is_lt (found_cmp a b) ≡ false → is_le (found_cmp b a) ≡ true
le-back a b h = ap is_le (found-back a b) ∙ of (found_cmp a b) h
  where
    of : (o : Ordering) → is_lt o ≡ false → is_le (ordering_reverse o) ≡ true
    of Less h = cc
    of Equal h = refl
    of Greater h = refl

not-back : (a b : Option (List ℕ)) → is_le (found_cmp a b) ≡ true → is_lt (found_cmp b a) ≡ false
not-back a b h = ap is_lt (found-back a b) ∙ of (found_cmp a b) h
  where
    of : (o : Ordering) → is_le o ≡ true → is_lt (ordering_reverse o) ≡ false
    of Less h = refl
    of Equal h = refl
    of Greater h = cc

lt-le : (o : Ordering) → is_lt o ≡ true → is_le o ≡ true
lt-le Less h = refl
lt-le Equal h = cc
lt-le Greater h = cc

pub higher-order : (facts : Facts) → IsStrictWeakOrder (is_higher facts)
higher-order facts = record {
  one_way = λ x y h. not-back (version_found facts y) (version_found facts x) (lt-le (found_cmp (version_found facts y) (version_found facts x)) h);
  chain = λ x y z h k.
      not-back (version_found facts x) (version_found facts z)
      (found-chain (version_found facts x) (version_found facts y) (version_found facts z) (le-back (version_found facts y) (version_found facts x) h) (le-back (version_found facts z) (version_found facts y) k));
}

-- ---- places in the catalogue

-- a number that isn't above another and differs is below it
below-other : (m n : ℕ) → n ≤ m → (m == n) ≡ false → n < m
below-other m n le q =
    by_test (nat_lt n m) _ (λ t. ltb-true n m t)
    (λ f.
    let more : m ≤ n = ltb-false n m f in
    let same : m ≡ n = omega (arith, le, more) in
    let bad : true ≡ false = sym (eqb-self m) ∙ ap (λ (k : ℕ). m == k) same ∙ q in
    cc)

-- where a place doesn't come before another, it is no earlier
no-earlier : (a b : ReleaseRef) → comes_before a b ≡ false → (b.component < a.component) ⊎ ((b.component ≡ a.component) × (b.release ≤ a.release))
no-earlier a b h = of (nat_lt a.component b.component) refl (a.component == b.component) refl h
  where
    of : (l : Bool) → nat_lt a.component b.component ≡ l → (e : Bool) → (a.component == b.component) ≡ e → (l || (e && nat_lt a.release b.release)) ≡ false
        → (b.component < a.component) ⊎ ((b.component ≡ a.component) × (b.release ≤ a.release))
    of true p e q h = cc
    of false p true q h = inr (sym (eqb-true a.component b.component q), ltb-false a.release b.release h)
    of false p false q h = inl (below-other a.component b.component (ltb-false a.component b.component p) q)

never-before : (a b : ReleaseRef) → (b.component < a.component) ⊎ ((b.component ≡ a.component) × (b.release ≤ a.release)) → comes_before a b ≡ false
never-before a b (inl less) =
    ap (λ (l : Bool). l || ((a.component == b.component) && nat_lt a.release b.release)) (le-ltb a.component b.component (omega (arith, less)))
    ∙ ap (λ (e : Bool). e && nat_lt a.release b.release) (ne_eqb a.component b.component (λ same. absurd (omega (arith, less, same))))
never-before a b (inr (same, le)) =
    ap (λ (l : Bool). l || ((a.component == b.component) && nat_lt a.release b.release)) (le-ltb a.component b.component (omega (arith, same)))
    ∙ ap (λ (l : Bool). (a.component == b.component) && l) (le-ltb a.release b.release le) ∙ and-false (a.component == b.component)
  where
    and-false : (x : Bool) → (x && false) ≡ false
    and-false true = refl
    and-false false = refl

pub before-order : IsStrictWeakOrder comes_before
before-order = record {
  one_way = λ x y h. by_test (comes_before y x) _ (λ t. absurd (before-once x y h t)) (λ f. f);
  chain = λ x y z h k. never-before x z (later x y z (no-earlier x y h) (no-earlier y z k));
}
  where
    later : (x y z : ReleaseRef) → (y.component < x.component) ⊎ ((y.component ≡ x.component) × (y.release ≤ x.release)) → (z.component < y.component) ⊎ ((z.component ≡ y.component) × (z.release ≤ y.release))
        → (z.component < x.component) ⊎ ((z.component ≡ x.component) × (z.release ≤ x.release))
    later x y z (inl p) (inl q) = inl (omega (arith, p, q))
    later x y z (inl p) (inr (e, q)) = inl (omega (arith, p, e))
    later x y z (inr (e, p)) (inl q) = inl (omega (arith, e, q))
    later x y z (inr (e, p)) (inr (f, q)) = inr (f ∙ e, omega (arith, p, q))

-- ---- one order behind another

abbrev both_orders : {X : Type 0} → (X → X → Bool) → (X → X → Bool) → X → X → Bool
both_orders lt by x y = lt x y || (not (lt y x) && by x y)

lexical : {X : Type 0} (lt by : X → X → Bool) → IsStrictWeakOrder lt → IsStrictWeakOrder by → IsStrictWeakOrder (both_orders lt by)
lexical {X} lt by o p = record {
  one_way = λ x y h. one x y (lt x y) refl h;
  chain = λ x y z h k. two x y z (or_parts (lt x y) (not (lt y x) && by x y) h) (or_parts (lt y z) (not (lt z y) && by y z) k);
}
  where
    one : (x y : X) (a : Bool) → lt x y ≡ a → (a || (not (lt y x) && by x y)) ≡ true → (lt y x || (not (lt x y) && by y x)) ≡ false
    one x y true e h = or_from (lt y x) (not (lt x y) && by y x) (o.one_way x y e) (ap (λ (b : Bool). not b && by y x) e)
    one x y false e h =
        let parts = and_parts (not (lt y x)) (by x y) h in
        or_from (lt y x) (not (lt x y) && by y x) (not-true (lt y x) parts.0) (ap (λ (b : Bool). not b && by y x) e ∙ p.one_way x y parts.1)

    tied : (x y z : X) → lt z x ≡ false → (lt x y ≡ false) × ((not (lt y x) && by x y) ≡ false) → (lt y z ≡ false) × ((not (lt z y) && by y z) ≡ false) → by x z ≡ false
    tied x y z e h k =
        p.chain x y z (sym (ap (λ (b : Bool). not b && by x y) (o.chain y z x k.0 e)) ∙ h.1) (sym (ap (λ (b : Bool). not b && by y z) (o.chain z x y e h.0)) ∙ k.1)

    two : (x y z : X) → (lt x y ≡ false) × ((not (lt y x) && by x y) ≡ false) → (lt y z ≡ false) × ((not (lt z y) && by y z) ≡ false) → (lt x z || (not (lt z x) && by x z)) ≡ false
    two x y z h k =
        or_from (lt x z) (not (lt z x) && by x z) (o.chain x y z h.0 k.0)
        (by_test (lt z x) ((not (lt z x) && by x z) ≡ false) (λ t. ap (λ (b : Bool). not b && by x z) t) (λ f. ap (λ (b : Bool). not b && by x z) f ∙ tied x y z f h k))

-- what a stable sort by one order makes of a list that another sorted
both-sorted : {X : Type 0} (lt by : X → X → Bool) → IsStrictWeakOrder lt → IsStrictWeakOrder by → (xs ys : List X) → IsSortedBy lt ys → IsSortedBy by xs → IsStableBy lt xs ys → IsSortedBy (both_orders lt by) ys
both-sorted {X} lt by o p xs ys up old stable k d low within =
    or_from (lt (slice_index_or ys (k + 1) d) (slice_index_or ys k d)) (not (lt (slice_index_or ys k d) (slice_index_or ys (k + 1) d)) && by (slice_index_or ys (k + 1) d) (slice_index_or ys k d)) (up k d low within)
    (tie (lt (slice_index_or ys k d) (slice_index_or ys (k + 1) d)) refl)
  where
    tie : (t : Bool) → lt (slice_index_or ys k d) (slice_index_or ys (k + 1) d) ≡ t → (not t && by (slice_index_or ys (k + 1) d) (slice_index_or ys k d)) ≡ false
    tie true e = refl
    tie false e =
        ties_stay_sorted by lt p o xs ys old stable k d within
        (ap (λ (t : Bool). not t && not (lt (slice_index_or ys (k + 1) d) (slice_index_or ys k d))) e ∙ ap not (up k d low within))

-- ---- the releases of a catalogue

ordered-filter : (p : Chosen → Bool) (all : List Chosen) → Ordered all → Ordered (filter p all)
ordered-filter p [] o = tt
ordered-filter p (x ∷ all) o =
    by_test (p x) _
    (λ t. rw t (All-filter (λ y. comes_before x.at y.at ≡ true) (λ y. comes_before x.at y.at ≡ true) p all o.0 (λ y h _. h), ordered-filter p all o.1))
    (λ f. rw f (ordered-filter p all o.1))

ordered-sorted : (all : List Chosen) → Ordered all → IsSortedBy comes_before (map (λ chosen. chosen.at) all)
ordered-sorted [] o k d low within = absurd (omega (arith, within))
ordered-sorted (x ∷ []) o k d low within = absurd (omega (arith, within))
ordered-sorted (x ∷ y ∷ all) o zero d low within = before-order.one_way x.at y.at o.0.0
ordered-sorted (x ∷ y ∷ all) o (suc k) d low within =
    let more : suc (k + 1) ≡ suc k + 1 = omega arith in
    subst (λ (n : ℕ). comes_before (slice_index_or (map (λ (chosen : Chosen). chosen.at) (x ∷ y ∷ all)) n d) (slice_index_or (map (λ (chosen : Chosen). chosen.at) (y ∷ all)) k d) ≡ false) more
    (ordered-sorted (y ∷ all) o.1 k d (omega arith) (omega (arith, within)))

-- So a stable sort by versions leaves none behind one that it goes before.
pub sorted-falls : (facts : Facts) (guids : List (List ℕ)) (places : List ReleaseRef) → IsSortedBy (is_higher facts) places → IsStableBy (is_higher facts) (matching_places facts.catalogue guids) places
    → AllPairs (λ a b. goes_first facts b a ≡ false) places
sorted-falls facts guids places up stable = λ i j d l m. sorted_far (goes_first facts) order places sorted i j d (omega (arith, l)) m
  where
    order : IsStrictWeakOrder (goes_first facts)
    order = lexical (is_higher facts) comes_before (higher-order facts) before-order

    old : IsSortedBy comes_before (matching_places facts.catalogue guids)
    old = ordered-sorted (filter (λ chosen. provides guids chosen.component) (all_releases facts.catalogue)) (ordered-filter (λ chosen. provides guids chosen.component) (all_releases facts.catalogue) (catalogue-ordered facts.catalogue))

    sorted : IsSortedBy (goes_first facts) places
    sorted = both-sorted (is_higher facts) comes_before (higher-order facts) before-order (matching_places facts.catalogue guids) places up old stable

-- The same of what a sort by a closure says that compares them so.
pub sorted-highest : (facts : Facts) (guids : List (List ℕ)) {F : Type 0} {g : Mut F (Bor ReleaseRef × (Bor ReleaseRef × Unit {0})) Ordering} {f : F} (old new : List ReleaseRef)
    → old ≡ matching_places facts.catalogue guids → IsPermutation old new
    → ((lt : ReleaseRef → ReleaseRef → Bool) → IsStrictWeakOrder lt → ComparesAs g lt f → IsSortedBy lt new)
    → ((lt : ReleaseRef → ReleaseRef → Bool) → IsStrictWeakOrder lt → ComparesAs g lt f → IsStableBy lt old new)
    → ((a : Bor ReleaseRef × (Bor ReleaseRef × Unit {0})) (r : Ordering) (f' : F) → Called g f a r f' → (r ≡ found_cmp (version_found facts a.1.0.now) (version_found facts a.0.now)) × (f' ≡ f))
    → IsHighestFirst facts guids new
sorted-highest facts guids {g = g} {f = f} old new e same up stable h =
    record {
      same = subst (λ (xs : List ReleaseRef). IsPermutation xs new) e same;
      falling =
          sorted-falls facts guids new (up (is_higher facts) (higher-order facts) compares)
          (subst (λ (xs : List ReleaseRef). IsStableBy (is_higher facts) xs new) e (stable (is_higher facts) (higher-order facts) compares));
    }
  where
    compares : ComparesAs g (is_higher facts) f
    compares = always_returns_same g (λ a r. is_lt r ≡ is_higher facts a.0.now a.1.0.now) f (λ a r f' k. (ap is_lt (h a r f' k).0, (h a r f' k).1))
