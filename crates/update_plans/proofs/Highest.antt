-- The first of releases that stand from the highest down is the highest of those that pass.
use Rattle.std.proofs.Common.{◌≡◌, ℕ, ◌+◌, ◌<◌, ◌≤◌, Bool, true, false, not, nat_lt, List, [], ◌∷◌, ◌++◌, map, refl, sym, ap, subst, arith}
use Rattle.std.specs.Prelude.{Some, None, filter, find, flat_map}
use Rattle.std.specs.List.{AllByRecursion, enumerate_from, list_any}
use Rattle.std.specs.Ordering.{is_lt}
use Rattle.std.proofs.lemmas.Bool.Decides.{nat_tests}
use Rattle.std.proofs.lemmas.Bool.{or_right}
use Rattle.fw_facts.specs.declared.release.Component.{Component}
use Rattle.fw_facts.specs.declared.release.Release.{Release}
use Rattle.release_catalogue.specs.declared.reference.ReleaseRef.{ReleaseRef}
use Rattle.release_catalogue.specs.Lookup.{Chosen, all_releases, releases_of}
use Rattle.version_formats.specs.VersionOrder.{version_cmp}
use Rattle.update_log.specs.Verdicts.{is_release}
use Rattle.update_log.proofs.Lists.{All-filter, All-find, All-map, by_test, eqb-self, All-append}
use Rattle.update_plans.specs.Choosing.{comes_before}
use Rattle.update_plans.specs.Plans.{highest}

-- ---- catalogue order

-- each element stands before those behind it
abbrev pub Ordered : List Chosen → Type 0
Ordered [] = Unit {0}
Ordered (x ∷ xs) = AllByRecursion (λ y. comes_before x.at y.at ≡ true) xs × Ordered xs

ordered-append : (xs ys : List Chosen) → Ordered xs → Ordered ys → AllByRecursion (λ x. AllByRecursion (λ y. comes_before x.at y.at ≡ true) ys) xs → Ordered (xs ++ ys)
ordered-append [] ys a b h = b
ordered-append (x ∷ xs) ys a b h = (All-append (λ y. comes_before x.at y.at ≡ true) xs ys a.0 h.0, ordered-append xs ys a.1 b h.1)

abbrev entries : ℕ → Component → ℕ → List Release → List Chosen
entries n c k rs =
    map (λ entry. record { at = record { component = n; release = entry.0 }; component = c; release = entry.1 }) (enumerate_from k rs)

abbrev all_from : ℕ → List Component → List Chosen
all_from n components = flat_map (λ entry. releases_of entry.0 entry.1) (enumerate_from n components)

record StandsAt (n k : ℕ) (x : Chosen) : Type 0 where
  component : x.at.component ≡ n
  release : k ≤ x.at.release

entries-at : (n : ℕ) (c : Component) (k : ℕ) (rs : List Release) → AllByRecursion (StandsAt n k) (entries n c k rs)
entries-at n c k [] = tt
entries-at n c k (r ∷ rs) =
    (record { component = refl; release = omega arith }, All-map (StandsAt n (k + 1)) (StandsAt n k) (entries n c (k + 1) rs) (entries-at n c (k + 1) rs) (λ x h. record { component = h.component; release = (let l = h.release in omega (arith, l)) }))

same-before : (a b : ReleaseRef) → a.component ≡ b.component → a.release < b.release → comes_before a b ≡ true
same-before a b same less =
    or_right (nat_lt a.component b.component) _ (rw (same, eqb-self b.component) (let t : nat_lt a.release b.release ≡ true = grind (arith, nat_tests) in t))

other-before : (a b : ReleaseRef) → a.component < b.component → comes_before a b ≡ true
other-before a b less = let t : nat_lt a.component b.component ≡ true = grind (arith, nat_tests) in rw t refl

entries-ordered : (n : ℕ) (c : Component) (k : ℕ) (rs : List Release) → Ordered (entries n c k rs)
entries-ordered n c k [] = tt
entries-ordered n c k (r ∷ rs) = (
  All-map (StandsAt n (k + 1)) (λ y. comes_before (record { component = n; release = k }) y.at ≡ true) (entries n c (k + 1) rs) (entries-at n c (k + 1) rs)
      (λ y h. same-before (record { component = n; release = k }) y.at (sym h.component) (let l = h.release in omega (arith, l))),
  entries-ordered n c (k + 1) rs,
)

from-at : (n : ℕ) (components : List Component) → AllByRecursion (λ x. n ≤ x.at.component) (all_from n components)
from-at n [] = tt
from-at n (c ∷ components) =
    All-append (λ x. n ≤ x.at.component) (releases_of n c) (all_from (n + 1) components)
    (All-map (StandsAt n 0) (λ x. n ≤ x.at.component) (releases_of n c) (entries-at n c 0 c.releases) (λ x h. let e = h.component in omega (arith, e)))
    (All-map (λ x. n + 1 ≤ x.at.component) (λ x. n ≤ x.at.component) (all_from (n + 1) components) (from-at (n + 1) components) (λ x h. omega (arith, h)))

all-ordered : (n : ℕ) (components : List Component) → Ordered (all_from n components)
all-ordered n [] = tt
all-ordered n (c ∷ components) =
    ordered-append (releases_of n c) (all_from (n + 1) components) (entries-ordered n c 0 c.releases) (all-ordered (n + 1) components)
    (All-map (StandsAt n 0) (λ x. AllByRecursion (λ y. comes_before x.at y.at ≡ true) (all_from (n + 1) components)) (releases_of n c) (entries-at n c 0 c.releases)
    (λ x h. All-map (λ y. n + 1 ≤ y.at.component) (λ y. comes_before x.at y.at ≡ true) (all_from (n + 1) components) (from-at (n + 1) components)
    (λ y l. other-before x.at y.at (let e = h.component in omega (arith, e, l)))))

-- The releases of a catalogue stand in its order.
pub catalogue-ordered : (components : List Component) → Ordered (all_releases components)
catalogue-ordered components = all-ordered 0 components

-- The release of a place parts the list: those in front of it stand before it.
pub record Parted (all : List Chosen) (c : Chosen) : Type 0 where
  pub front : List Chosen
  pub back : List Chosen
  pub whole : front ++ c ∷ back ≡ all
  pub before : AllByRecursion (λ y. comes_before y.at c.at ≡ true) front

pub parted : (all : List Chosen) (place : ReleaseRef) (c : Chosen) → Ordered all → find (λ x. is_release x.at place) all ≡ Some c → Parted all c
parted [] place c o e = cc
parted (x ∷ xs) place c o e =
    by_test (is_release x.at place) (Parted (x ∷ xs) c)
    (λ t. let e' : Some x ≡ Some c = rw t at e in let same : x ≡ c = cc in subst (Parted (x ∷ xs)) same (record { front = []; back = xs; whole = refl; before = tt }))
    (λ f.
    let e' : find (λ y. is_release y.at place) xs ≡ Some c = rw f at e in
    let more : Parted xs c = parted xs place c o.1 e' in
    record {
      front = x ∷ more.front;
      back = more.back;
      whole = ap (λ (ys : List Chosen). x ∷ ys) more.whole;
      before = (All-find (λ y. comes_before x.at y.at ≡ true) (λ y. is_release y.at place) xs c o.0 e', more.before);
    })

-- ---- the highest

-- the first that passes a second test, where none in front of it that passes the first does
find-behind : (p q : Chosen → Bool) (front back : List Chosen) (c : Chosen) → p c ≡ true → q c ≡ true → AllByRecursion (λ y. p y ≡ true → q y ≡ false) front
    → find q (filter p (front ++ c ∷ back)) ≡ Some c
find-behind p q [] back c here that none = rw (here, that) refl
find-behind p q (y ∷ front) back c here that none =
    by_test (p y) _
    (λ t. let fails : q y ≡ false = none.0 t in rw (t, fails) (find-behind p q front back c here that none.1))
    (λ f. rw f (find-behind p q front back c here that none.1))

any-behind : (p t : Chosen → Bool) (front back : List Chosen) (c : Chosen) → p c ≡ true → t c ≡ true → list_any t (filter p (front ++ c ∷ back)) ≡ true
any-behind p t [] back c here that = rw (here, that) refl
any-behind p t (y ∷ front) back c here that =
    by_test (p y) _
    (λ u. rw u (or_right (t y) _ (any-behind p t front back c here that)))
    (λ u. rw u (any-behind p t front back c here that))

none-any : (t : Chosen → Bool) (xs : List Chosen) → AllByRecursion (λ x. t x ≡ false) xs → list_any t xs ≡ false
none-any t [] a = refl
none-any t (x ∷ xs) a = rw a.0 (none-any t xs a.1)

-- A release is the highest of those that pass, where each of them that stands before it is lower, and none is higher.
pub highest-is : (p : Chosen → Bool) (all : List Chosen) (c : Chosen) (parts : Parted all c) → p c ≡ true
    → AllByRecursion (λ y. p y ≡ true → is_lt (version_cmp y.release.version c.release.version) ≡ true) parts.front
    → AllByRecursion (λ y. p y ≡ true → is_lt (version_cmp c.release.version y.release.version) ≡ false) all
    → highest (filter p all) ≡ Some c
highest-is p all c parts here lower none =
    subst (λ (xs : List Chosen). find (λ x. not (list_any (λ y. is_lt (version_cmp x.release.version y.release.version)) (filter p all))) (filter p xs) ≡ Some c) parts.whole
    (find-behind p (λ x. not (list_any (λ y. is_lt (version_cmp x.release.version y.release.version)) (filter p all))) parts.front parts.back c here that below)
  where
    every : {X : Type 0} (xs : List X) → AllByRecursion (λ (x : X). Unit {0}) xs
    every [] = tt
    every (x ∷ xs) = (tt, every xs)

    that : not (list_any (λ y. is_lt (version_cmp c.release.version y.release.version)) (filter p all)) ≡ true
    that =
        ap not (none-any (λ y. is_lt (version_cmp c.release.version y.release.version)) (filter p all)
        (All-filter (λ y. p y ≡ true → is_lt (version_cmp c.release.version y.release.version) ≡ false) (λ y. is_lt (version_cmp c.release.version y.release.version) ≡ false) p all none (λ y h t. h t)))

    below : AllByRecursion (λ y. p y ≡ true → not (list_any (λ z. is_lt (version_cmp y.release.version z.release.version)) (filter p all)) ≡ false) parts.front
    below =
        All-map (λ y. p y ≡ true → is_lt (version_cmp y.release.version c.release.version) ≡ true) _ parts.front lower
        (λ y h t.
        ap not (subst (λ (xs : List Chosen). list_any (λ z. is_lt (version_cmp y.release.version z.release.version)) (filter p xs) ≡ true) parts.whole
        (any-behind p (λ z. is_lt (version_cmp y.release.version z.release.version)) parts.front parts.back c here (h t))))

-- Where none passes there is no highest.
pub highest-none : (p : Chosen → Bool) (all : List Chosen) → AllByRecursion (λ y. p y ≡ false) all → highest (filter p all) ≡ None
highest-none p [] none = refl
highest-none p (y ∷ all) none = rw none.0 (empty (filter p all) (filtered all none.1))
  where
    filtered : (xs : List Chosen) → AllByRecursion (λ y. p y ≡ false) xs → filter p xs ≡ []
    filtered [] a = refl
    filtered (x ∷ xs) a = rw a.0 (filtered xs a.1)

    empty : (xs : List Chosen) → xs ≡ [] → highest xs ≡ None
    empty xs e = rw e refl
