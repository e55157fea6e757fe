-- A look-up, component by component, without places.
use Rattle.std.proofs.Common.{◌≡◌, ℕ, ◌+◌, Bool, true, false, ◌&&◌, cond, not, List, [], ◌∷◌, ◌++◌, map, Option, Some, None, refl, sym, ap, ◌∙◌}
use Rattle.std.specs.Prelude.{filter, find, flat_map, option_map}
use Rattle.std.specs.List.{enumerate_from}
use Rattle.std.specs.Option.{option_or}
use Rattle.fw_facts.specs.declared.release.Component.{Component}
use Rattle.fw_facts.specs.declared.release.Release.{Release}
use Rattle.release_catalogue.specs.Lookup.{Chosen, provides, releases_of}
use Rattle.remote_set.specs.Merged.{Placed, without}
use Rattle.remote_set.specs.Finds.{first_answer, what_is_found}

-- A test of a component's ID and a release.
abbrev pub Test : Type 0
Test = List ℕ → Release → Bool

abbrev pub Found : Type 0
Found = Component × Release

abbrev bare : Component → Component
bare c = record c { releases = [] }

-- What is found in a component, in the first of its releases that passes.
abbrev pub in_one : Component → Option Release → Option Found
in_one c found = option_map (λ r. let f : Found = (bare c, r) in f) found

-- The same in the first of some components that provide one of the GUIDs.
abbrev pub search : List (List ℕ) → Test → List Component → Option Found
search guids test [] = None
search guids test (c ∷ cs) = option_or (cond (provides guids c) (in_one c (find (test c.id) c.releases)) None) (search guids test cs)

-- ---- a look-up is such a search

abbrev part : ℕ → Component → ℕ → List Release → List Chosen
part place component from releases =
    map
    (λ entry. record { at = record { component = place; release = entry.0 }; component = component; release = entry.1 })
    (enumerate_from from releases)

abbrev tested : Test → Chosen → Bool
tested test found = test found.component.id found.release

abbrev looked : List (List ℕ) → Test → List Chosen → Option Found
looked guids test all = option_map what_is_found (find (tested test) (filter (λ found. provides guids found.component) all))

none_of_it : (guids : List (List ℕ)) (test : Test) (place : ℕ) (c : Component) (from : ℕ) (rs : List Release) (more : List Chosen) → provides guids c ≡ false
    → looked guids test (part place c from rs ++ more) ≡ looked guids test more
none_of_it guids test place c from [] more h = refl
none_of_it guids test place c from (r ∷ rs) more h = rw h (none_of_it guids test place c (from + 1) rs more h)

by_test : (b : Bool) (c : Component) (here : Chosen) (found : Option Chosen) (r : Release) (tail : Option Release) (rest : Option Found)
    → what_is_found here ≡ (bare c, r) → option_map what_is_found found ≡ option_or (in_one c tail) rest
    → option_map what_is_found (cond b (Some here) found) ≡ option_or (in_one c (cond b (Some r) tail)) rest
by_test true c here found r tail rest is so = ap (λ (f : Found). Some f) is
by_test false c here found r tail rest is so = so

all_of_it : (guids : List (List ℕ)) (test : Test) (place : ℕ) (c : Component) (from : ℕ) (rs : List Release) (more : List Chosen) → provides guids c ≡ true
    → looked guids test (part place c from rs ++ more) ≡ option_or (in_one c (find (test c.id) rs)) (looked guids test more)
all_of_it guids test place c from [] more h = refl
all_of_it guids test place c from (r ∷ rs) more h =
    rw h
    (by_test (test c.id r) c (record { at = record { component = place; release = from }; component = c; release = r })
    (find (tested test) (filter (λ found. provides guids found.component) (part place c (from + 1) rs ++ more)))
    r (find (test c.id) rs) (looked guids test more) refl (all_of_it guids test place c (from + 1) rs more h))

abbrev behind : ℕ → List Component → List Chosen
behind place cs = flat_map (λ entry. releases_of entry.0 entry.1) (enumerate_from place cs)

pub searched : (guids : List (List ℕ)) (test : Test) (place : ℕ) (cs : List Component) → looked guids test (behind place cs) ≡ search guids test cs
searched guids test place [] = refl
searched guids test place (c ∷ cs) = by (provides guids c) refl (searched guids test (place + 1) cs)
  where
    by : (b : Bool) → provides guids c ≡ b → looked guids test (behind (place + 1) cs) ≡ search guids test cs
        → looked guids test (behind place (c ∷ cs)) ≡ search guids test (c ∷ cs)
    by true h more =
        all_of_it guids test place c 0 c.releases (behind (place + 1) cs) h
        ∙ ap (λ (o : Option Found). option_or (in_one c (find (test c.id) c.releases)) o) more
        ∙ ap (λ (b : Bool). option_or (cond b (in_one c (find (test c.id) c.releases)) None) (search guids test cs)) (sym h)
    by false h more =
        none_of_it guids test place c 0 c.releases (behind (place + 1) cs) h
        ∙ more
        ∙ ap (λ (b : Bool). option_or (cond b (in_one c (find (test c.id) c.releases)) None) (search guids test cs)) (sym h)

-- ---- in one list of components behind the other

or_assoc : {X : Type 0} (a b c : Option X) → option_or (option_or a b) c ≡ option_or a (option_or b c)
or_assoc None b c = refl
or_assoc (Some x) b c = refl

search-append : (guids : List (List ℕ)) (test : Test) (xs ys : List Component) → search guids test (xs ++ ys) ≡ option_or (search guids test xs) (search guids test ys)
search-append guids test [] ys = refl
search-append guids test (c ∷ cs) ys =
    let here : Option Found = cond (provides guids c) (in_one c (find (test c.id) c.releases)) None in
    ap (λ (o : Option Found). option_or (cond (provides guids c) (in_one c (find (test c.id) c.releases)) None) o) (search-append guids test cs ys)
    ∙ sym (or_assoc here (search guids test cs) (search guids test ys))

pub search-flat : (guids : List (List ℕ)) (test : Test) (f : Placed → List Component) (ats : List Placed)
    → search guids test (flat_map f ats) ≡ first_answer (λ at. search guids test (f at)) ats
search-flat guids test f [] = refl
search-flat guids test f (x ∷ xs) =
    search-append guids test (f x) (flat_map f xs) ∙ ap (λ (o : Option Found). option_or (search guids test (f x)) o) (search-flat guids test f xs)

-- What is found of the first answer.
or-map : {X Y : Type 0} (f : X → Y) (a b : Option X) → option_map f (option_or a b) ≡ option_or (option_map f a) (option_map f b)
or-map f None b = refl
or-map f (Some x) b = refl

pub first-map : (f : Placed → Option Chosen) (ats : List Placed) → option_map what_is_found (first_answer f ats) ≡ first_answer (λ at. option_map what_is_found (f at)) ats
first-map f [] = refl
first-map f (x ∷ xs) =
    or-map what_is_found (f x) (first_answer f xs) ∙ ap (λ (o : Option Found). option_or (option_map what_is_found (f x)) o) (first-map f xs)

-- ---- among what is left

find-step : {X : Type 0} (p q : X → Bool) (x : X) (xs : List X) (a b : Bool) → p x ≡ a → q x ≡ b → find p (filter q xs) ≡ find (λ x. p x && q x) xs
    → find p (filter q (x ∷ xs)) ≡ find (λ x. p x && q x) (x ∷ xs)
find-step p q x xs true true e h so = rw (h, e) refl
find-step p q x xs true false e h so = rw (h, e) so
find-step p q x xs false true e h so = rw (h, e) so
find-step p q x xs false false e h so = rw (h, e) so

find-filter : {X : Type 0} (p q : X → Bool) (xs : List X) → find p (filter q xs) ≡ find (λ x. p x && q x) xs
find-filter p q [] = refl
find-filter p q (x ∷ xs) = find-step p q x xs (p x) (q x) refl refl (find-filter p q xs)

pub search-without : (hides : List ℕ → List ℕ → Bool) (guids : List (List ℕ)) (test : Test) (cs : List Component)
    → search guids test (map (without hides) cs) ≡ search guids (λ id r. test id r && not (hides id r.version)) cs
search-without hides guids test [] = refl
search-without hides guids test (c ∷ cs) =
    ap (λ (o : Option Release). option_or (cond (provides guids c) (in_one c o) None) (search guids test (map (without hides) cs)))
    (find-filter (test c.id) (λ (r : Release). not (hides c.id r.version)) c.releases)
    ∙ ap (λ (o : Option Found). option_or (cond (provides guids c) (in_one c (find (λ r. test c.id r && not (hides c.id r.version)) c.releases)) None) o)
    (search-without hides guids test cs)
