-- Looking up releases component by component.
use Rattle.std.proofs.Common.{◌≡◌, ℕ, suc, ◌+◌, ◌≤◌, ◌<◌, Bool, true, false, cond, List, [], ◌∷◌, ◌++◌, length, drop, get_or, map, filter, Option, Some, None, refl, sym, ap, ◌∙◌, add-one}
use Rattle.std.specs.Prelude.{find}
use Rattle.std.specs.List.{enumerate_from, flat_map}
use Rattle.std.specs.Option.{option_map}
use Rattle.std.proofs.lemmas.List.Sums.{get_or-le-sum_by}
use Rattle.std.proofs.Math.Seq.{drop-cons}
use Rattle.std.proofs.Math.ListN.{drop_of_length-le}
use Rattle.version_formats.specs.VersionOrder.{same_version}
use Rattle.fw_facts.specs.declared.release.Component.{Component}
use Rattle.fw_facts.specs.declared.release.Release.{Release}
use Rattle.release_catalogue.specs.declared.reference.ReleaseRef.{ReleaseRef}
use Rattle.release_catalogue.specs.Components.{releases_in}
use Rattle.release_catalogue.specs.Lookup.{Chosen, chosen, provides}
use Rattle.release_catalogue.specs.Places.{first_equal, matching_from, chosen_place}

-- An item and those behind it.
pub drop_at : {X : Type 0} (xs : List X) (i : ℕ) (x : X) → i < length xs → x ≡ get_or xs i x → drop i xs ≡ x ∷ drop (i + 1) xs
drop_at {X} xs i x lt is = rw add-one (drop-cons xs i x lt ∙ ap (λ (w : X). w ∷ drop (suc i) xs) (sym is))

-- ---- the releases of one component

-- The releases of a component from a place on.
abbrev part : ℕ → Component → ℕ → List Release → List Chosen
part place component from releases =
    map
    (λ entry. record { at = record { component = place; release = entry.0 }; component = component; release = entry.1 })
    (enumerate_from from releases)

abbrev place_of : Option Chosen → Option ReleaseRef
place_of found = option_map (λ chosen. chosen.at) found

abbrev fits : List ℕ → Chosen → Bool
fits version chosen = same_version chosen.release.version version

-- A component that provides none of the GUIDs has no matching release, and one that does has all of its own.
none_match : (guids : List (List ℕ)) (place : ℕ) (component : Component) (from : ℕ) (releases : List Release) (more : List Chosen) → provides guids component ≡ false
    → filter (λ chosen. provides guids chosen.component) (part place component from releases ++ more) ≡ filter (λ chosen. provides guids chosen.component) more
none_match guids place component from [] more h = refl
none_match guids place component from (release ∷ releases) more h = rw h (none_match guids place component (from + 1) releases more h)

all_match : (guids : List (List ℕ)) (place : ℕ) (component : Component) (from : ℕ) (releases : List Release) (more : List Chosen) → provides guids component ≡ true
    → filter (λ chosen. provides guids chosen.component) (part place component from releases ++ more)
    ≡ part place component from releases ++ filter (λ chosen. provides guids chosen.component) more
all_match guids place component from [] more h = refl
all_match guids place component from (release ∷ releases) more h =
    let first : Chosen = record { at = record { component = place; release = from }; component = component; release = release } in
    rw h (ap (λ (l : List Chosen). first ∷ l) (all_match guids place component (from + 1) releases more h))

-- The place found in the component, or else what is found behind it.
abbrev after : ℕ → Option ℕ → Option ReleaseRef → Option ReleaseRef
after place (Some release) rest = Some (record { component = place; release = release })
after place None rest = rest

by_test : (b : Bool) (place : ℕ) (here : Chosen) (entry : ℕ × Release) (found : Option Chosen) (tail : Option (ℕ × Release)) (rest : Option ReleaseRef)
    → place_of found ≡ after place (option_map (λ e. e.0) tail) rest → here.at ≡ record { component = place; release = entry.0 }
    → place_of (cond b (Some here) found) ≡ after place (option_map (λ e. e.0) (cond b (Some entry) tail)) rest
by_test true place here entry found tail rest h is = ap (λ (r : ReleaseRef). Some r) is
by_test false place here entry found tail rest h is = h

found_in : (version : List ℕ) (place : ℕ) (component : Component) (from : ℕ) (releases : List Release) (more : List Chosen)
    → place_of (find (fits version) (part place component from releases ++ more)) ≡ after place (first_equal version from releases) (place_of (find (fits version) more))
found_in version place component from [] more = refl
found_in version place component from (release ∷ releases) more =
    by_test (same_version release.version version) place
    (record { at = record { component = place; release = from }; component = component; release = release })
    (from, release) (find (fits version) (part place component (from + 1) releases ++ more))
    (find (λ entry. same_version entry.1.version version) (enumerate_from (from + 1) releases))
    (place_of (find (fits version) more)) (found_in version place component (from + 1) releases more) refl

-- ---- the components

abbrev pub found_from : List (List ℕ) → List ℕ → ℕ → List Component → Option ReleaseRef
found_from guids version place components = place_of (find (fits version) (matching_from guids place components))

pub chosen_is : (components : List Component) (guids : List (List ℕ)) (version : List ℕ) → chosen_place components guids version ≡ found_from guids version 0 components
unfolding chosen
chosen_is components guids version = refl

pub passed_over : (guids : List (List ℕ)) (version : List ℕ) (components : List Component) (i : ℕ) (component : Component) → i < length components → component ≡ get_or components i component
    → provides guids component ≡ false → found_from guids version i (drop i components) ≡ found_from guids version (i + 1) (drop (i + 1) components)
passed_over guids version components i component lt is miss =
    rw (drop_at components i component lt is)
    (ap (λ (l : List Chosen). place_of (find (fits version) l))
    (none_match guids i component 0 component.releases (flat_map (λ (entry : ℕ × Component). part entry.0 entry.1 0 entry.1.releases) (enumerate_from (i + 1) (drop (i + 1) components))) miss))

looked_at : (guids : List (List ℕ)) (version : List ℕ) (components : List Component) (i : ℕ) (component : Component) → i < length components → component ≡ get_or components i component
    → provides guids component ≡ true
    → found_from guids version i (drop i components) ≡ after i (first_equal version 0 component.releases) (found_from guids version (i + 1) (drop (i + 1) components))
looked_at guids version components i component lt is hit =
    rw (drop_at components i component lt is)
    (ap (λ (l : List Chosen). place_of (find (fits version) l))
    (all_match guids i component 0 component.releases (flat_map (λ (entry : ℕ × Component). part entry.0 entry.1 0 entry.1.releases) (enumerate_from (i + 1) (drop (i + 1) components))) hit)
    ∙ found_in version i component 0 component.releases (matching_from guids (i + 1) (drop (i + 1) components)))

pub no_equal : (guids : List (List ℕ)) (version : List ℕ) (components : List Component) (i : ℕ) (component : Component) → i < length components → component ≡ get_or components i component
    → provides guids component ≡ true → first_equal version 0 component.releases ≡ None
    → found_from guids version i (drop i components) ≡ found_from guids version (i + 1) (drop (i + 1) components)
no_equal guids version components i component lt is hit none =
    looked_at guids version components i component lt is hit
    ∙ ap (λ (o : Option ℕ). after i o (found_from guids version (i + 1) (drop (i + 1) components))) none

pub is_found : (guids : List (List ℕ)) (version : List ℕ) (components : List Component) (i : ℕ) (component : Component) (release : ℕ) → i < length components → component ≡ get_or components i component
    → provides guids component ≡ true → first_equal version 0 component.releases ≡ Some release
    → found_from guids version i (drop i components) ≡ Some (record { component = i; release = release })
is_found guids version components i component release lt is hit some =
    looked_at guids version components i component lt is hit
    ∙ ap (λ (o : Option ℕ). after i o (found_from guids version (i + 1) (drop (i + 1) components))) some

pub none_found : (guids : List (List ℕ)) (version : List ℕ) (components : List Component) (i : ℕ) → length components ≤ i → found_from guids version i (drop i components) ≡ None
none_found guids version components i le = rw (drop_of_length-le components le) refl

-- ---- all matching releases

-- The places of a component's releases.
abbrev pub places_in : ℕ → List Release → List ReleaseRef
places_in place releases = map (λ entry. record { component = place; release = entry.0 }) (enumerate_from 0 releases)

abbrev pub places_from : List (List ℕ) → ℕ → List Component → List ReleaseRef
places_from guids place components = map (λ chosen. chosen.at) (matching_from guids place components)

places_of_part : (place : ℕ) (component : Component) (from : ℕ) (releases : List Release) (more : List Chosen)
    → map (λ (chosen : Chosen). chosen.at) (part place component from releases ++ more)
    ≡ map (λ (entry : ℕ × Release). let at : ReleaseRef = record { component = place; release = entry.0 } in at) (enumerate_from from releases) ++ map (λ (chosen : Chosen). chosen.at) more
places_of_part place component from [] more = refl
places_of_part place component from (release ∷ releases) more =
    ap (λ (l : List ReleaseRef). record { component = place; release = from } ∷ l) (places_of_part place component (from + 1) releases more)

pub places_skipped : (guids : List (List ℕ)) (components : List Component) (i : ℕ) (component : Component) → i < length components → component ≡ get_or components i component
    → provides guids component ≡ false → places_from guids i (drop i components) ≡ places_from guids (i + 1) (drop (i + 1) components)
places_skipped guids components i component lt is miss =
    rw (drop_at components i component lt is)
    (ap (λ (l : List Chosen). map (λ (chosen : Chosen). chosen.at) l)
    (none_match guids i component 0 component.releases (flat_map (λ (entry : ℕ × Component). part entry.0 entry.1 0 entry.1.releases) (enumerate_from (i + 1) (drop (i + 1) components))) miss))

pub places_taken : (guids : List (List ℕ)) (components : List Component) (i : ℕ) (component : Component) → i < length components → component ≡ get_or components i component
    → provides guids component ≡ true
    → places_from guids i (drop i components) ≡ places_in i component.releases ++ places_from guids (i + 1) (drop (i + 1) components)
places_taken guids components i component lt is hit =
    rw (drop_at components i component lt is)
    (ap (λ (l : List Chosen). map (λ (chosen : Chosen). chosen.at) l)
    (all_match guids i component 0 component.releases (flat_map (λ (entry : ℕ × Component). part entry.0 entry.1 0 entry.1.releases) (enumerate_from (i + 1) (drop (i + 1) components))) hit)
    ∙ places_of_part i component 0 component.releases (matching_from guids (i + 1) (drop (i + 1) components)))

-- A component has no more releases than all of them.
pub few_each : (components : List Component) (i : ℕ) (component : Component) → i < length components → component ≡ get_or components i component
    → length component.releases ≤ releases_in components
few_each components i component lt is =
    let whole : length (get_or components i component).releases ≤ releases_in components = get_or-le-sum_by (λ (c : Component). length c.releases) components i component lt in
    rw (← is) at whole
