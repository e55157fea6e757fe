-- The release at a place of the catalogue.
use Rattle.std.proofs.Common.{◌≡◌, ◌≢◌, ℕ, zero, suc, ◌+◌, ◌<◌, List, [], ◌∷◌, map, refl, sym, ap, ◌∙◌, arith}
use Rattle.std.specs.Prelude.{Option, Some, None, find, flat_map, slice_get, option_map, option_and_then}
use Rattle.std.specs.List.{enumerate_from}
use Rattle.std.specs.Option.{option_or}
use Rattle.std.proofs.lemmas.Bool.{ne_eqb}
use Rattle.update_log.proofs.Lists.{eqb-self}
use Rattle.std.proofs.lemmas.List.Folds.{find-append}
use Rattle.fw_facts.specs.declared.release.Component.{Component}
use Rattle.fw_facts.specs.declared.release.Release.{Release}
use Rattle.release_catalogue.specs.declared.reference.ReleaseRef.{ReleaseRef}
use Rattle.release_catalogue.specs.Lookup.{Chosen, all_releases, releases_of}
use Rattle.update_log.specs.Verdicts.{is_release}

-- The releases of a component that stand from a place on, and those of the components from a place on.
abbrev entries : ℕ → Component → ℕ → List Release → List Chosen
entries n c k rs =
    map (λ entry. record { at = record { component = n; release = entry.0 }; component = c; release = entry.1 }) (enumerate_from k rs)

abbrev all_from : ℕ → List Component → List Chosen
all_from n components = flat_map (λ entry. releases_of entry.0 entry.1) (enumerate_from n components)

abbrev pub place_at : ℕ → ℕ → ReleaseRef
place_at n k = record { component = n; release = k }

abbrev pub chosen_at : ℕ → ℕ → Component → Release → Chosen
chosen_at n k c r = record { at = place_at n k; component = c; release = r }

-- another component's releases aren't it
other-component : (n m l : ℕ) (c : Component) (k : ℕ) (rs : List Release) → n ≢ m → find (λ chosen. is_release chosen.at (place_at m l)) (entries n c k rs) ≡ None
other-component n m l c k [] differ = refl
other-component n m l c k (r ∷ rs) differ = rw (ne_eqb n m differ) (other-component n m l c (k + 1) rs differ)

-- the one that stands so far behind the first
in-component : (n : ℕ) (c : Component) (k m l : ℕ) (rs : List Release) → l ≡ k + m
    → find (λ chosen. is_release chosen.at (place_at n l)) (entries n c k rs) ≡ option_map (chosen_at n l c) (slice_get rs m)
in-component n c k m l [] e = refl
in-component n c k zero l (r ∷ rs) e = let same : l ≡ k = omega (arith, e) in rw (same, eqb-self n, eqb-self k) refl
in-component n c k (suc m) l (r ∷ rs) e =
    rw (eqb-self n, ne_eqb k l (λ same. absurd (omega (arith, e, same)))) (in-component n c (k + 1) m l rs (omega (arith, e)))

none-later : (n m l : ℕ) (components : List Component) → m < n → find (λ chosen. is_release chosen.at (place_at m l)) (all_from n components) ≡ None
none-later n m l [] before = refl
none-later n m l (c ∷ components) before =
    find-append (λ chosen. is_release chosen.at (place_at m l)) (releases_of n c) (all_from (n + 1) components)
    ∙ ap (λ (o : Option Chosen). option_or o (find (λ chosen. is_release chosen.at (place_at m l)) (all_from (n + 1) components))) (other-component n m l c 0 c.releases (λ e. absurd (omega (arith, e, before))))
    ∙ none-later (n + 1) m l components (omega (arith, before))

or-none : (o : Option Chosen) → option_or o None ≡ o
or-none None = refl
or-none (Some x) = refl

from-place : (n m j l : ℕ) (components : List Component) → m ≡ n + j
    → find (λ chosen. is_release chosen.at (place_at m l)) (all_from n components) ≡ option_and_then (λ c. option_map (chosen_at m l c) (slice_get c.releases l)) (slice_get components j)
from-place n m j l [] e = refl
from-place n m zero l (c ∷ components) e =
    let same : m ≡ n = omega (arith, e) in
    find-append (λ chosen. is_release chosen.at (place_at m l)) (releases_of n c) (all_from (n + 1) components)
    ∙ ap (λ (o : Option Chosen). option_or (find (λ chosen. is_release chosen.at (place_at m l)) (releases_of n c)) o) (none-later (n + 1) m l components (omega (arith, same)))
    ∙ or-none (find (λ chosen. is_release chosen.at (place_at m l)) (releases_of n c))
    ∙ rw same (in-component n c 0 l l c.releases (omega arith))
from-place n m (suc j) l (c ∷ components) e =
    find-append (λ chosen. is_release chosen.at (place_at m l)) (releases_of n c) (all_from (n + 1) components)
    ∙ ap (λ (o : Option Chosen). option_or o (find (λ chosen. is_release chosen.at (place_at m l)) (all_from (n + 1) components))) (other-component n m l c 0 c.releases (λ same. absurd (omega (arith, e, same))))
    ∙ from-place (n + 1) m j l components (omega (arith, e))

-- The look-up of a place finds what stands there.
pub found_at : (components : List Component) (at : ReleaseRef)
    → find (λ chosen. is_release chosen.at at) (all_releases components) ≡ option_and_then (λ c. option_map (chosen_at at.component at.release c) (slice_get c.releases at.release)) (slice_get components at.component)
found_at components at = from-place 0 at.component at.component at.release components (omega arith)

-- So the release which stands there is that one, and its version is.
pub release_found : (components : List Component) (at : ReleaseRef) (found : Option Release)
    → found ≡ option_and_then (λ (c : Component). slice_get c.releases at.release) (slice_get components at.component)
    → option_map (λ (chosen : Chosen). chosen.release) (find (λ chosen. is_release chosen.at at) (all_releases components)) ≡ found
release_found components at found e = ap (option_map (λ (chosen : Chosen). chosen.release)) (found_at components at) ∙ of_component (slice_get components at.component) ∙ sym e
  where
    of_release : (c : Component) (r : Option Release) → option_map (λ (chosen : Chosen). chosen.release) (option_map (chosen_at at.component at.release c) r) ≡ r
    of_release c None = refl
    of_release c (Some r) = refl

    of_component : (o : Option Component)
        → option_map (λ (chosen : Chosen). chosen.release) (option_and_then (λ c. option_map (chosen_at at.component at.release c) (slice_get c.releases at.release)) o)
        ≡ option_and_then (λ (c : Component). slice_get c.releases at.release) o
    of_component None = refl
    of_component (Some c) = of_release c (slice_get c.releases at.release)

pub version_found : (components : List Component) (at : ReleaseRef) (found : Option Release)
    → found ≡ option_and_then (λ (c : Component). slice_get c.releases at.release) (slice_get components at.component)
    → option_map (λ (r : Release). r.version) found ≡ option_map (λ (chosen : Chosen). chosen.release.version) (find (λ chosen. is_release chosen.at at) (all_releases components))
version_found components at found e =
    ap (option_map (λ (r : Release). r.version)) (sym (release_found components at found e)) ∙ both (find (λ chosen. is_release chosen.at at) (all_releases components))
  where
    both : (o : Option Chosen) → option_map (λ (r : Release). r.version) (option_map (λ (chosen : Chosen). chosen.release) o) ≡ option_map (λ (chosen : Chosen). chosen.release.version) o
    both None = refl
    both (Some chosen) = refl
