-- Releases that match stand in the catalogue at their places, so that a place tells its release's line.
use Rattle.std.proofs.Common.{◌≡◌, ℕ, true, false, zero, suc, ◌-◌, ◌==◌, if◌then◌else◌, List, [], ◌∷◌, ◌++◌, length, take, map, filter, refl, ap, ◌∙◌}
use Rattle.std.specs.Prelude.{Option, Some, flat_map}
use Rattle.std.specs.List.{AllByRecursion}
use Rattle.std.proofs.lemmas.List.{length-map}
use Rattle.fw_facts.specs.declared.release.Component.{Component}
use Rattle.release_catalogue.specs.declared.reference.ReleaseRef.{ReleaseRef}
use Rattle.release_catalogue.specs.Lookup.{Chosen, all_releases, matching, provides}
use Rattle.update_log.proofs.Lists.{All-filter, by_test}
use Rattle.update_log.proofs.Placed.{IsPlaced, placed-all}
use Rattle.fw_facts.specs.Views.{guids_of, version_of}
use Rattle.fw_facts.specs.declared.view.DeviceView.{DeviceView}
use Rattle.client_scripts.specs.Replies.{at_most_64, is_newer, left_out, none_listed, release_line, releases_shown, upgrades_shown}
use Rattle.client_scripts.specs.Places.{is_newer_at, line_at, release_at}

matching-placed : (components : List Component) (guids : List (List ℕ)) → AllByRecursion (IsPlaced components) (matching components guids)
matching-placed components guids =
    All-filter (IsPlaced components) (IsPlaced components) (λ c. provides guids c.component) (all_releases components)
    (placed-all components 0 [] components refl refl) (λ c p t. p)

-- The places of releases.
abbrev places : List Chosen → List ReleaseRef
places cs = map (λ c. c.at) cs

placed-found : (components : List Component) (c : Chosen) → IsPlaced components c → release_at components c.at ≡ Some c
placed-found components c p = rw p.component (rw p.release refl)

placed-line : (components : List Component) (shown : List ℕ) (c : Chosen) → IsPlaced components c → line_at components shown c.at ≡ release_line shown c
placed-line components shown c p = rw (placed-found components c p) refl

lines-placed : (components : List Component) (shown : List ℕ) (n : ℕ) (cs : List Chosen) → AllByRecursion (IsPlaced components) cs
    → flat_map (line_at components shown) (take n (places cs)) ≡ flat_map (release_line shown) (take n cs)
lines-placed components shown zero cs all = refl
lines-placed components shown (suc n) [] all = refl
lines-placed components shown (suc n) (c ∷ cs) all =
    ap (λ (t : List ℕ). t ++ flat_map (line_at components shown) (take n (places cs))) (placed-line components shown c all.0)
    ∙ ap (λ (t : List ℕ). release_line shown c ++ t) (lines-placed components shown n cs all.1)

listed-placed : (components : List Component) (shown : List ℕ) (cs : List Chosen) → AllByRecursion (IsPlaced components) cs
    → at_most_64 (line_at components shown) (places cs) ≡ at_most_64 (release_line shown) cs
listed-placed components shown cs all =
    ap (λ (n : ℕ). if n == 0 then none_listed else flat_map (line_at components shown) (take 64 (places cs)) ++ left_out (n - 64)) (length-map cs (λ (c : Chosen). c.at))
    ∙ ap (λ (t : List ℕ). if length cs == 0 then none_listed else t ++ left_out (length cs - 64)) (lines-placed components shown 64 cs all)

newer-placed : (components : List Component) (shown : List ℕ) (cs : List Chosen) → AllByRecursion (IsPlaced components) cs
    → filter (is_newer_at components shown) (places cs) ≡ places (filter (is_newer shown) cs)
newer-placed components shown [] all = refl
newer-placed components shown (c ∷ cs) all =
    let here : is_newer_at components shown c.at ≡ is_newer shown c = rw (placed-found components c all.0) refl in
    let rest : filter (is_newer_at components shown) (places cs) ≡ places (filter (is_newer shown) cs) = newer-placed components shown cs all.1 in
    by_test (is_newer shown c) _
    (λ t. let u : is_newer_at components shown c.at ≡ true = here ∙ t in rw (u, t) (ap (λ (rs : List ReleaseRef). c.at ∷ rs) rest))
    (λ t. let u : is_newer_at components shown c.at ≡ false = here ∙ t in rw (u, t) rest)

-- The lines at the places of the matching releases are their lines.
pub matching-lines : (components : List Component) (guids : List (List ℕ)) (shown : List ℕ) (at : List ReleaseRef) → at ≡ places (matching components guids)
    → at_most_64 (line_at components shown) at ≡ at_most_64 (release_line shown) (matching components guids)
matching-lines components guids shown at e =
    ap (λ (rs : List ReleaseRef). at_most_64 (line_at components shown) rs) e ∙ listed-placed components shown (matching components guids) (matching-placed components guids)

pub newer-lines : (components : List Component) (guids : List (List ℕ)) (shown : List ℕ) (at newer : List ReleaseRef) → at ≡ places (matching components guids)
    → newer ≡ filter (is_newer_at components shown) at
    → at_most_64 (line_at components shown) newer ≡ at_most_64 (release_line shown) (filter (is_newer shown) (matching components guids))
newer-lines components guids shown at newer e kept =
    let all : AllByRecursion (IsPlaced components) (matching components guids) = matching-placed components guids in
    ap (λ (rs : List ReleaseRef). at_most_64 (line_at components shown) rs)
    (kept ∙ ap (λ (rs : List ReleaseRef). filter (is_newer_at components shown) rs) e ∙ newer-placed components shown (matching components guids) all)
    ∙ listed-placed components shown (filter (is_newer shown) (matching components guids))
    (All-filter (IsPlaced components) (IsPlaced components) (is_newer shown) (matching components guids) all (λ c p t. p))

-- What a device that shows a version is told of the releases that match, and of the newer ones.
pub releases_told : (components : List Component) (view : DeviceView) (shown : List ℕ) (guids : List (List ℕ)) (at : List ReleaseRef) (old new : List ℕ)
    → Some shown ≡ version_of view → guids ≡ guids_of view → at ≡ places (matching components guids)
    → new ≡ old ++ at_most_64 (line_at components shown) at → new ≡ old ++ releases_shown components view (version_of view)
releases_told components view shown guids at old new is side there put =
    put ∙ ap (λ (t : List ℕ). old ++ t) (matching-lines components guids shown at there ∙ ap (λ (gs : List (List ℕ)). at_most_64 (release_line shown) (matching components gs)) side)
    ∙ ap (λ (v : Option (List ℕ)). old ++ releases_shown components view v) is

pub upgrades_told : (components : List Component) (view : DeviceView) (shown : List ℕ) (guids : List (List ℕ)) (at newer : List ReleaseRef) (old new : List ℕ)
    → Some shown ≡ version_of view → guids ≡ guids_of view → at ≡ places (matching components guids) → newer ≡ filter (is_newer_at components shown) at
    → new ≡ old ++ at_most_64 (line_at components shown) newer → new ≡ old ++ upgrades_shown components view (version_of view)
upgrades_told components view shown guids at newer old new is side there kept put =
    put ∙ ap (λ (t : List ℕ). old ++ t) (newer-lines components guids shown at newer there kept ∙ ap (λ (gs : List (List ℕ)). at_most_64 (release_line shown) (filter (is_newer shown) (matching components gs))) side)
    ∙ ap (λ (v : Option (List ℕ)). old ++ upgrades_shown components view v) is
