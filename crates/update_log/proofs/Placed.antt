-- A release that is chosen stands in the catalogue at its places.
use Rattle.std.proofs.Common.{◌≡◌, ℕ, List, [], ◌∷◌, ◌++◌, map, refl, ap, sym, ◌∙◌, ◌<◌, ◌+◌, length, append_assoc, length-append}
use Rattle.std.specs.Prelude.{Option, Some, None, flat_map, slice_get, option_map}
use Rattle.std.specs.List.{AllByRecursion, enumerate_from}
use Rattle.std.proofs.lemmas.Option.{slice_get_within}
use Rattle.device_list.proofs.GuidLaws.{slice_get-seam}
use Rattle.fw_facts.specs.declared.release.Component.{Component}
use Rattle.fw_facts.specs.declared.release.Release.{Release}
use Rattle.release_catalogue.specs.declared.reference.ReleaseRef.{ReleaseRef}
use Rattle.release_catalogue.specs.Lookup.{Chosen, all_releases, chosen, matching, provides, releases_of}
use Rattle.release_catalogue.specs.Places.{chosen_place}
use Rattle.update_log.proofs.Lists.{All-append, All-filter, All-find}
use Rattle.version_formats.specs.VersionOrder.{same_version}

-- The releases of the components that stand from a place on.
abbrev pub all_from : ℕ → List Component → List Chosen
all_from n components = flat_map (λ entry. releases_of entry.0 entry.1) (enumerate_from n components)

-- The release stands at its places in the catalogue.
pub record IsPlaced (components : List Component) (c : Chosen) : Type 0 where
  pub component : slice_get components c.at.component ≡ Some c.component
  pub release : slice_get c.component.releases c.at.release ≡ Some c.release

pub placed-from : (components : List Component) (n : ℕ) (c : Component) → slice_get components n ≡ Some c
    → (k : ℕ) (front rs : List Release) → front ++ rs ≡ c.releases → length front ≡ k
    → AllByRecursion (IsPlaced components)
    (map (λ entry. record { at = record { component = n; release = entry.0 }; component = c; release = entry.1 }) (enumerate_from k rs))
placed-from components n c h k front [] e l = tt
placed-from components n c h k front (r ∷ rs) e l =
    let next : (front ++ r ∷ []) ++ rs ≡ c.releases = append_assoc front (r ∷ []) rs ∙ e in
    let more : length (front ++ r ∷ []) ≡ k + 1 = length-append front (r ∷ []) ∙ ap (λ (m : ℕ). m + 1) l in
    let here : slice_get c.releases k ≡ Some r =
    ap (λ (m : ℕ). slice_get c.releases m) (sym l) ∙ ap (λ (xs : List Release). slice_get xs (length front)) (sym e) ∙ slice_get-seam front r rs in
    (record { component = h; release = here }, placed-from components n c h (k + 1) (front ++ r ∷ []) rs next more)

pub placed-all : (components : List Component) (n : ℕ) (front rest : List Component) → front ++ rest ≡ components → length front ≡ n
    → AllByRecursion (IsPlaced components) (all_from n rest)
placed-all components n front [] e l = tt
placed-all components n front (c ∷ cs) e l =
    let next : (front ++ c ∷ []) ++ cs ≡ components = append_assoc front (c ∷ []) cs ∙ e in
    let more : length (front ++ c ∷ []) ≡ n + 1 = length-append front (c ∷ []) ∙ ap (λ (m : ℕ). m + 1) l in
    let here : slice_get components n ≡ Some c =
    ap (λ (m : ℕ). slice_get components m) (sym l) ∙ ap (λ (xs : List Component). slice_get xs (length front)) (sym e) ∙ slice_get-seam front c cs in
    All-append (IsPlaced components) (releases_of n c) (all_from (n + 1) cs)
    (placed-from components n c here 0 [] c.releases refl refl)
    (placed-all components (n + 1) (front ++ c ∷ []) cs next more)

pub chosen-placed : (components : List Component) (guids : List (List ℕ)) (version : List ℕ) (found : Chosen)
    → chosen components guids version ≡ Some found → IsPlaced components found
unfolding chosen
chosen-placed components guids version found h =
    let all : AllByRecursion (IsPlaced components) (all_releases components) = placed-all components 0 [] components refl refl in
    let kept : AllByRecursion (IsPlaced components) (matching components guids) =
    All-filter (IsPlaced components) (IsPlaced components) (λ c. provides guids c.component) (all_releases components) all (λ c p t. p) in
    All-find (IsPlaced components) (λ c. same_version c.release.version version) (matching components guids) found kept h

-- The release at a place that was found: it and its component stand there, and it is the one chosen.
pub record FoundAt (components : List Component) (guids : List (List ℕ)) (version : List ℕ) (at : ReleaseRef) : Type 0 where
  pub component : Component
  pub release : Release
  pub component_is : slice_get components at.component ≡ Some component
  pub release_is : slice_get component.releases at.release ≡ Some release
  pub chosen_is : chosen components guids version ≡ Some (record { at = at; component = component; release = release })

pub found-at : (components : List Component) (guids : List (List ℕ)) (version : List ℕ) (at : ReleaseRef)
    → Some at ≡ chosen_place components guids version → FoundAt components guids version at
found-at components guids version at h = by (chosen components guids version) refl h
  where
    by : (o : Option Chosen) → chosen components guids version ≡ o → Some at ≡ option_map (λ c. c.at) o → FoundAt components guids version at
    by None e g = cc
    by (Some c) e g =
        let same : at ≡ c.at = cc in
        let p : IsPlaced components c = chosen-placed components guids version c e in
        record {
          component = c.component;
          release = c.release;
          component_is = ap (λ (r : ReleaseRef). slice_get components r.component) same ∙ p.component;
          release_is = ap (λ (r : ReleaseRef). slice_get c.component.releases r.release) same ∙ p.release;
          chosen_is = e ∙ ap (λ (r : ReleaseRef). let f : Chosen = record { at = r; component = c.component; release = c.release } in Some f) (sym same);
        }

pub none-chosen : (components : List Component) (guids : List (List ℕ)) (version : List ℕ) → None ≡ chosen_place components guids version → chosen components guids version ≡ None
none-chosen components guids version h = by (chosen components guids version) refl h
  where
    by : (o : Option Chosen) → chosen components guids version ≡ o → None ≡ option_map (λ c. c.at) o → chosen components guids version ≡ None
    by None e g = e
    by (Some c) e g = cc

-- The place of its component is in the catalogue.
pub component-within : (components : List Component) (guids : List (List ℕ)) (version : List ℕ) (at : ReleaseRef)
    → Some at ≡ chosen_place components guids version → at.component < length components
component-within components guids version at h =
    let f : FoundAt components guids version at = found-at components guids version at h in
    slice_get_within components at.component f.component f.component_is

-- What stands at the places is the component and the release that are chosen.
found-component : (components : List Component) (guids : List (List ℕ)) (version : List ℕ) (at : ReleaseRef) (c : Component)
    → (f : FoundAt components guids version at) → slice_get components at.component ≡ Some c → f.component ≡ c
found-component components guids version at c f e = let s : Some f.component ≡ Some c = sym f.component_is ∙ e in cc

pub release-within : (components : List Component) (guids : List (List ℕ)) (version : List ℕ) (at : ReleaseRef) (c : Component)
    → Some at ≡ chosen_place components guids version → slice_get components at.component ≡ Some c → at.release < length c.releases
release-within components guids version at c h e =
    let f : FoundAt components guids version at = found-at components guids version at h in
    let same : f.component ≡ c = found-component components guids version at c f e in
    slice_get_within c.releases at.release f.release (ap (λ (x : Component). slice_get x.releases at.release) (sym same) ∙ f.release_is)

pub found-with : (components : List Component) (guids : List (List ℕ)) (version : List ℕ) (at : ReleaseRef) (c : Component) (r : Release)
    → Some at ≡ chosen_place components guids version → slice_get components at.component ≡ Some c → slice_get c.releases at.release ≡ Some r
    → chosen components guids version ≡ Some (record { at = at; component = c; release = r })
found-with components guids version at c r h e g =
    let f : FoundAt components guids version at = found-at components guids version at h in
    let same : f.component ≡ c = found-component components guids version at c f e in
    let there : Some f.release ≡ Some r = sym f.release_is ∙ ap (λ (x : Component). slice_get x.releases at.release) same ∙ g in
    let also : f.release ≡ r = cc in
    f.chosen_is
    ∙ ap (λ (x : Component). let k : Chosen = record { at = at; component = x; release = f.release } in Some k) same
    ∙ ap (λ (x : Release). let k : Chosen = record { at = at; component = c; release = x } in Some k) also
