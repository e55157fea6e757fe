-- What is left of components.
use Rattle.std.proofs.Common.{◌≡◌, ℕ, ◌+◌, ◌≤◌, Bool, not, List, [], ◌∷◌, All, length, map, ap, ◌∙◌, arith}
use mathlib.Core.Path.{fun_ext}
use Rattle.std.specs.Prelude.{filter, flat_map}
use Rattle.std.proofs.lemmas.List.Elements.{All-map}
use Rattle.std.proofs.lemmas.List.Folds.{flat_map-map}
use Rattle.std.proofs.lemmas.List.Sums.{sum_by-cons, length-filter, count_by-le-length}
use Rattle.fw_facts.specs.declared.release.Component.{Component}
use Rattle.release_catalogue.specs.Components.{releases_in}
use Rattle.remote_set.specs.declared.remote.Remote.{Remote}
use Rattle.remote_set.specs.Merged.{enabled_in_order, merged, placed_from, without}
use Rattle.remote_set.specs.Orders.{in_order}
use Rattle.remote_set.specs.Pieces.{Piece, piece_of}
use Rattle.remote_set.proofs.Orders.{in_order-map}

filter-fewer : {X : Type 0} (p : X → Bool) (xs : List X) → length (filter p xs) ≤ length xs
filter-fewer p xs = rw (length-filter p xs) (count_by-le-length p xs)

pub fewer_releases : (hides : List ℕ → List ℕ → Bool) (components : List Component) → releases_in (map (without hides) components) ≤ releases_in components
fewer_releases hides [] = omega arith
fewer_releases hides (c ∷ cs) =
    let here : length (filter (λ release. not (hides c.id release.version)) c.releases) ≤ length c.releases = filter-fewer (λ release. not (hides c.id release.version)) c.releases in
    let more : releases_in (map (without hides) cs) ≤ releases_in cs = fewer_releases hides cs in
    let left : releases_in (map (without hides) (c ∷ cs)) ≡ length (filter (λ release. not (hides c.id release.version)) c.releases) + releases_in (map (without hides) cs)
    = sum_by-cons (λ (c : Component). length c.releases) (without hides c) (map (without hides) cs) in
    let all : releases_in (c ∷ cs) ≡ length c.releases + releases_in cs = sum_by-cons (λ (c : Component). length c.releases) c cs in
    omega arith

pub few_requirements_left : (hides : List ℕ → List ℕ → Bool) (components : List Component) → All (λ c. length c.requirements ≤ 64) components
    → All (λ c. length c.requirements ≤ 64) (map (without hides) components)
few_requirements_left hides components few = All-map (λ c. length c.requirements ≤ 64) (without hides) components few

-- The same is left by two tests that answer the same.
pub left_alike : (hides other : List ℕ → List ℕ → Bool) → ((id version : List ℕ) → hides id version ≡ other id version) → (components : List Component)
    → map (without hides) components ≡ map (without other) components
left_alike hides other same components =
    ap (λ (test : List ℕ → List ℕ → Bool). map (without test) components) (fun_ext (λ id. fun_ext (λ version. same id version)))

-- The parts in order, one behind the other, are the merged catalogue.
pub joined_parts : (remotes : List Remote)
    → flat_map (λ part. part.components) (in_order (λ part. part.order) (λ part. part.enabled) (map (piece_of remotes) (placed_from 0 remotes))) ≡ merged remotes
unfolding merged
joined_parts remotes =
    ap (λ (parts : List Piece). flat_map (λ part. part.components) parts)
    (in_order-map (λ (part : Piece). part.order) (λ (part : Piece). part.enabled) (piece_of remotes) (placed_from 0 remotes))
    ∙ flat_map-map (λ (part : Piece). part.components) (piece_of remotes) (enabled_in_order remotes)

-- ---- what a part may have

pub small_left : (hides : List ℕ → List ℕ → Bool) (catalogue given left : List Component) → left ≡ map (without hides) given → given ≡ catalogue
    → releases_in catalogue ≤ 20000 → releases_in left ≤ 20000
small_left hides catalogue given left is given_is few = rw (is, given_is) (omega (arith, fewer_releases hides catalogue, few))

pub few_left : (hides : List ℕ → List ℕ → Bool) (catalogue given left : List Component) → left ≡ map (without hides) given → given ≡ catalogue
    → All (λ c. length c.requirements ≤ 64) catalogue → All (λ c. length c.requirements ≤ 64) left
few_left hides catalogue given left is given_is few = rw (is, given_is) (few_requirements_left hides catalogue few)
