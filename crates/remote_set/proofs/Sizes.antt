-- How much is merged: no more than the remotes have.
use Rattle.std.proofs.Common.{◌≡◌, ℕ, suc, ◌+◌, ◌≤◌, Bool, true, false, List, [], ◌∷◌, length, refl, sym, ap, ◌∙◌, arith}
use Rattle.std.specs.Prelude.{flat_map, nat_lt}
use Rattle.std.specs.List.{sum_by}
use Rattle.std.proofs.lemmas.List.{length-map}
use Rattle.std.proofs.lemmas.List.Concat.{flat_map-cons, length-flat_map}
use Rattle.std.proofs.lemmas.List.Sums.{sum_by-append, sum_by-cons}
use Rattle.fw_facts.specs.declared.release.Component.{Component}
use Rattle.release_catalogue.specs.Components.{releases_in}
use Rattle.remote_set.specs.declared.remote.Remote.{Remote}
use Rattle.remote_set.specs.Merged.{Placed, enabled_in_order, is_hidden, left_of, merged, placed_from, rank_of, without}
use Rattle.remote_set.specs.Orders.{in_order, put_in}
use Rattle.remote_set.proofs.Left.{fewer_releases}

-- ---- in order

put_step : {X : Type 0} (f order : X → ℕ) (x y : X) (ys : List X) (b : Bool) → nat_lt (order y) (order x) ≡ b
    → sum_by f (put_in order x ys) ≡ f x + sum_by f ys → sum_by f (put_in order x (y ∷ ys)) ≡ f x + sum_by f (y ∷ ys)
put_step f order x y ys true e h = rw e (omega (arith, sum_by-cons f y (put_in order x ys), sum_by-cons f y ys, h))
put_step f order x y ys false e h = rw e (sum_by-cons f x (y ∷ ys))

sum-put_in : {X : Type 0} (f order : X → ℕ) (x : X) (ys : List X) → sum_by f (put_in order x ys) ≡ f x + sum_by f ys
sum-put_in f order x [] = sum_by-cons f x []
sum-put_in f order x (y ∷ ys) = put_step f order x y ys (nat_lt (order y) (order x)) refl (sum-put_in f order x ys)

order_step : {X : Type 0} (f order : X → ℕ) (test : X → Bool) (x : X) (xs : List X) (b : Bool) → test x ≡ b
    → sum_by f (in_order order test xs) ≤ sum_by f xs → sum_by f (in_order order test (x ∷ xs)) ≤ sum_by f (x ∷ xs)
order_step f order test x xs true e h = rw e (omega (arith, sum-put_in f order x (in_order order test xs), sum_by-cons f x xs, h))
order_step f order test x xs false e h = rw e (omega (arith, sum_by-cons f x xs, h))

sum-in_order : {X : Type 0} (f order : X → ℕ) (test : X → Bool) (xs : List X) → sum_by f (in_order order test xs) ≤ sum_by f xs
sum-in_order f order test [] = omega arith
sum-in_order f order test (x ∷ xs) = order_step f order test x xs (test x) refl (sum-in_order f order test xs)

-- ---- one behind the other

releases-flat : {X : Type 0} (g : X → List Component) (xs : List X) → releases_in (flat_map g xs) ≡ sum_by (λ x. releases_in (g x)) xs
releases-flat g [] = refl
releases-flat {X} g (x ∷ xs) =
    ap releases_in (flat_map-cons g x xs) ∙ sum_by-append (λ (c : Component). length c.releases) (g x) (flat_map g xs)
    ∙ ap (λ (n : ℕ). releases_in (g x) + n) (releases-flat g xs) ∙ sym (sum_by-cons (λ (x : X). releases_in (g x)) x xs)

-- ---- of remotes

sum-fewer : (f g : Placed → ℕ) → ((at : Placed) → f at ≤ g at) → (xs : List Placed) → sum_by f xs ≤ sum_by g xs
sum-fewer f g fewer [] = omega arith
sum-fewer f g fewer (x ∷ xs) = omega (arith, sum_by-cons f x xs, sum_by-cons g x xs, fewer x, sum-fewer f g fewer xs)

sum-placed : (f : Remote → ℕ) (place : ℕ) (remotes : List Remote) → sum_by (λ at. f at.remote) (placed_from place remotes) ≡ sum_by f remotes
sum-placed f place [] = refl
sum-placed f place (r ∷ rs) =
    sum_by-cons (λ (at : Placed). f at.remote) (record { place = place; remote = r }) (placed_from (suc place) rs)
    ∙ ap (λ (n : ℕ). f r + n) (sum-placed f (suc place) rs) ∙ sym (sum_by-cons f r rs)

pub few_merged : (remotes : List Remote) → length (merged remotes) ≤ sum_by (λ r. length r.catalogue) remotes
unfolding merged
few_merged remotes =
    let own : Placed → ℕ = λ at. length (left_of remotes at) in
    let all : Placed → ℕ = λ at. length at.remote.catalogue in
    let fewer : (at : Placed) → own at ≤ all at = λ at. omega (arith, length-map at.remote.catalogue (without (is_hidden remotes (rank_of at)))) in
    omega (
      arith,
      length-flat_map (left_of remotes) (enabled_in_order remotes),
      sum-in_order own (λ at. at.remote.order) (λ at. at.remote.enabled) (placed_from 0 remotes),
      sum-fewer own all fewer (placed_from 0 remotes),
      sum-placed (λ r. length r.catalogue) 0 remotes,
    )

pub few_releases_merged : (remotes : List Remote) → releases_in (merged remotes) ≤ sum_by (λ r. releases_in r.catalogue) remotes
unfolding merged
few_releases_merged remotes =
    let own : Placed → ℕ = λ at. releases_in (left_of remotes at) in
    let all : Placed → ℕ = λ at. releases_in at.remote.catalogue in
    let fewer : (at : Placed) → own at ≤ all at = λ at. fewer_releases (is_hidden remotes (rank_of at)) at.remote.catalogue in
    omega (
      arith,
      releases-flat (left_of remotes) (enabled_in_order remotes),
      sum-in_order own (λ at. at.remote.order) (λ at. at.remote.enabled) (placed_from 0 remotes),
      sum-fewer own all fewer (placed_from 0 remotes),
      sum-placed (λ r. releases_in r.catalogue) 0 remotes,
    )
