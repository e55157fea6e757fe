-- A remote alone.
use Rattle.std.proofs.Common.{◌≡◌, ℕ, Bool, true, false, ◌||◌, ◌&&◌, cond, List, [], ◌∷◌, ◌++◌, map, refl, ap, ◌∙◌, arith}
use Rattle.std.specs.Prelude.{filter, flat_map, nat_lt, ◌==◌}
use Rattle.std.proofs.lemmas.Bool.Decides.{nat_tests}
use Rattle.std.proofs.lemmas.List.Concat.{flat_map-cons}
use Rattle.fw_facts.specs.declared.release.Component.{Component}
use Rattle.fw_facts.specs.declared.release.Release.{Release}
use Rattle.remote_set.specs.declared.rank.Rank.{Rank}
use Rattle.remote_set.specs.declared.remote.Remote.{Remote}
use Rattle.remote_set.specs.Merged.{Placed, comes_before, is_hidden, left_of, merged, offers, rank_of, without}
use Rattle.remote_set.proofs.Left.{left_alike}
use Rattle.remote_set.proofs.Placing.{placed}

not_before : (rank : Rank) → comes_before rank rank ≡ false
not_before rank =
    let less : nat_lt rank.order rank.order ≡ false = grind (arith, nat_tests) in
    let lower : nat_lt rank.place rank.place ≡ false = grind (arith, nat_tests) in
    rw (less, lower) (never (rank.order == rank.order))
  where
    never : (b : Bool) → (b && false) ≡ false
    never true = refl
    never false = refl

nothing_hidden : (remote : Remote) (id version : List ℕ) → is_hidden (remote ∷ []) (rank_of (placed 0 remote)) id version ≡ false
nothing_hidden remote id version =
    ap (λ (b : Bool). (remote.enabled && (b && offers id version remote.catalogue)) || false) (not_before (rank_of (placed 0 remote))) ∙ none remote.enabled
  where
    none : (b : Bool) → ((b && false) || false) ≡ false
    none true = refl
    none false = refl

all_stay : (releases : List Release) → filter (λ release. true) releases ≡ releases
all_stay [] = refl
all_stay (r ∷ rs) = ap (λ (all : List Release). r ∷ all) (all_stay rs)

as_it_is : (components : List Component) → map (without (λ id version. false)) components ≡ components
as_it_is [] = refl
as_it_is (c ∷ cs) =
    ap (λ (rs : List Release). let d : Component = record c { releases = rs } in d ∷ map (without (λ id version. false)) cs) (all_stay c.releases)
    ∙ ap (λ (all : List Component). c ∷ all) (as_it_is cs)

append_none : (cs : List Component) → cs ++ [] ≡ cs
append_none [] = refl
append_none (c ∷ cs) = ap (λ (all : List Component). c ∷ all) (append_none cs)

pub alone : (remote : Remote) → remote.enabled ≡ true → merged (remote ∷ []) ≡ remote.catalogue
unfolding merged
alone remote enabled =
    let at : Placed = placed 0 remote in
    ap (λ (b : Bool). flat_map (left_of (remote ∷ [])) (cond b (at ∷ []) [])) enabled
    ∙ flat_map-cons (left_of (remote ∷ [])) at []
    ∙ append_none (left_of (remote ∷ []) at)
    ∙ left_alike (is_hidden (remote ∷ []) (rank_of at)) (λ id version. false) (nothing_hidden remote) remote.catalogue
    ∙ as_it_is remote.catalogue
