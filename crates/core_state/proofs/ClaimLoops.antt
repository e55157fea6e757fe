-- The loop that takes the claim off each device.
use Rattle.std.proofs.Common.{◌≡◌, ℕ, zero, suc, List, [], ◌∷◌, ◌++◌, map, take, drop, length, get_or, set, ◌<◌, ◌+◌, refl, ap, arith, ◌∙◌}
use Rattle.std.proofs.lemmas.List.Edits.{map_over_more}
use Rattle.std.specs.Prelude.{Option, Some, None, IfSome, slice_get}
use Rattle.fw_facts.specs.declared.view.DeviceView.{DeviceView}
use Rattle.core_state.proofs.CoreViews.{length-mapped, none-past}

-- The element at a place that is looked up.
found-at : {X : Type 0} (xs : List X) (i : ℕ) (x : X) → slice_get xs i ≡ Some x → x ≡ get_or xs i x
found-at [] i x g = cc
found-at (y ∷ xs) zero x g = cc
found-at (y ∷ xs) (suc i) x g = found-at xs i x g

-- One turn of a loop that gives each view another claim.
pub each-next : (f : DeviceView → DeviceView) (xs now new : List DeviceView) (i : ℕ) (claim : Option ℕ)
    → now ≡ map f (take i xs) ++ drop i xs → i < length xs
    → ((view : DeviceView) → (let w : DeviceView = record view { claim = claim } in w ≡ f view))
    → IfSome (slice_get now i) (λ v. new ≡ set now i (record v { claim = claim }))
    → new ≡ map f (take (i + 1) xs) ++ drop (i + 1) xs
each-next f xs now new i claim n lt h c = by (slice_get now i) refl c
  where
    by : (o : Option DeviceView) → slice_get now i ≡ o → IfSome o (λ v. new ≡ set now i (record v { claim = claim })) → new ≡ map f (take (i + 1) xs) ++ drop (i + 1) xs
    by None g c = absurd (none-past now i g (let m = ap length n ∙ length-mapped f xs i in omega (arith, m)))
    by (Some view) g c = c ∙ ap (λ (w : DeviceView). set now i w) (h view) ∙ map_over_more f xs now i view lt n (found-at now i view g)
