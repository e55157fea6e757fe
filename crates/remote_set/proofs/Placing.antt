-- Remotes with their places.
use Rattle.std.proofs.Common.{◌≡◌, ℕ, suc, ◌+◌, ◌<◌, List, [], ◌∷◌, ◌++◌, length, drop, get_or, refl, sym, ap, ◌∙◌, arith, add-one}
use Rattle.std.proofs.Math.Seq.{drop-cons}
use Rattle.remote_set.specs.declared.remote.Remote.{Remote}
use Rattle.remote_set.specs.Merged.{Placed, placed_from}

abbrev pub placed : ℕ → Remote → Placed
placed place remote = record { place = place; remote = remote }

pub placed_from-last : (n : ℕ) (remotes : List Remote) (remote : Remote)
    → placed_from n (remotes ++ remote ∷ []) ≡ placed_from n remotes ++ placed (n + length remotes) remote ∷ []
placed_from-last n [] remote = ap (λ (m : ℕ). placed m remote ∷ []) (omega arith)
placed_from-last n (r ∷ rs) remote =
    ap (λ (ps : List Placed). placed n r ∷ ps)
    (placed_from-last (suc n) rs remote ∙ ap (λ (m : ℕ). placed_from (suc n) rs ++ placed m remote ∷ []) (omega arith))

pub length-placed_from : (n : ℕ) (remotes : List Remote) → length (placed_from n remotes) ≡ length remotes
length-placed_from n [] = refl
length-placed_from n (r ∷ rs) = ap suc (length-placed_from (suc n) rs)

-- the remotes from a place on
pub first_left : (remotes : List Remote) (i : ℕ) (remote : Remote) → i < length remotes → remote ≡ get_or remotes i remote
    → drop i remotes ≡ remote ∷ drop (i + 1) remotes
first_left remotes i remote lt is = rw add-one (drop-cons remotes i remote lt ∙ ap (λ (r : Remote). r ∷ drop (suc i) remotes) (sym is))

pub placed_left : (remotes : List Remote) (i : ℕ) (remote : Remote) → i < length remotes → remote ≡ get_or remotes i remote
    → placed_from i (drop i remotes) ≡ placed i remote ∷ placed_from (i + 1) (drop (i + 1) remotes)
placed_left remotes i remote lt is =
    ap (placed_from i) (first_left remotes i remote lt is) ∙ ap (λ (m : ℕ). placed i remote ∷ placed_from m (drop (i + 1) remotes)) (sym (omega arith))
