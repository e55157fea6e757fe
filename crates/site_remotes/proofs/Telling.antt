-- What a site tells of its remotes.
use Rattle.std.proofs.Common.{◌≡◌, ℕ, suc, ◌+◌, ◌<◌, List, [], ◌∷◌, ◌++◌, length, map, take, get_or, refl, sym, ap, ◌∙◌, arith}
use Rattle.std.proofs.lemmas.List.{length-map, length-take-le, take_more}
use Rattle.remote_set.specs.declared.remote.Remote.{Remote}
use Rattle.remote_set.specs.Merged.{Placed, kept, kept_of, placed_from}
use Rattle.remote_set.proofs.Placing.{length-placed_from}
use Rattle.site_remotes.specs.declared.told.SiteRemote.{SiteRemote}
use Rattle.site_remotes.specs.Told.{site_remotes, stated, with_kept}

pub with_more : (remotes : List SiteRemote) (numbers : List ℕ) (remote : SiteRemote) (count : ℕ) → length remotes ≡ length numbers
    → with_kept (remotes ++ remote ∷ []) (numbers ++ count ∷ []) ≡ with_kept remotes numbers ++ record remote { kept = count } ∷ []
with_more [] [] remote count e = refl
with_more [] (k ∷ ks) remote count e = absurd (omega arith)
with_more (r ∷ rs) [] remote count e = absurd (omega arith)
with_more (r ∷ rs) (k ∷ ks) remote count e =
    let behind : length rs ≡ length ks = omega arith in
    ap (λ (all : List SiteRemote). let put : SiteRemote = record r { kept = k } in put ∷ all) (with_more rs ks remote count behind)

all_told : (remotes some : List Remote) (place : ℕ)
    → with_kept (map (stated 0) some) (map (kept_of remotes) (placed_from place some)) ≡ map (λ at. stated (kept_of remotes at) at.remote) (placed_from place some)
all_told remotes [] place = refl
all_told remotes (r ∷ rs) place =
    let at : Placed = record { place = place; remote = r } in
    ap (λ (all : List SiteRemote). stated (kept_of remotes at) r ∷ all) (all_told remotes rs (suc place))

pub told_all : (remotes : List Remote) → with_kept (map (stated 0) remotes) (kept remotes) ≡ site_remotes remotes
unfolding kept site_remotes
told_all remotes = all_told remotes remotes 0

pub as_many_kept : (remotes : List Remote) → length (kept remotes) ≡ length (map (stated 0) remotes)
unfolding kept
as_many_kept remotes =
    length-map (placed_from 0 remotes) (kept_of remotes) ∙ length-placed_from 0 remotes ∙ sym (length-map remotes (stated 0))

-- A turn of the loop that puts the numbers to the remotes.
pub told_more : (remotes : List SiteRemote) (numbers : List ℕ) (i : ℕ) (remote : SiteRemote) (before told : List SiteRemote) → length numbers ≡ length remotes
    → i < length remotes → remote ≡ get_or remotes i remote
    → told ≡ before ++ record remote { kept = get_or numbers i 0 } ∷ [] → before ≡ with_kept (take i remotes) (take i numbers)
    → told ≡ with_kept (take (i + 1) remotes) (take (i + 1) numbers)
told_more remotes numbers i remote before told as_many lt is pushed so_far =
    let inside : i < length numbers = omega arith in
    let left : length (take i remotes) ≡ length (take i numbers) = length-take-le i remotes (omega arith) ∙ sym (length-take-le i numbers (omega arith)) in
    pushed ∙ ap (λ (all : List SiteRemote). all ++ record remote { kept = get_or numbers i 0 } ∷ []) so_far
    ∙ sym (with_more (take i remotes) (take i numbers) remote (get_or numbers i 0) left)
    ∙ sym (ap (λ (rs : List SiteRemote). with_kept rs (take (i + 1) numbers)) (take_more remotes i remote lt ∙ ap (λ (r : SiteRemote). take i remotes ++ r ∷ []) (sym is))
    ∙ ap (λ (ks : List ℕ). with_kept (take i remotes ++ remote ∷ []) ks) (take_more numbers i 0 inside))
