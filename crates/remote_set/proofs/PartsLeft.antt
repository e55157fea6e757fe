-- What is left of the remotes, one more at a time.
use Rattle.std.proofs.Common.{◌≡◌, ℕ, ◌+◌, cond, List, [], ◌∷◌, ◌++◌, length, map, sym, ap, ◌∙◌, arith}
use Rattle.std.proofs.lemmas.List.{map-append}
use Rattle.fw_facts.specs.declared.release.Component.{Component}
use Rattle.release_catalogue.specs.Components.{releases_in}
use Rattle.remote_set.specs.declared.key.ReleaseKey.{ReleaseKey}
use Rattle.remote_set.specs.declared.rank.Rank.{Rank}
use Rattle.remote_set.specs.declared.remote.Remote.{Remote}
use Rattle.remote_set.specs.Indexes.{is_offered_before}
use Rattle.remote_set.specs.Merged.{Placed, is_hidden, kept_of, placed_from, rank_of}
use Rattle.remote_set.specs.Pieces.{Piece, piece_by, piece_of}
use Rattle.remote_set.proofs.Left.{left_alike}
use Rattle.remote_set.proofs.Placing.{placed, placed_from-last}

abbrev pub IsIndex : List (ReleaseKey × Rank) → List Remote → Type 0
IsIndex entries remotes = (rank : Rank) (id version : List ℕ) → is_offered_before entries rank id version ≡ is_hidden remotes rank id version

piece_alike : (entries : List (ReleaseKey × Rank)) (remotes : List Remote) (at : Placed) → IsIndex entries remotes → piece_by entries at ≡ piece_of remotes at
piece_alike entries remotes at says =
    ap
    (λ (cs : List Component). let p : Piece = record { order = at.remote.order; enabled = at.remote.enabled; components = cs } in p)
    (left_alike (is_offered_before entries (rank_of at)) (is_hidden remotes (rank_of at)) (λ id version. says (rank_of at) id version) at.remote.catalogue)

last_placed : (yielded : List Remote) (remote : Remote) (n : ℕ) → n ≡ length yielded → placed_from 0 (yielded ++ remote ∷ []) ≡ placed_from 0 yielded ++ placed n remote ∷ []
last_placed yielded remote n e =
    let at : 0 + length yielded ≡ n = omega arith in
    placed_from-last 0 yielded remote ∙ ap (λ (m : ℕ). placed_from 0 yielded ++ placed m remote ∷ []) at

pub part_more : (entries : List (ReleaseKey × Rank)) (remotes yielded : List Remote) (remote : Remote) (parts new : List Piece) (part : Piece) (n : ℕ) → IsIndex entries remotes
    → n ≡ length yielded → part ≡ piece_by entries (placed n remote) → new ≡ parts ++ part ∷ []
    → parts ≡ map (piece_of remotes) (placed_from 0 yielded)
    → new ≡ map (piece_of remotes) (placed_from 0 (yielded ++ remote ∷ []))
part_more entries remotes yielded remote parts new part n says at is pushed so_far =
    pushed ∙ ap (λ (ps : List Piece). ps ++ part ∷ []) so_far
    ∙ ap (λ (p : Piece). map (piece_of remotes) (placed_from 0 yielded) ++ p ∷ []) (is ∙ piece_alike entries remotes (placed n remote) says)
    ∙ sym (ap (map (piece_of remotes)) (last_placed yielded remote n at) ∙ map-append (piece_of remotes) (placed_from 0 yielded) (placed n remote ∷ []))

pub kept_more : (entries : List (ReleaseKey × Rank)) (remotes yielded : List Remote) (remote : Remote) (kept new : List ℕ) (part : Piece) (n count : ℕ) → IsIndex entries remotes
    → n ≡ length yielded → part ≡ piece_by entries (placed n remote) → count ≡ cond part.enabled (releases_in part.components) 0 → new ≡ kept ++ count ∷ []
    → kept ≡ map (kept_of remotes) (placed_from 0 yielded)
    → new ≡ map (kept_of remotes) (placed_from 0 (yielded ++ remote ∷ []))
kept_more entries remotes yielded remote kept new part n count says at is counted pushed so_far =
    pushed ∙ ap (λ (ks : List ℕ). ks ++ count ∷ []) so_far
    ∙ ap (λ (k : ℕ). map (kept_of remotes) (placed_from 0 yielded) ++ k ∷ [])
    (counted ∙ ap (λ (p : Piece). cond p.enabled (releases_in p.components) 0) (is ∙ piece_alike entries remotes (placed n remote) says))
    ∙ sym (ap (map (kept_of remotes)) (last_placed yielded remote n at) ∙ map-append (kept_of remotes) (placed_from 0 yielded) (placed n remote ∷ []))
