-- What comes of merging, put together.
use Rattle.std.proofs.Common.{◌≡◌, ℕ, List, Option, None, Result, Ok, map, sym, ap, ◌∙◌}
use Rattle.std.specs.Prelude.{flat_map}
use Rattle.fw_facts.specs.declared.release.Component.{Component}
use Rattle.remote_set.specs.declared.merging.MergeFault.{MergeFault}
use Rattle.remote_set.specs.declared.merging.MergeFault.TheVariants.{Duplicate, TooMany, NoMemory}
use Rattle.remote_set.specs.declared.remote.Remote.{Remote}
use Rattle.remote_set.specs.Answers.{AnswersFault, Whole, whole_of, with_kept, within}
use Rattle.remote_set.specs.Merged.{first_repeated, kept, merged, placed_from}
use Rattle.remote_set.specs.Orders.{in_order}
use Rattle.remote_set.specs.Pieces.{Piece, piece_of}
use Rattle.remote_set.proofs.Left.{joined_parts}

pub is_merged : (remotes : List Remote) (parts arranged : List Piece) (components : List Component)
    → parts ≡ map (piece_of remotes) (placed_from 0 remotes)
    → arranged ≡ in_order (λ piece. piece.order) (λ piece. piece.enabled) parts
    → components ≡ flat_map (λ piece. piece.components) arranged
    → components ≡ merged remotes
is_merged remotes parts arranged components are in_place behind =
    behind
    ∙ ap (λ (pieces : List Piece). flat_map (λ (piece : Piece). piece.components) pieces)
    (in_place ∙ ap (λ (pieces : List Piece). in_order (λ (piece : Piece). piece.order) (λ (piece : Piece). piece.enabled) pieces) are)
    ∙ joined_parts remotes

whole_is : (remotes : List Remote) (components : List Component) → first_repeated remotes ≡ None → components ≡ merged remotes
    → with_kept (kept remotes) (within components) ≡ whole_of (first_repeated remotes) remotes
whole_is remotes components named is =
    ap (λ (all : List Component). with_kept (kept remotes) (within all)) is ∙ ap (λ (o : Option (List ℕ)). whole_of o remotes) (sym named)

pub whole_merged : (remotes : List Remote) (components catalogue : List Component) (numbers : List ℕ) → first_repeated remotes ≡ None → components ≡ merged remotes
    → numbers ≡ kept remotes → within components ≡ Ok catalogue
    → whole_of (first_repeated remotes) remotes ≡ Ok (record { catalogue = catalogue; kept = numbers })
whole_merged remotes components catalogue numbers named is kept_is fits =
    sym (whole_is remotes components named is)
    ∙ ap (λ (w : Result (List Component) MergeFault). with_kept (kept remotes) w) fits
    ∙ ap (λ (ks : List ℕ). let r : Result Whole MergeFault = Ok (record { catalogue = catalogue; kept = ks }) in r) (sym kept_is)

pub no_whole : (fault : MergeFault) (remotes : List Remote) (components : List Component) → first_repeated remotes ≡ None → components ≡ merged remotes
    → AnswersFault fault (within components) → AnswersFault fault (whole_of (first_repeated remotes) remotes)
no_whole NoMemory remotes components named is told = tt
no_whole (Duplicate name) remotes components named is told =
    sym (whole_is remotes components named is) ∙ ap (λ (w : Result (List Component) MergeFault). with_kept (kept remotes) w) told
no_whole (TooMany few releases) remotes components named is told =
    sym (whole_is remotes components named is) ∙ ap (λ (w : Result (List Component) MergeFault). with_kept (kept remotes) w) told
