-- What was read from a file in pieces, one behind the other.
use Rattle.std.proofs.Common.{◌≡◌, ℕ, ◌+◌, List, ◌++◌, length, drop, length-append, sym, ap, ◌∙◌}
use Rattle.std.proofs.lemmas.List.{take-append-drop, drop-drop}
use Rattle.std.proofs.Math.Seq.{take-append-add}
use Rattle.outer_traits.specs.Shelves.{StandsAt}

-- Two pieces, the second where the first ends.
pub stands_more : (file one two : List ℕ) (at : ℕ) → StandsAt file at one → StandsAt file (at + length one) two → StandsAt file at (one ++ two)
stands_more file one two at h k =
    let parts : drop at file ≡ one ++ drop (at + length one) file = sym (take-append-drop (length one) (drop at file)) ∙ ap (λ (x : List ℕ). x ++ drop (length one) (drop at file)) h ∙ ap (λ (x : List ℕ). one ++ x) (drop-drop (length one) at file) in
    rw (parts, length-append one two, take-append-add one (drop (at + length one) file) (length two)) (ap (λ (x : List ℕ). one ++ x) k)
