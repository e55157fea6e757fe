-- The front of a file that was read into blocks.
use Rattle.std.proofs.Common.{◌≡◌, ℕ, ◌+◌, ◌≤◌, List, ◌++◌, length, take, drop, Option, Some, None, IfSome, ap, sym, subst, arith}
use Rattle.std.proofs.lemmas.List.{length-take-le}
use Rattle.block_pool.proofs.Written.{take-two}
use Rattle.block_pool.specs.Bytes.{overwritten}
use Rattle.outer_traits.specs.Shelves.{StandsAt}
use Rattle.outer_traits.proofs.Stands.{stands_more}

-- up to the end of a piece that was written stands what was there before it, and the piece
pub take-overwritten : (bytes : List ℕ) (at : ℕ) (piece : List ℕ) → at ≤ length bytes → take (at + length piece) (overwritten bytes at piece) ≡ take at bytes ++ piece
take-overwritten bytes at piece h =
    take-two (take at bytes) piece (drop (at + length piece) bytes) (at + length piece) (ap (λ n. n + length piece) (sym (length-take-le at bytes h)))

-- the file's front with the next piece behind it is a longer front
pub longer_front : (file bytes : List ℕ) (at : ℕ) (piece : List ℕ) → at ≤ length bytes → StandsAt file at piece → StandsAt file 0 (take at bytes) → StandsAt file 0 (take (at + length piece) (overwritten bytes at piece))
longer_front file bytes at piece h next front =
    let place : 0 + length (take at bytes) ≡ at = omega (arith, length-take-le at bytes h) in
    let P : ℕ → Type 0 = λ n. StandsAt file n piece in
    let there : StandsAt file (0 + length (take at bytes)) piece = subst P (sym place) next in
    rw (take-overwritten bytes at piece h) (stands_more file (take at bytes) piece 0 front there)

-- the same where the piece came in a buffer, and the shelf may tell nothing
pub longer_if_told : {A : Type 0} (all : Option A) (file : A → List ℕ) (bytes new buffer : List ℕ) (at place n : ℕ) → at ≤ length bytes → n ≤ length buffer → place ≡ at → new ≡ overwritten bytes at (take n buffer) → IfSome all (λ a. StandsAt (file a) place (take n buffer)) → IfSome all (λ a. StandsAt (file a) 0 (take at bytes) → StandsAt (file a) 0 (take (at + n) new))
longer_if_told None file bytes new buffer at place n h fits e w next = tt
longer_if_told (Some a) file bytes new buffer at place n h fits e w next =
    λ front. let P : ℕ → Type 0 = λ p. StandsAt (file a) p (take n buffer) in
    let Q : List ℕ → Type 0 = λ x. StandsAt (file a) 0 x in
    let long : length (take n buffer) ≡ n = length-take-le n buffer fits in
    let longer = longer_front (file a) bytes at (take n buffer) h (subst P e next) front in
    let same : take (at + length (take n buffer)) (overwritten bytes at (take n buffer)) ≡ take (at + n) new = cc in
    subst Q same longer
