-- The first bytes of a payload.
use Rattle.std.proofs.Common.{◌≡◌, ℕ, ◌≤◌, List, [], ◌∷◌, ◌++◌, length, take, min, refl, sym, ◌∙◌, ⊎_elim, arith, length-take}
use Rattle.std.proofs.lemmas.List.{take-append-le, take_all, take-take}
use Rattle.std.proofs.lemmas.Bool.{cases_lt}
use Rattle.std.proofs.lemmas.List.Elements.{All-head}
use Rattle.std.specs.List.{concat}
use Rattle.block_pool.specs.Bytes.{AreBlocks, first_block}
use Rattle.block_pool.proofs.Moving.{IsBlock}

-- up to 14 of them stand in the first block
pub head-in-front : (blocks : List (List ℕ)) (len known : ℕ) → AreBlocks blocks → len ≤ length (concat blocks) → known ≡ min 14 len → known ≤ length (first_block blocks)
head-in-front [] len known w h k = omega arith
head-in-front (b ∷ rest) len known w h k =
    let whole : length b ≡ 4096 = All-head IsBlock b rest w in
    omega arith

-- two fronts of a list are the shorter one
take-front : (m n k : ℕ) (xs : List ℕ) → k ≡ min m n → take m (take n xs) ≡ take k xs
take-front m n k xs h = ⊎_elim
    (λ lt. let all : k ≡ m = omega arith in rw all (take-take m n xs (omega arith)))
    (λ le. let all : k ≡ n = omega arith in
    let short : length (take n xs) ≤ m = rw (length-take n xs) (omega arith) in
    rw all (take_all m (take n xs) short))
    (cases_lt m n)

pub head-bytes : (blocks : List (List ℕ)) (len known : ℕ) → AreBlocks blocks → len ≤ length (concat blocks) → known ≡ min 14 len → take known (first_block blocks) ≡ take 14 (take len (concat blocks))
head-bytes [] len known w h k =
    let none : len ≡ 0 = omega arith in
    let unknown : known ≡ 0 = omega arith in
    rw (unknown, none) refl
head-bytes (b ∷ rest) len known w h k =
    let whole : length b ≡ 4096 = All-head IsBlock b rest w in
    let near : known ≤ length b = omega arith in
    sym (take-front 14 len known (b ++ concat rest) k ∙ take-append-le known b (concat rest) near)
