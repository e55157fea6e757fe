-- Bytes that are hashed block by block.
use Rattle.std.proofs.Common.{◌≡◌, ℕ, zero, suc, ◌-◌, List, [], ◌∷◌, ◌++◌, length, take, refl, ap, append_assoc, arith}
use Rattle.std.specs.List.{concat}

-- so many bytes of a block and what follows it are those of the block, and what is left of the number behind it
pub take-block : (left : ℕ) (block rest : List ℕ) → take left (block ++ rest) ≡ take left block ++ take (left - length (take left block)) rest
take-block zero block rest = refl
take-block (suc left) [] rest =
    let all : suc left - 0 ≡ suc left = omega arith in
    rw all refl
take-block (suc left) (byte ∷ block) rest =
    let fewer : suc left - suc (length (take left block)) ≡ left - length (take left block) = omega arith in
    rw fewer (ap (λ bytes. byte ∷ bytes) (take-block left block rest))

-- one block more is hashed
pub hashed-more : (hashed block : List ℕ) (blocks here : List (List ℕ)) (left : ℕ) (piece whole : List ℕ) → here ≡ block ∷ blocks → piece ≡ take left block → hashed ++ take left (concat here) ≡ whole → (hashed ++ piece) ++ take (left - length piece) (concat blocks) ≡ whole
hashed-more hashed block blocks here left piece whole at is so_far =
    let step = take-block left block (concat blocks) in
    rw (is, append_assoc, ← step) (rw at at so_far)
