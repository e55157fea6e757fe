-- What a write leaves.
use Rattle.std.proofs.Common.{◌≡◌, ℕ, ◌+◌, ◌*◌, ◌<◌, ◌≤◌, List, [], ◌∷◌, ◌++◌, length, take, drop, ap, refl, sym, ◌∙◌, arith, append_assoc, append-nil, add_assoc, length-append, length-take, length-drop}
use Rattle.std.proofs.lemmas.List.{take-append-le, drop-append-le, drop-drop, take_at, length-take-le}
use Rattle.std.proofs.lemmas.List.Elements.{All-nil, All-cons, All-head, All-tail}
use Rattle.std.proofs.Math.Seq.{take-append-add, drop-append-add}
use Rattle.std.specs.List.{concat}
use Rattle.block_pool.specs.Bytes.{AreBlocks, overwritten, unwound}
use Rattle.block_pool.specs.Moves.{first_overwritten}
use Rattle.block_pool.proofs.Moving.{IsBlock}

-- ---- one block

-- a write within the bytes keeps their number
pub length-overwritten : (bytes : List ℕ) (at : ℕ) (piece : List ℕ) → at + length piece ≤ length bytes → length (overwritten bytes at piece) ≡ length bytes
length-overwritten bytes at piece h = simp (length-append, length-take, length-drop) (omega arith)

pub AreBlocks-first_overwritten : (blocks : List (List ℕ)) (at : ℕ) (piece : List ℕ) → at + length piece ≤ 4096 → AreBlocks blocks → AreBlocks (first_overwritten blocks at piece)
AreBlocks-first_overwritten [] at piece h w = w
AreBlocks-first_overwritten (b ∷ rest) at piece h w =
    let whole : length b ≡ 4096 = All-head IsBlock b rest w in
    let same : length (overwritten b at piece) ≡ length b = length-overwritten b at piece (omega arith) in
    All-cons IsBlock (overwritten b at piece) rest (omega arith) (All-tail IsBlock b rest w)

pub length-first_overwritten : (blocks : List (List ℕ)) (at : ℕ) (piece : List ℕ) → length (first_overwritten blocks at piece) ≡ length blocks
length-first_overwritten [] at piece = refl
length-first_overwritten (b ∷ rest) at piece = refl

-- ---- a row of blocks

pub length-concat : (blocks : List (List ℕ)) → AreBlocks blocks → length (concat blocks) ≡ 4096 * length blocks
length-concat [] w = refl
length-concat (b ∷ rest) w =
    let whole : length b ≡ 4096 = All-head IsBlock b rest w in
    let others = length-concat rest (All-tail IsBlock b rest w) in
    rw (length-append b (concat rest)) (omega arith)

pub AreBlocks-unwound : (passed rest : List (List ℕ)) → AreBlocks passed → AreBlocks rest → AreBlocks (unwound passed rest)
AreBlocks-unwound [] rest p r = r
AreBlocks-unwound (b ∷ passed) rest p r =
    AreBlocks-unwound passed (b ∷ rest) (All-tail IsBlock b passed p) (All-cons IsBlock b rest (All-head IsBlock b passed p) r)

pub length-unwound : (passed rest : List (List ℕ)) → length (unwound passed rest) ≡ length passed + length rest
length-unwound [] rest = omega arith
length-unwound (b ∷ passed) rest = length-unwound passed (b ∷ rest) ∙ omega arith

-- the bytes of a row are those that were passed, and the rest's
pub concat-unwound : (passed rest : List (List ℕ)) → concat (unwound passed rest) ≡ concat (unwound passed []) ++ concat rest
concat-unwound [] rest = refl
concat-unwound (b ∷ passed) rest =
    let whole = concat-unwound passed (b ∷ rest) in
    let front = concat-unwound passed (b ∷ []) in
    rw (whole, front, append-nil, append_assoc) refl

-- how many bytes a row of so many blocks has
pub length-row : (passed rest : List (List ℕ)) (n : ℕ) → AreBlocks passed → AreBlocks rest → length passed + length rest ≡ n → length (concat (unwound passed rest)) ≡ 4096 * n
length-row passed rest n p r h =
    length-concat (unwound passed rest) (AreBlocks-unwound passed rest p r) ∙ ap (λ k. 4096 * k) (length-unwound passed rest ∙ h)

-- ---- writes

-- a write inside the middle part
pub overwritten-middle : (front middle back : List ℕ) (at : ℕ) (piece : List ℕ) → at + length piece ≤ length middle → overwritten (front ++ (middle ++ back)) (length front + at) piece ≡ front ++ (overwritten middle at piece ++ back)
overwritten-middle front middle back at piece h =
    let start : at ≤ length middle = omega arith in
    let before = take-append-add front (middle ++ back) at ∙ ap (λ b. front ++ b) (take-append-le at middle back start) in
    let after = ap (λ n. drop n (front ++ (middle ++ back))) (add_assoc (length front) at (length piece)) ∙ drop-append-add front (middle ++ back) (at + length piece) ∙ drop-append-le (at + length piece) middle back h in
    rw (before, after, append_assoc, append_assoc, append_assoc) refl

-- a write into the block that stands first behind those that were passed
pub overwritten-row : (passed rest : List (List ℕ)) (at : ℕ) (piece : List ℕ) → AreBlocks passed → AreBlocks rest → 0 < length rest → at + length piece ≤ 4096 → concat (unwound passed (first_overwritten rest at piece)) ≡ overwritten (concat (unwound passed rest)) (4096 * length passed + at) piece
overwritten-row passed [] at piece p r h f = absurd (omega arith)
overwritten-row passed (b ∷ rest) at piece p r h f =
    let whole : length b ≡ 4096 = All-head IsBlock b rest r in
    let front = concat (unwound passed []) in
    let place : 4096 * length passed + at ≡ length front + at =
    let long = length-row passed [] (length passed) p (All-nil IsBlock) (omega arith) in omega arith in
    let fits : at + length piece ≤ length b = omega arith in
    rw (concat-unwound passed (overwritten b at piece ∷ rest), concat-unwound passed (b ∷ rest), place)
    (sym (overwritten-middle front b (concat rest) at piece fits))

pub take-two : (a b c : List ℕ) (n : ℕ) → n ≡ length a + length b → take n (a ++ (b ++ c)) ≡ a ++ b
take-two a b c n h = rw (h, take-append-add) (ap (λ x. a ++ x) (take_at b c (length b) refl))

drop-two : (a b c : List ℕ) (n m : ℕ) → n ≡ length a + (length b + m) → drop n (a ++ (b ++ c)) ≡ drop m c
drop-two a b c n m h = rw h (drop-append-add a (b ++ c) (length b + m) ∙ drop-append-add b c m)

-- a piece is written part by part
pub overwritten-append : (bytes : List ℕ) (at : ℕ) (first second : List ℕ) → at + length first ≤ length bytes → overwritten (overwritten bytes at first) (at + length first) second ≡ overwritten bytes at (first ++ second)
overwritten-append bytes at first second h =
    let front = take at bytes in
    let tail = drop (at + length first) bytes in
    let long : length front ≡ at = length-take-le at bytes (omega arith) in
    let before = take-two front first tail (at + length first) (omega arith) in
    let after = drop-two front first tail (at + length first + length second) (length second) (omega arith) ∙ drop-drop (length second) (at + length first) bytes in
    let end : at + length (first ++ second) ≡ at + length first + length second = rw (length-append first second) (omega arith) in
    rw (before, after, end, append_assoc, append_assoc) refl
