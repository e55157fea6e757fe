-- A letter with a number behind it is a name.
use Rattle.std.proofs.Common.{◌≡◌, ℕ, zero, suc, ◌<◌, ◌≤◌, ◌^◌, true, false, not, List, ◌∷◌, length, get_or, refl, arith}
use Rattle.std.specs.Prelude.{◌==◌, IsOk, nat_lt}
use Rattle.std.specs.Fmt.{decimal}
use Rattle.std.specs.Str.Parse.{AllDigits}
use Rattle.std.proofs.lemmas.Bool.{le-ltb}
use Rattle.std.proofs.lemmas.Bool.Decides.{nat_tests}
use Rattle.std.proofs.lemmas.Fmt.{decimal_is_IsNumeral, length-decimal-le}
use Rattle.std.proofs.lemmas.List.Sums.{prefix_len_is}
use Rattle.std.proofs.lemmas.Str.Parse.{digit_at}
use Rattle.std.specs.List.{prefix_len}
use Rattle.fw_base.specs.Names.{is_no_name_byte, name_read}

good_byte : (c : ℕ) → 33 ≤ c → c ≤ 126 → not (is_no_name_byte c) ≡ true
good_byte c low high = grind (arith, nat_tests)

good_at : (c : ℕ) (digits : List ℕ) (k : ℕ) → 33 ≤ c → c ≤ 126 → AllDigits 10 digits → k < length (c ∷ digits)
    → not (is_no_name_byte (get_or (c ∷ digits) k 0)) ≡ true
good_at c digits zero low high all lt = good_byte c low high
good_at c digits (suc k) low high all lt =
    let range = digit_at digits k all (omega arith) in
    good_byte (get_or digits k 0) (omega (arith, range.0)) (omega (arith, range.1))

not_below : (n : ℕ) → nat_lt n n ≡ false
not_below n = le-ltb n n (omega arith)

-- few digits behind a byte of a name are a name with it
named : (c : ℕ) (digits : List ℕ) → 33 ≤ c → c ≤ 126 → AllDigits 10 digits → length digits ≤ 63 → IsOk (name_read (c ∷ digits))
named c digits low high all few =
    let short : nat_lt 64 (length (c ∷ digits)) ≡ false = le-ltb 64 (length (c ∷ digits)) (omega arith) in
    let whole : prefix_len (λ b. not (is_no_name_byte b)) (c ∷ digits) ≡ length (c ∷ digits) =
    prefix_len_is (λ b. not (is_no_name_byte b)) (c ∷ digits) (length (c ∷ digits)) 0 (omega arith)
    (λ k lt. good_at c digits k low high all lt) (λ lt. absurd (omega arith)) in
    let filled : (length (c ∷ digits) == 0) ≡ false = grind (arith, nat_tests) in
    let no : nat_lt (length (c ∷ digits)) (length (c ∷ digits)) ≡ false = not_below (length (c ∷ digits)) in
    rw (filled, short, whole, no) refl

-- a letter and the number of a board
pub numbered : (c n : ℕ) → 33 ≤ c → c ≤ 126 → n ≤ 256 → IsOk (name_read (c ∷ decimal n))
numbered c n low high few =
    let small : n < 2 ^ 64 = omega arith in
    named c (decimal n) low high (decimal_is_IsNumeral n small).0.1
    (let le : length (decimal n) ≤ 3 = length-decimal-le 3 n (omega arith) (omega arith) small in omega arith)
