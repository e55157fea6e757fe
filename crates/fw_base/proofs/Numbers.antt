-- Digits read one after the other.
use Rattle.std.proofs.Common.{◌≡◌, ℕ, ◌+◌, ◌-◌, ◌*◌, ◌^◌, ◌<◌, ◌≤◌, Bool, true, false, not, cond, ◌&&◌, ◌==◌, slice_index, nat_lt, List, length, take, get_or, Some, None, if◌then◌else◌, refl, sym, ap, subst, ◌∙◌, lit≤, arith}
use Rattle.std.specs.Char.{digit_value}
use Rattle.std.specs.Str.Parse.{digits_value}
use Rattle.std.specs.List.{position, position_or_len}
use Rattle.std.proofs.lemmas.Bool.Decides.{nat_tests}
use Rattle.std.proofs.lemmas.Int.Digits.{digits_value_more}
use Rattle.std.proofs.lemmas.Str.Parse.{digits_value-take-le}
use Rattle.std.proofs.lemmas.List.Sums.{prefix_len_passes}
use Rattle.std.proofs.lemmas.List.{take_all}
use borrow.Author.Tests.{ltb-true, ltb-false}
use Rattle.fw_base.specs.Decimals.{first_bad_digit, is_no_digit}

digit_is : (c : ℕ) → is_no_digit c ≡ false → digit_value c ≡ c - 48
digit_is c h = grind (arith, nat_tests)

-- where no place is answered, the first place is past the end
past_end : (n len : ℕ) → cond (nat_lt n len) (Some n) None ≡ None → len ≤ n
past_end n len h = from_test (nat_lt n len) refl h where
  from_test : (b : Bool) → nat_lt n len ≡ b → cond b (Some n) None ≡ None → len ≤ n
  from_test true e h = cc
  from_test false e h = ltb-false n len e

not_true : (b : Bool) → not b ≡ true → b ≡ false
not_true true h = sym h
not_true false h = refl

no_place : (p : ℕ → Bool) (xs : List ℕ) (i : ℕ) → position p xs ≡ None → i < length xs → p (get_or xs i 0) ≡ false
no_place p xs i h lt =
    let end : length xs ≤ position_or_len p xs = past_end (position_or_len p xs) (length xs) h in
    not_true (p (get_or xs i 0)) (prefix_len_passes (λ x. not (p x)) xs i 0 (omega arith))

pub digit_there : (bytes : List ℕ) (i : ℕ) → first_bad_digit bytes ≡ None → i < length bytes → is_no_digit (get_or bytes i 0) ≡ false
digit_there bytes i h lt = from_first (nat_lt 1 (length bytes) && slice_index bytes 0 == 48) h where
  from_first : (b : Bool) → (if b then Some 0 else position is_no_digit bytes) ≡ None → is_no_digit (get_or bytes i 0) ≡ false
  from_first true h = cc
  from_first false h = no_place is_no_digit bytes i h lt

-- one more digit
pub value_more : (bytes : List ℕ) (i : ℕ) → first_bad_digit bytes ≡ None → i < length bytes
    → digits_value 10 (take (i + 1) bytes) ≡ digits_value 10 (take i bytes) * 10 + (get_or bytes i 0 - 48)
value_more bytes i h lt =
    digits_value_more 10 bytes i lt ∙ ap (λ (d : ℕ). digits_value 10 (take i bytes) * 10 + d) (digit_is (get_or bytes i 0) (digit_there bytes i h lt))

fits : (v : ℕ) → v < 2 ^ 64 → Some v ≡ (if nat_lt v (2 ^ 64) then Some v else None)
fits v lt = grind (arith, nat_tests)

too_large : (v : ℕ) → 2 ^ 64 ≤ v → None ≡ (if nat_lt v (2 ^ 64) then Some v else None)
too_large v le = grind (arith, nat_tests)

-- all digits were read
pub read_whole : (bytes : List ℕ) (i v : ℕ) → length bytes ≤ i → v ≡ digits_value 10 (take i bytes) → v < 2 ^ 64
    → Some v ≡ (if nat_lt (digits_value 10 bytes) (2 ^ 64) then Some (digits_value 10 bytes) else None)
read_whole bytes i v le is lt =
    let whole : v ≡ digits_value 10 bytes = is ∙ ap (digits_value 10) (take_all i bytes le) in
    let P : ℕ → Type 0 = λ n. Some v ≡ (if nat_lt n (2 ^ 64) then Some n else None) in
    subst P whole (fits v lt)

-- a digit more is too much
pub read_past : (bytes : List ℕ) (i v : ℕ) → first_bad_digit bytes ≡ None → i < length bytes → v ≡ digits_value 10 (take i bytes)
    → (is_no_digit (get_or bytes i 0) ≡ false → None ≡ (if nat_lt (v * 10 + (get_or bytes i 0 - 48)) (2 ^ 64) then Some (v * 10 + (get_or bytes i 0 - 48)) else None))
    → None ≡ (if nat_lt (digits_value 10 bytes) (2 ^ 64) then Some (digits_value 10 bytes) else None)
read_past bytes i v h lt is none =
    let more : digits_value 10 (take (i + 1) bytes) ≡ v * 10 + (get_or bytes i 0 - 48) =
    value_more bytes i h lt ∙ ap (λ (n : ℕ). n * 10 + (get_or bytes i 0 - 48)) (sym is) in
    let large : 2 ^ 64 ≤ v * 10 + (get_or bytes i 0 - 48) = past_end (v * 10 + (get_or bytes i 0 - 48)) (2 ^ 64) (sym (none (digit_there bytes i h lt))) in
    let grown : digits_value 10 (take (i + 1) bytes) ≤ digits_value 10 bytes = digits_value-take-le 10 bytes (i + 1) (lit≤ tt) in
    too_large (digits_value 10 bytes) (omega arith)

-- a digit more is kept
pub read_more : (bytes : List ℕ) (i v w : ℕ) → first_bad_digit bytes ≡ None → i < length bytes → v ≡ digits_value 10 (take i bytes)
    → (is_no_digit (get_or bytes i 0) ≡ false → Some w ≡ (if nat_lt (v * 10 + (get_or bytes i 0 - 48)) (2 ^ 64) then Some (v * 10 + (get_or bytes i 0 - 48)) else None))
    → w ≡ digits_value 10 (take (i + 1) bytes)
read_more bytes i v w h lt is some =
    kept (nat_lt (v * 10 + (get_or bytes i 0 - 48)) (2 ^ 64)) _ (some (digit_there bytes i h lt))
    ∙ ap (λ (n : ℕ). n * 10 + (get_or bytes i 0 - 48)) is ∙ sym (value_more bytes i h lt) where
      kept : (b : Bool) (n : ℕ) → Some w ≡ (if b then Some n else None) → w ≡ n
      kept true n e = cc
      kept false n e = cc

-- and what is kept fits
pub kept_fits : (n w : ℕ) → Some w ≡ (if nat_lt n (2 ^ 64) then Some n else None) → w < 2 ^ 64
kept_fits n w h = by_test (nat_lt n (2 ^ 64)) refl h where
  by_test : (b : Bool) → nat_lt n (2 ^ 64) ≡ b → Some w ≡ (if b then Some n else None) → w < 2 ^ 64
  by_test true e h = let same : w ≡ n = cc in let lt : n < 2 ^ 64 = ltb-true n (2 ^ 64) e in omega arith
  by_test false e h = cc
