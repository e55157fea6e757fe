-- Hex digits that are read one by one.
use Rattle.std.proofs.Common.{◌≡◌, ℕ, ◌^◌, ◌<◌, ◌≤◌, Bool, true, List, [], ◌∷◌, length, arith}
use Rattle.std.specs.List.{list_all}
use Rattle.std.specs.Char.{is_digit, digit_value}
use Rattle.std.specs.Str.Parse.{AllDigits, digits_value}
use Rattle.std.proofs.lemmas.Bool.{and_parts, ltb-true}
use Rattle.std.proofs.lemmas.Int.Digits.{digits_value-lt}
use Rattle.std.proofs.Math.Nat.{pow-le-pow_right}

-- the test of a hex digit
abbrev pub is_hex : ℕ → Bool
is_hex c = is_digit c 16

pub AllDigits-from_test : (cs : List ℕ) → list_all is_hex cs ≡ true → AllDigits 16 cs
AllDigits-from_test [] h = tt
AllDigits-from_test (c ∷ cs) h =
    let parts = and_parts (is_hex c) (list_all is_hex cs) h in
    (ltb-true (digit_value c) 16 parts.0, AllDigits-from_test cs parts.1)

-- up to seven of them write a number below 2 ^ 28
pub digits_value-seven : (cs : List ℕ) → list_all is_hex cs ≡ true → length cs ≤ 7 → digits_value 16 cs < 268435456
digits_value-seven cs h short =
    let below = digits_value-lt 16 cs (AllDigits-from_test cs h) in
    let most : 16 ^ length cs ≤ 16 ^ 7 = pow-le-pow_right (omega arith) short in
    omega arith
