-- Texts: UTF-8, and hex digits read one after the other.
use Rattle.std.proofs.Common.{◌≡◌, ℕ, ◌+◌, ◌*◌, ◌%◌, ◌^◌, ◌<◌, ◌≤◌, Bool, true, false, List, length, take, get_or, Result, Ok, Err, refl, sym, subst, ◌∙◌, add-one, lit<, lit≤, arith}
use Rattle.std.specs.Prelude.{MatchResult, IfOk}
use Rattle.std.specs.Result.{is_ok}
use Rattle.std.specs.Char.{digit_value}
use Rattle.std.specs.List.{list_all}
use Rattle.std.specs.Str.{IsUtf8, is_utf8}
use Rattle.std.specs.Str.Parse.{digits_value}
use Rattle.std.proofs.Math.Nat.{pow-suc, pow-le-pow_right}
use Rattle.std.proofs.lemmas.Int.Digits.{digits_value_more}
use Rattle.std.proofs.lemmas.List.Sums.{AllPass-from_list_all}
use borrow.Author.Tests.{ltb-true}
use Rattle.quirk_files.specs.Values.{is_hex_digit}
use Rattle.std.proofs.lemmas.Str.{is_utf8-from_IsUtf8, IsUtf8-from_is_utf8}

-- a text is UTF-8 exactly where it is read as such
pub utf8_read : {T E : Type 0} (bytes : List ℕ) (r : Result T E) (P : T → Type 0) (Q : E → Type 0)
    → MatchResult r (λ s. P s × IsUtf8 bytes) (λ e. (IsUtf8 bytes → ⊥) × Q e) → is_ok r ≡ is_utf8 bytes
utf8_read bytes (Ok s) P Q h = sym (is_utf8-from_IsUtf8 bytes h.1)
utf8_read bytes (Err e) P Q h = not_read (is_utf8 bytes) refl where
  not_read : (b : Bool) → is_utf8 bytes ≡ b → false ≡ b
  not_read true is = absurd (h.0 (IsUtf8-from_is_utf8 bytes is))
  not_read false is = refl

-- what holds of an `Ok` holds of what is in it
pub of_ok : {T E : Type 0} (P : T → Type 0) (r : Result T E) (x : T) → r ≡ Ok x → IfOk r P → P x
of_ok {T} {E} P r x is h = subst (λ (s : Result T E). IfOk s P) is h

hex_fits : (v d : ℕ) → v * 16 + d < 18446744073709551616 → (v * 16 % 18446744073709551616 + d) % 18446744073709551616 ≡ v * 16 + d
hex_fits v d lt = omega arith

-- one more hex digit of at most eight
pub hex_step : (digits : List ℕ) (i v d : ℕ) → list_all is_hex_digit digits ≡ true → length digits ≤ 8 → i < length digits
    → v ≡ digits_value 16 (take i digits) → v < 16 ^ i → d ≡ digit_value (get_or digits i 0)
    → ((v * 16 % 18446744073709551616 + d) % 18446744073709551616 ≡ digits_value 16 (take (i + 1) digits))
    × ((v * 16 % 18446744073709551616 + d) % 18446744073709551616 < 16 ^ (i + 1))
hex_step digits i v d all short lt was small is =
    let digit : digit_value (get_or digits i 0) < 16 = ltb-true (digit_value (get_or digits i 0)) 16 (AllPass-from_list_all is_hex_digit digits all i 0 lt) in
    let power : 16 ^ (i + 1) ≡ 16 ^ i * 16 = rw add-one (pow-suc 16 i) in
    let grown : v * 16 + d < 16 ^ (i + 1) = omega arith in
    let bound : 16 ^ (i + 1) ≤ 16 ^ 8 = pow-le-pow_right (lit< tt) {i = i + 1} {j = 8} (omega arith) in
    let top : 16 ^ 8 ≤ 18446744073709551616 = lit≤ tt in
    let same : (v * 16 % 18446744073709551616 + d) % 18446744073709551616 ≡ v * 16 + d = hex_fits v d (omega arith) in
    let more : digits_value 16 (take (i + 1) digits) ≡ digits_value 16 (take i digits) * 16 + digit_value (get_or digits i 0) = digits_value_more 16 digits i lt in
    (same ∙ omega arith, omega arith)
