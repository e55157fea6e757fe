-- When an image is bad, and that its first bytes decide.
use Rattle.std.proofs.Common.{◌≡◌, ◌≢◌, ℕ, Bool, true, false, ◌&&◌, cond, Option, Some, None, List, get_or, eqb, refl, eq-eqb, ne_eqb, codes, nat_eq}
use Rattle.std.specs.List.{list_all, starts_with}
use Rattle.std.specs.Str.Parse.{digits_value}
use Rattle.std.proofs.lemmas.Bool.{false≢true}
use Rattle.emulated_boards.proofs.Digits.{is_hex}
use Rattle.emulated_boards.specs.Images.{version_digits, raw_version}

third_false : (a b c : Bool) (v : Option ℕ) → c ≡ false → None ≡ cond (a && (b && c)) v None
third_false true true c v h = rw h refl
third_false true false c v h = refl
third_false false b c v h = refl

ends_true : (a b c : Bool) (v : Option ℕ) → a ≡ true → c ≡ true → cond b v None ≡ cond (a && (b && c)) v None
ends_true true true c v h k = rw k refl
ends_true true false c v h k = refl
ends_true false b c v h k = absurd (false≢true h)

-- an image with no newline behind its version
pub bad_end : (bytes : List ℕ) → get_or bytes 13 0 ≢ 10 → None ≡ raw_version bytes
bad_end bytes h = third_false (starts_with nat_eq bytes (codes "EMU1 ")) (list_all is_hex (version_digits bytes)) (eqb (get_or bytes 13 0) 10) (Some (digits_value 16 (version_digits bytes))) (ne_eqb (get_or bytes 13 0) 10 h)

-- where both are there, the digits decide
pub good_ends : (bytes : List ℕ) → starts_with nat_eq bytes (codes "EMU1 ") ≡ true → get_or bytes 13 0 ≡ 10
    → cond (list_all is_hex (version_digits bytes)) (Some (digits_value 16 (version_digits bytes))) None ≡ raw_version bytes
good_ends bytes h k = ends_true (starts_with nat_eq bytes (codes "EMU1 ")) (list_all is_hex (version_digits bytes)) (eqb (get_or bytes 13 0) 10) (Some (digits_value 16 (version_digits bytes))) h (eq-eqb (get_or bytes 13 0) 10 k)
