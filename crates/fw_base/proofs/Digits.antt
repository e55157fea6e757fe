-- Lower-case hex digits are hex digits.
use Rattle.std.proofs.Common.{◌≡◌, ℕ, true, false, List, length, get_or, Result, Ok, Err, IsSome, IsOk, ◌↔◌, refl, arith}
use Rattle.std.specs.Result.{result_ok}
use Rattle.std.specs.List.{AllPass, list_all}
use Rattle.std.proofs.lemmas.Bool.Decides.{nat_tests}
use Rattle.std.proofs.lemmas.List.Sums.{AllPass-from_list_all, list_all-from_AllPass}
use Rattle.hex.specs.Hex.{decode_sized, is_hex_digit}
use Rattle.hex.proofs.HexLemmas.{IsOk-decode_sized}
use Rattle.fw_base.specs.Digests.{is_lower_digit}

lower_is_hex : (b : ℕ) → is_lower_digit b ≡ true → is_hex_digit b ≡ true
lower_is_hex b h = grind (arith, nat_tests)

lower_are_hex : (text : List ℕ) → AllPass is_lower_digit text → AllPass is_hex_digit text
lower_are_hex text h k d lt = lower_is_hex (get_or text k d) (h k d lt)

found_ok : {E : Type 0} (r : Result (List ℕ) E) → IsOk r → IsSome (result_ok r)
found_ok (Ok bytes) h = refl
found_ok (Err e) h = cc

ok_found : {E : Type 0} (r : Result (List ℕ) E) → IsSome (result_ok r) → IsOk r
ok_found (Ok bytes) h = refl
ok_found (Err e) h = cc

-- a digest is read exactly where its text is one
pub digest_found : (text : List ℕ) → list_all is_lower_digit text ≡ true
    → IsSome (result_ok (decode_sized text 32)) ↔ ((length text ≡ 64) × AllPass is_lower_digit text)
digest_found text lower =
    let digits = IsOk-decode_sized text 32 in (
      λ h. ((digits.0 (ok_found (decode_sized text 32) h)).0, AllPass-from_list_all is_lower_digit text lower),
      λ h. found_ok (decode_sized text 32) (digits.1 (h.0, lower_are_hex text h.1)),
    )

pub digest_missed : (text : List ℕ) → list_all is_lower_digit text ≡ false → (length text ≡ 64) × AllPass is_lower_digit text → ⊥
digest_missed text other h = let all : list_all is_lower_digit text ≡ true = list_all-from_AllPass is_lower_digit text h.1 in cc
