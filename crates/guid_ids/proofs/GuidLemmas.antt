-- What reading and writing a GUID's text rest on.
use Rattle.std.proofs.Common.{◌≡◌, ℕ, ◌*◌, ◌/◌, ◌%◌, true, false, subst, map, get_or, List, [], ◌∷◌, ◌++◌, append_assoc, length, Option, Some, None, Result, Ok, Err, refl, ap, sym, eqb, arith}
use Rattle.std.proofs.lemmas.Bool.Decides.{nat_tests}
use Rattle.std.proofs.lemmas.Bool.{ne_eqb, true≢false}
use Rattle.std.specs.Prelude.{MatchResult, IsOk, IfOk}
use Rattle.std.specs.List.{join_with_byte, range_with_len}
use Rattle.std.specs.Result.{result_ok, result_unwrap_or}
use Rattle.hex.specs.Hex.{decode_sized, IsBytes, encode_lower, lower_digits}
use Rattle.hex.proofs.HexLemmas.{length-encode_with, decode_pairs-encode_with, IsDigits-lower_digits}
use Rattle.std.proofs.lemmas.List.FromFn.{fill_by_all}
use Rattle.guid_ids.specs.Identifiers.{guid_text, named_guid, grouped, has_hyphens, ungrouped}

-- a text of another length, or without its hyphens, names no GUID
pub named_guid-wrong_length : (text : List ℕ) → ¬ (length text ≡ 36) → named_guid text ≡ None
unfolding named_guid
named_guid-wrong_length text h = rw (ne_eqb (length text) 36 h) refl

pub named_guid-no_hyphens : (text : List ℕ) → length text ≡ 36 → has_hyphens text ≡ false → named_guid text ≡ None
unfolding named_guid
named_guid-no_hyphens text len h = rw (len, h) refl

-- a text of the form names what its digits decode to
pub named_guid-digits : (text digits : List ℕ) (answer : Option (List ℕ)) → length text ≡ 36 → has_hyphens text ≡ true
    → digits ≡ ungrouped text → result_ok (decode_sized digits 16) ≡ answer → answer ≡ named_guid text
unfolding named_guid
named_guid-digits text digits answer len h are decoded = rw (len, h, ← are, decoded) refl

module _ {A E : Type 0} where
  -- the answer of a decoder that writes its bytes
  abbrev Wrote : Result (List ℕ) E → Result A E → A → List ℕ → Type 0
  Wrote decoded answer done out = MatchResult decoded (λ bytes. (answer ≡ Ok done) × (out ≡ bytes)) (λ e. answer ≡ Err e)

  pub wrote_ok : (decoded : Result (List ℕ) E) (answer : Result A E) (done : A) (out : List ℕ)
      → Wrote decoded answer done out → (x : A) → result_ok answer ≡ Some x → result_ok decoded ≡ Some out
  wrote_ok (Ok bytes) answer done out h x e = ap Some (sym h.1)
  wrote_ok (Err err) answer done out h x e = cc

  pub wrote_err : (decoded : Result (List ℕ) E) (answer : Result A E) (done : A) (out : List ℕ)
      → Wrote decoded answer done out → result_ok answer ≡ None → result_ok decoded ≡ None
  wrote_err (Ok bytes) answer done out h e = cc
  wrote_err (Err err) answer done out h e = refl

-- five parts and the byte between them, one after another
pub parts_joined : (h : ℕ) (a b c d e t0 t1 t2 t3 t4 t5 t6 t7 t8 t9 : List ℕ) → t0 ≡ [] → t1 ≡ t0 ++ a → t2 ≡ t1 ++ h ∷ [] → t3 ≡ t2 ++ b
    → t4 ≡ t3 ++ h ∷ [] → t5 ≡ t4 ++ c → t6 ≡ t5 ++ h ∷ [] → t7 ≡ t6 ++ d → t8 ≡ t7 ++ h ∷ [] → t9 ≡ t8 ++ e
    → t9 ≡ join_with_byte h (a ∷ b ∷ c ∷ d ∷ e ∷ [])
parts_joined h a b c d e t0 t1 t2 t3 t4 t5 t6 t7 t8 t9 e0 e1 e2 e3 e4 e5 e6 e7 e8 e9 =
    rw (e9, e8, e7, e6, e5, e4, e3, e2, e1, e0) (simp append_assoc)

-- the digits of n bytes are those bytes
pub decode_sized-encode_lower : (n : ℕ) (bytes : List ℕ) → length bytes ≡ n → IsBytes bytes → decode_sized (encode_lower bytes) n ≡ Ok bytes
decode_sized-encode_lower n bytes len in_range =
    let long : length (encode_lower bytes) ≡ 2 * n = omega (arith, length-encode_with lower_digits bytes) in
    let even : (2 * n) % 2 ≡ 0 = omega arith in
    let half : 2 * n / 2 ≡ n = omega arith in
    let same : eqb n n ≡ true = grind (arith, nat_tests) in
    rw (long, even, half, same) (decode_pairs-encode_with lower_digits IsDigits-lower_digits 0 bytes in_range)

-- 32 digits in groups have the form, and are what stands between the hyphens
record HasForm (digits : List ℕ) : Type 0 where
  long : length (grouped digits) ≡ 36
  hyphens : has_hyphens (grouped digits) ≡ true
  digits_back : ungrouped (grouped digits) ≡ digits

-- a list of 32 is its elements, written out
spelled : (digits : List ℕ) → length digits ≡ 32 → map (λ k. get_or digits k 0) (range_with_len 0 32) ≡ digits
spelled digits len = sym (fill_by_all (λ k. get_or digits k 0) digits 32 0 len (λ k _. refl))

form_of : (digits : List ℕ) → length digits ≡ 32 → HasForm digits
form_of digits len = subst HasForm (spelled digits len) (record { long = refl; hyphens = refl; digits_back = refl })

-- the text of 16 bytes has 36, and names them
pub length-grouped : (digits : List ℕ) → length digits ≡ 32 → length (grouped digits) ≡ 36
length-grouped digits len = (form_of digits len).long

pub named_guid-guid_text : (guid : List ℕ) → length guid ≡ 16 → IsBytes guid → named_guid (guid_text guid) ≡ Some guid
unfolding guid_text
named_guid-guid_text guid len bytes =
    let digits = encode_lower guid in
    let long : length digits ≡ 32 = omega (arith, length-encode_with lower_digits guid) in
    let form = form_of digits long in
    let decoded : result_ok (decode_sized digits 16) ≡ Some guid = ap result_ok (decode_sized-encode_lower 16 guid len bytes) in
    sym (named_guid-digits (grouped digits) digits (Some guid) form.long form.hyphens (sym form.digits_back) decoded)

-- the array of a full vector
pub array-of_full : {E : Type 0} (answer : Result (List ℕ) E) (other items : List ℕ) → IsOk answer → IfOk answer (λ array. array ≡ items)
    → result_unwrap_or answer other ≡ items
array-of_full (Ok array) other items ok same = same
array-of_full (Err e) other items ok same = absurd (true≢false (sym ok))
