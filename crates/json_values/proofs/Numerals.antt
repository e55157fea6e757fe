-- Which numerals are numbers, and which of those are numbers of 64 bits without a sign.
use Rattle.std.specs.Prelude.{◌≡◌, ℕ, ℤ, ◌^◌, List, drop, slice_index, Bool, true, false, ◌&&◌, ◌==◌, nat_le, nat_lt, Option, Some, None, is_some, option_and_then, if◌then◌else◌}
use Rattle.std.proofs.Common.{refl, sym, ap, ◌∙◌}
use Rattle.std.specs.Float.{Float, binary64, float_is_finite}
use Rattle.fast_float.specs.Text.{Parts, digits_of, nearest, scan, with_sign}
use Rattle.serde_json.specs.Data.{negative, float}
use Rattle.serde_json.specs.Find.{as_u64}
use Rattle.serde_json.specs.Read.{float_of, is_integer, number_from, number_of}

no_whole : (b : Bool) (x : Float) → option_and_then as_u64 (if b then Some (float x) else None) ≡ None
no_whole true x = refl
no_whole false x = refl

no_whole_below : (b c : Bool) (z : ℤ) (x : Float) → option_and_then as_u64 (if b then Some (negative z) else (if c then Some (float x) else None)) ≡ None
no_whole_below true c z x = refl
no_whole_below false c z x = no_whole c x

pub float_is_not_whole : (sign : Bool) (p : Parts) → option_and_then as_u64 (float_of sign p) ≡ None
float_is_not_whole sign p = no_whole (float_is_finite (nearest binary64 sign p)) (nearest binary64 sign p)

below_zero_is_not_whole : (p : Parts) → option_and_then as_u64 (number_from true p) ≡ None
below_zero_is_not_whole p =
    no_whole_below (is_integer p && nat_lt 0 (digits_of p) && nat_le (digits_of p) (2 ^ 63)) (float_is_finite (nearest binary64 true p)) (with_sign true (digits_of p)) (nearest binary64 true p)

-- the numeral begins with a minus, or it doesn't
number_below : (s : List ℕ) → (slice_index s 0 == 45) ≡ true → number_of s ≡ number_from true (scan (drop 1 s))
unfolding number_of
number_below s e = rw e refl

number_above : (s : List ℕ) → (slice_index s 0 == 45) ≡ false → number_of s ≡ number_from false (scan s)
unfolding number_of
number_above s e = rw e refl

pub whole_below : (s : List ℕ) → (slice_index s 0 == 45) ≡ true → None ≡ option_and_then as_u64 (number_of s)
whole_below s e = sym (ap (option_and_then as_u64) (number_below s e) ∙ below_zero_is_not_whole (scan (drop 1 s)))

pub whole_above : (s : List ℕ) (n : Option ℕ) → (slice_index s 0 == 45) ≡ false → n ≡ option_and_then as_u64 (number_from false (scan s)) → n ≡ option_and_then as_u64 (number_of s)
whole_above s n e is = is ∙ ap (option_and_then as_u64) (sym (number_above s e))

pub fits_below : (s : List ℕ) (b : Bool) → (slice_index s 0 == 45) ≡ true → b ≡ is_some (number_from true (scan (drop 1 s))) → b ≡ is_some (number_of s)
fits_below s b e is = is ∙ ap is_some (sym (number_below s e))

pub fits_above : (s : List ℕ) (b : Bool) → (slice_index s 0 == 45) ≡ false → b ≡ is_some (number_from false (scan s)) → b ≡ is_some (number_of s)
fits_above s b e is = is ∙ ap is_some (sym (number_above s e))
