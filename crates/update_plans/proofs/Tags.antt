-- The tag of a step is a name.
use Rattle.std.proofs.Common.{◌≡◌, ℕ, ◌+◌, ◌<◌, ◌≤◌, ◌==◌, Bool, true, false, List, [], ◌∷◌, ◌++◌, length, get_or, decimal, codes, nat_lt, cond, Option, Some, None, Ok, Err, refl, arith, length-append, position}
use Rattle.std.proofs.lemmas.Bool.{le-ltb, ltb-false, ne_eqb}
use Rattle.std.proofs.lemmas.Bool.Decides.{nat_tests}
use Rattle.std.proofs.lemmas.Fmt.{decimal_is_IsNumeral, length-decimal-le}
use Rattle.std.proofs.lemmas.List.Elements.{All-append, All-from_get_or, All-cons, All-nil}
use Rattle.std.proofs.lemmas.List.Sums.{fails_before_first, position_or_len_is}
use Rattle.std.proofs.lemmas.Str.Parse.{digit_at}
use Rattle.std.specs.List.{All, position_or_len}
use Rattle.std.specs.Str.Parse.{AllDigits}
use Rattle.fw_base.specs.Names.{is_no_name_byte, name_read, name_unless}
use Rattle.fw_base.specs.declared.name.NameFault.TheVariants.{Empty, TooLong}
use Rattle.update_plans.specs.Tags.{IsTag}

-- The byte may stand in a name.
abbrev pub IsFine : ℕ → Type 0
IsFine b = is_no_name_byte b ≡ false

-- where no bad byte is found each byte is fine
all_fine : (text : List ℕ) → position is_no_name_byte text ≡ None → All IsFine text
all_fine text h = All-from_get_or (λ b. is_no_name_byte b ≡ false) text 0 (λ k within. fails_before_first is_no_name_byte text k 0 (far (nat_lt (position_or_len is_no_name_byte text) (length text)) refl h k within))
  where
    far : (b : Bool) → nat_lt (position_or_len is_no_name_byte text) (length text) ≡ b → cond b (Some (position_or_len is_no_name_byte text)) None ≡ None
        → (k : ℕ) → k < length text → k < position_or_len is_no_name_byte text
    far true e f k within = absurd (some_none f)
      where
        some_none : {n : ℕ} → Some n ≡ None → ⊥
        some_none f = cc
    far false e f k within = let past = ltb-false (position_or_len is_no_name_byte text) (length text) e in omega arith

none_bad : (text : List ℕ) → All IsFine text → position is_no_name_byte text ≡ None
none_bad text fine =
    let at : position_or_len is_no_name_byte text ≡ length text =
    position_or_len_is is_no_name_byte text (length text) 0 (omega arith) (λ k within. fine k 0 within) (λ h. absurd (omega arith)) in
    rw (at, le-ltb (length text) (length text) (omega arith)) refl

-- a name as it was read has fine bytes alone
read_fine : (text : List ℕ) → name_read text ≡ Ok text → All IsFine text
read_fine text h = all_fine text (found (length text == 0) (nat_lt 64 (length text)) (position is_no_name_byte text) h)
  where
    found : (empty long : Bool) (bad : Option ℕ)
        → cond empty (Err Empty) (cond long (Err (TooLong (length text))) (name_unless bad text)) ≡ Ok text → bad ≡ None
    found true long bad e = cc
    found false true bad e = cc
    found false false (Some at) e = cc
    found false false None e = refl

digits_fine : (digits : List ℕ) → AllDigits 10 digits → All IsFine digits
digits_fine digits all =
    All-from_get_or (λ b. is_no_name_byte b ≡ false) digits 0 (λ k within. fine (get_or digits k 0) (digit_at digits k all within).0 (digit_at digits k all within).1)
  where
    fine : (c : ℕ) → 48 ≤ c → c ≤ 57 → is_no_name_byte c ≡ false
    fine c low high = grind (arith, nat_tests)

-- so the tag of a step is read as a name
pub step_tag-read : (tag : List ℕ) (number : ℕ) → IsTag tag → number ≤ 8192 → name_read (tag ++ codes "-" ++ decimal number) ≡ Ok (tag ++ codes "-" ++ decimal number)
step_tag-read tag number t few =
    let numeral = decimal_is_IsNumeral number (omega arith) in
    let dash : All IsFine (45 ∷ []) = All-cons IsFine 45 [] refl (All-nil IsFine) in
    let fine : All IsFine ((tag ++ codes "-") ++ decimal number) =
    All-append IsFine (tag ++ codes "-") (decimal number) (All-append IsFine tag (codes "-") (read_fine tag t.read) dash) (digits_fine (decimal number) numeral.0.1) in
    let few_digits : length (decimal number) ≤ 4 = length-decimal-le 4 number (omega arith) (omega arith) (omega arith) in
    let first : length (tag ++ codes "-") ≡ length tag + 1 = length-append tag (codes "-") in
    let whole : length ((tag ++ codes "-") ++ decimal number) ≡ length (tag ++ codes "-") + length (decimal number) = length-append (tag ++ codes "-") (decimal number) in
    let short : length ((tag ++ codes "-") ++ decimal number) ≤ 64 = omega (arith, t.few) in
    rw (ne_eqb (length ((tag ++ codes "-") ++ decimal number)) 0 (λ e. absurd (omega arith)), le-ltb 64 (length ((tag ++ codes "-") ++ decimal number)) short, none_bad ((tag ++ codes "-") ++ decimal number) fine) refl

-- and is short enough to be kept
pub step_tag-short : (tag : List ℕ) (number : ℕ) → IsTag tag → number ≤ 8192 → length tag + 1 + length (decimal number) ≤ 61
step_tag-short tag number t few =
    let digits : length (decimal number) ≤ 4 = length-decimal-le 4 number (omega arith) (omega arith) (omega arith) in
    omega (arith, t.few)
