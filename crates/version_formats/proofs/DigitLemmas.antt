-- Runs of digits, compared by their lengths and then digit by digit.
use Rattle.std.proofs.Common.{◌≡◌, ℕ, suc, ◌+◌, ◌-◌, ◌*◌, ◌^◌, ◌<◌, ◌≤◌, ◌==◌, Bool, true, List, [], ◌∷◌, length, drop, Ordering, refl, sym, ap, ◌∙◌, subst, inl, inr, arith}
use Rattle.std.proofs.Math.Nat.{pow-suc, pow-le-pow_right, mul-le-mul_left}
use Rattle.std.proofs.lemmas.Bool.{cases_eq, cases_order, eq-eqb, ne_eqb}
use Rattle.std.proofs.lemmas.Bool.Decides.{nat_tests}
use Rattle.std.proofs.lemmas.Int.Digits.{digits_value-lt}
use Rattle.std.specs.Char.{digit_value, is_ascii_digit}
use Rattle.std.specs.Cmp.Lexicographic.{slice_cmp}
use Rattle.std.specs.List.{AllPass, prefix_len}
use Rattle.std.specs.Ordering.{nat_cmp, ordering_then}
use Rattle.std.specs.declared.cmp.Ordering.TheVariants.{Less, Equal, Greater}
use Rattle.std.specs.Str.Parse.{AllDigits, digits_value, digits_value_after}

-- ---- what comparing numbers answers

pub nat_cmp-less : (x y : ℕ) → x < y → nat_cmp x y ≡ Less
nat_cmp-less x y h = grind (arith, nat_tests)

pub nat_cmp-equal : (x : ℕ) → nat_cmp x x ≡ Equal
nat_cmp-equal x = grind (arith, nat_tests)

pub nat_cmp-greater : (x y : ℕ) → y < x → nat_cmp x y ≡ Greater
nat_cmp-greater x y h = grind (arith, nat_tests)

-- numbers in front of which the same number is put compare as before
nat_cmp-shifted : (n x y : ℕ) → nat_cmp (n + x) (n + y) ≡ nat_cmp x y
nat_cmp-shifted n x y = grind (arith, nat_tests)

-- ---- the number that a run writes

value_after : (n : ℕ) (digits : List ℕ) → digits_value_after 10 n digits ≡ n * 10 ^ length digits + digits_value 10 digits
value_after n [] = omega arith
value_after n (c ∷ cs) =
    let first = value_after (n * 10 + digit_value c) cs in
    let second = value_after (0 * 10 + digit_value c) cs in
    rw (pow-suc 10 (length cs)) (omega (arith, first, second))

-- the first digit weighs as much as the others have places
value-cons : (c : ℕ) (cs : List ℕ) → digits_value 10 (c ∷ cs) ≡ digit_value c * 10 ^ length cs + digits_value 10 cs
value-cons c cs = omega (arith, value_after (0 * 10 + digit_value c) cs)

-- ---- digits

digit_value_is : (c : ℕ) → is_ascii_digit c ≡ true → (digit_value c ≡ c - 48) × (48 ≤ c) × (c ≤ 57)
digit_value_is c h = grind (arith, nat_tests)

-- the digits of a run, each with its bounds
abbrev pub Digits : List ℕ → Type 0
Digits [] = Unit {0}
Digits (c ∷ cs) = (48 ≤ c) × (c ≤ 57) × Digits cs

pub digits_from_pass : (digits : List ℕ) → AllPass is_ascii_digit digits → Digits digits
digits_from_pass [] h = tt
digits_from_pass (c ∷ cs) h =
    let bounds = digit_value_is c (h 0 c (omega arith)) in
    (bounds.1, bounds.2, digits_from_pass cs (λ k d lt. h (suc k) d (omega arith)))

value_of_digit : (c : ℕ) → 48 ≤ c → c ≤ 57 → digit_value c ≡ c - 48
value_of_digit c low high = grind (arith, nat_tests)

all_digits : (digits : List ℕ) → Digits digits → AllDigits 10 digits
all_digits [] h = tt
all_digits (c ∷ cs) h =
    let low : 48 ≤ c = h.0 in
    let high : c ≤ 57 = h.1 in
    let small : digit_value c < 10 = omega (arith, value_of_digit c low high) in
    (small, all_digits cs h.2)

-- fewer places, a smaller number than the next power
value-below : (digits : List ℕ) → Digits digits → digits_value 10 digits < 10 ^ length digits
value-below digits h = digits_value-lt 10 digits (all_digits digits h)

-- ---- leading zeros

abbrev pub is_zero : ℕ → Bool
is_zero b = b == 48

-- a run from its first digit on that is not zero
abbrev pub significant : List ℕ → List ℕ
significant digits = drop (prefix_len is_zero digits) digits

significant-zero : (c : ℕ) (cs : List ℕ) → c ≡ 48 → significant (c ∷ cs) ≡ significant cs
significant-zero c cs same =
    let more : 1 + prefix_len is_zero cs ≡ suc (prefix_len is_zero cs) = omega arith in
    rw (eq-eqb c 48 same, more) refl

significant-other : (c : ℕ) (cs : List ℕ) → (c ≡ 48 → ⊥) → significant (c ∷ cs) ≡ c ∷ cs
significant-other c cs other = rw (ne_eqb c 48 other) refl

pub value-significant : (digits : List ℕ) → digits_value 10 (significant digits) ≡ digits_value 10 digits
value-significant [] = refl
value-significant (c ∷ cs) =
    elim (cases_eq c 48) [
      | inl same ↦
          let nothing : digits_value 10 (c ∷ cs) ≡ digits_value 10 cs = rw same refl in
          ap (digits_value 10) (significant-zero c cs same) ∙ value-significant cs ∙ sym nothing
      | inr other ↦ ap (digits_value 10) (significant-other c cs other)
    ]

-- a run that does not begin with a zero
abbrev pub Significant : List ℕ → Type 0
Significant [] = Unit {0}
Significant (c ∷ cs) = 49 ≤ c

pub significant-digits : (digits : List ℕ) → Digits digits → Digits (significant digits)
significant-digits [] h = tt
significant-digits (c ∷ cs) h =
    elim (cases_eq c 48) [
      | inl same ↦ subst Digits (sym (significant-zero c cs same)) (significant-digits cs h.2)
      | inr other ↦ subst Digits (sym (significant-other c cs other)) h
    ]

pub significant-Significant : (digits : List ℕ) → Digits digits → Significant (significant digits)
significant-Significant [] h = tt
significant-Significant (c ∷ cs) h =
    elim (cases_eq c 48) [
      | inl same ↦ subst Significant (sym (significant-zero c cs same)) (significant-Significant cs h.2)
      | inr other ↦
          let low : 48 ≤ c = h.0 in
          let above : 49 ≤ c = omega arith in
          subst Significant (sym (significant-other c cs other)) above
    ]

-- ---- the comparison

-- a larger first digit is a larger number
lead-less : (x y p v w : ℕ) → x < y → v < p → x * p + v < y * p + w
lead-less x y p v w lead small = omega (arith, mul-le-mul_left p lead)

-- the shorter of two runs without leading zeros is the smaller number
pub value-shorter : (left right : List ℕ) → Digits left → Digits right → Significant right → length left < length right
    → digits_value 10 left < digits_value 10 right
value-shorter left [] dl dr s h = absurd (omega arith)
value-shorter left (c ∷ cs) dl dr s h =
    let fits : length left ≤ length cs = omega arith in
    let ten : 0 < 10 = omega arith in
    let powers : 10 ^ length left ≤ 10 ^ length cs = pow-le-pow_right ten fits in
    let high : c ≤ 57 = dr.1 in
    let lead : 1 ≤ digit_value c = omega (arith, value_of_digit c (omega arith) high) in
    let weighs : 10 ^ length cs * 1 ≤ 10 ^ length cs * digit_value c = mul-le-mul_left (10 ^ length cs) lead in
    omega (arith, value-below left dl, powers, weighs, value-cons c cs)

-- a first digit decides, and else the rest
nat_cmp-lead : (c d p v w : ℕ) (rest : Ordering) → 48 ≤ c → 48 ≤ d → v < p → w < p → nat_cmp v w ≡ rest
    → nat_cmp ((c - 48) * p + v) ((d - 48) * p + w) ≡ ordering_then (nat_cmp c d) rest
nat_cmp-lead c d p v w rest c_low d_low v_small w_small decided =
    let by_first = λ (o : Ordering). ordering_then o rest in
    elim (cases_order c d) [
      | inl equal ↦
          let left_first : nat_cmp ((c - 48) * p + v) ((d - 48) * p + w) ≡ nat_cmp v w = rw equal (nat_cmp-shifted ((d - 48) * p) v w) in
          let tie : nat_cmp c d ≡ Equal = rw equal (nat_cmp-equal d) in
          left_first ∙ decided ∙ sym (ap by_first tie)
      | inr (inl less) ↦
          nat_cmp-less _ _ (lead-less (c - 48) (d - 48) p v w (omega arith) v_small) ∙ sym (ap by_first (nat_cmp-less c d less))
      | inr (inr greater) ↦
          nat_cmp-greater _ _ (lead-less (d - 48) (c - 48) p w v (omega arith) w_small) ∙ sym (ap by_first (nat_cmp-greater c d greater))
    ]

-- of two runs of one length, the first differing digit decides
pub nat_cmp-same_length : (left right : List ℕ) → Digits left → Digits right → length left ≡ length right
    → nat_cmp (digits_value 10 left) (digits_value 10 right) ≡ slice_cmp nat_cmp left right
nat_cmp-same_length [] [] dl dr h = refl
nat_cmp-same_length [] (d ∷ ds) dl dr h = absurd (omega arith)
nat_cmp-same_length (c ∷ cs) [] dl dr h = absurd (omega arith)
nat_cmp-same_length (c ∷ cs) (d ∷ ds) dl dr h =
    let same : length cs ≡ length ds = omega arith in
    let p = 10 ^ length cs in
    let right_value : digits_value 10 (d ∷ ds) ≡ digit_value d * p + digits_value 10 ds = rw same (value-cons d ds) in
    let ours = value-cons c cs ∙ ap (λ (x : ℕ). x * p + digits_value 10 cs) (value_of_digit c dl.0 dl.1) in
    let theirs = right_value ∙ ap (λ (x : ℕ). x * p + digits_value 10 ds) (value_of_digit d dr.0 dr.1) in
    let below_right : digits_value 10 ds < p = rw same (value-below ds dr.2) in
    rw (ours, theirs)
    (nat_cmp-lead c d p _ _ (slice_cmp nat_cmp cs ds) dl.0 dr.0 (value-below cs dl.2) below_right (nat_cmp-same_length cs ds dl.2 dr.2 same))

-- two runs without leading zeros compare by their lengths, and those of one length digit by digit
pub nat_cmp-significant : (left right : List ℕ) → Digits left → Digits right → Significant left → Significant right
    → nat_cmp (digits_value 10 left) (digits_value 10 right)
    ≡ ordering_then (nat_cmp (length left) (length right)) (slice_cmp nat_cmp left right)
nat_cmp-significant left right dl dr sl sr =
    let then_digits = λ (o : Ordering). ordering_then o (slice_cmp nat_cmp left right) in
    elim (cases_order (length left) (length right)) [
      | inl equal ↦
          let tie : nat_cmp (length left) (length right) ≡ Equal = rw equal (nat_cmp-equal (length right)) in
          nat_cmp-same_length left right dl dr equal ∙ sym (ap then_digits tie)
      | inr (inl less) ↦
          nat_cmp-less _ _ (value-shorter left right dl dr sr less) ∙ sym (ap then_digits (nat_cmp-less (length left) (length right) less))
      | inr (inr greater) ↦
          nat_cmp-greater _ _ (value-shorter right left dr dl sl greater) ∙ sym (ap then_digits (nat_cmp-greater (length left) (length right) greater))
    ]

-- the number of a run is that of its significant digits
pub nat_cmp-runs : (left right : List ℕ) → AllPass is_ascii_digit left → AllPass is_ascii_digit right
    → nat_cmp (digits_value 10 left) (digits_value 10 right)
    ≡ ordering_then (nat_cmp (length (significant left)) (length (significant right))) (slice_cmp nat_cmp (significant left) (significant right))
nat_cmp-runs left right pl pr =
    let dl = digits_from_pass left pl in
    let dr = digits_from_pass right pr in
    rw (← value-significant left, ← value-significant right)
    (nat_cmp-significant (significant left) (significant right) (significant-digits left dl) (significant-digits right dr)
    (significant-Significant left dl) (significant-Significant right dr))
