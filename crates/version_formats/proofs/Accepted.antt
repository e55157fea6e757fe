-- What a format writes is a version.
use Rattle.std.proofs.Common.{◌≡◌, ℕ, zero, suc, ◌<◌, ◌≤◌, ◌/◌, ◌%◌, ◌^◌, ◌==◌, false, not, List, [], ◌∷◌, length, get_or, slice_index, decimal, None, Ok, refl, sym, ap, subst, arith}
use Rattle.std.proofs.lemmas.Bool.{le-ltb, ne_eqb, not-true, or_from}
use Rattle.std.proofs.lemmas.Fmt.{decimal_is_IsNumeral}
use Rattle.std.proofs.lemmas.List.{length-append}
use Rattle.std.proofs.lemmas.List.Elements.{All-append, All-cons, All-from_get_or, All-get_or, All-nil}
use Rattle.std.proofs.lemmas.List.Sums.{AllPass-from_list_all, position_or_len_is}
use Rattle.std.proofs.lemmas.Str.Parse.{digit_at}
use Rattle.std.specs.Int.{w32, to_be_bytes}
use Rattle.std.specs.List.{All, position, position_or_len}
use Rattle.std.specs.Prelude.{nat_lt}
use Rattle.std.specs.Str.Parse.{AllDigits}
use Rattle.hex.specs.Hex.{encode_lower, encode_with, lower_digits}
use Rattle.version_formats.specs.Formats.{dot, dotted}
use Rattle.version_formats.specs.Versions.{is_no_version_byte, version_read}

abbrev good : ℕ → Type 0
good b = is_no_version_byte b ≡ false

-- ---- texts without a bad byte

no_bad : (text : List ℕ) → All good text → position is_no_version_byte text ≡ None
no_bad text all =
    let none : position_or_len is_no_version_byte text ≡ length text =
    position_or_len_is is_no_version_byte text (length text) 0 (omega arith) (λ k h. All-get_or good text k 0 h all) (λ h. absurd (omega arith)) in
    let end : nat_lt (length text) (length text) ≡ false = le-ltb (length text) (length text) (omega arith) in
    rw (none, end) refl

accepted : (text : List ℕ) → 0 < length text → length text ≤ 64 → All good text → version_read text ≡ Ok text
accepted text some short all =
    let first : (length text == 0) ≡ false = ne_eqb (length text) 0 (λ e. absurd (omega arith)) in
    let long : nat_lt 64 (length text) ≡ false = le-ltb 64 (length text) short in
    rw (first, long, no_bad text all) refl

-- ---- numbers with dots between them

digit_good : (c : ℕ) → 48 ≤ c → c ≤ 57 → good c
digit_good c low high = or_from (nat_lt c 33) (nat_lt 126 c) (le-ltb c 33 (omega arith)) (le-ltb 126 c (omega arith))

digits_good : (digits : List ℕ) → AllDigits 10 digits → All good digits
digits_good digits all =
    All-from_get_or good digits 0 (λ k h. let range = digit_at digits k all h in digit_good (get_or digits k 0) range.0 range.1)

decimal_good : (n : ℕ) → n < 2 ^ 32 → All good (decimal n)
decimal_good n small = digits_good (decimal n) (decimal_is_IsNumeral n (omega arith)).0.1

-- all numbers fit 32 bits
abbrev Small : List ℕ → Type 0
Small numbers = (k : ℕ) → k < length numbers → get_or numbers k 0 < 2 ^ 32

small-more : (n : ℕ) (ns : List ℕ) → Small (n ∷ ns) → Small ns
small-more n ns small k h = small (suc k) (omega arith)

dotted-good : (n : ℕ) (ns : List ℕ) → Small (n ∷ ns) → All good (dotted (n ∷ ns))
dotted-good n [] small = decimal_good n (small 0 (omega arith))
dotted-good n (m ∷ ns) small =
    All-append good (decimal n) (dot ∷ dotted (m ∷ ns)) (decimal_good n (small 0 (omega arith)))
    (All-cons good dot (dotted (m ∷ ns)) refl (dotted-good m ns (small-more n (m ∷ ns) small)))

dotted-some : (n : ℕ) (ns : List ℕ) → Small (n ∷ ns) → 0 < length (dotted (n ∷ ns))
dotted-some n [] small = (decimal_is_IsNumeral n (let h : n < 2 ^ 32 = small 0 (omega arith) in omega arith)).0.0
dotted-some n (m ∷ ns) small = omega (arith, length-append (decimal n) (dot ∷ dotted (m ∷ ns)))

numbers-accepted : (numbers : List ℕ) → 0 < length numbers → length (dotted numbers) ≤ 64 → Small numbers → version_read (dotted numbers) ≡ Ok (dotted numbers)
numbers-accepted [] some short small = absurd (omega arith)
numbers-accepted (n ∷ ns) some short small = accepted (dotted (n ∷ ns)) (dotted-some n ns small) short (dotted-good n ns small)

pub dotted-accepted : (text numbers : List ℕ) → text ≡ dotted numbers → length text ≤ 64 → 0 < length numbers
    → ((k : ℕ) → k < length numbers → get_or numbers k 0 < 2 ^ 32) → version_read text ≡ Ok text
dotted-accepted text numbers is short some small =
    let P : List ℕ → Type 0 = λ xs. version_read xs ≡ Ok xs in
    subst P (sym is) (numbers-accepted numbers some (let same = ap length is in omega arith) small)

-- ---- hex digits

hex_digit-good : (k : ℕ) → k < 16 → good (slice_index lower_digits k)
hex_digit-good k within =
    not-true (is_no_version_byte (slice_index lower_digits k)) (AllPass-from_list_all (λ b. not (is_no_version_byte b)) lower_digits refl k 0 within)

hex-good : (bytes : List ℕ) → ((k : ℕ) → k < length bytes → get_or bytes k 0 < 256) → All good (encode_lower bytes)
unfolding encode_with
hex-good [] small = All-nil good
hex-good (b ∷ bytes) small =
    let first : b < 256 = small 0 (omega arith) in
    All-cons good (slice_index lower_digits (b / 16)) (slice_index lower_digits (b % 16) ∷ encode_lower bytes) (hex_digit-good (b / 16) (omega arith))
    (All-cons good (slice_index lower_digits (b % 16)) (encode_lower bytes) (hex_digit-good (b % 16) (omega arith))
    (hex-good bytes (λ k h. small (suc k) (omega arith))))

-- the bytes of a number
byte_small : (n k : ℕ) → k < 4 → get_or (to_be_bytes w32 n) k 0 < 256
byte_small n zero h = omega arith
byte_small n (suc zero) h = omega arith
byte_small n (suc (suc zero)) h = omega arith
byte_small n (suc (suc (suc zero))) h = omega arith
byte_small n (suc (suc (suc (suc k)))) h = absurd (omega arith)

digits_few : (n : ℕ) → length (encode_lower (to_be_bytes w32 n)) ≤ 62
unfolding encode_with
digits_few n = omega arith

digits-accepted : (n : ℕ) → version_read (48 ∷ 120 ∷ encode_lower (to_be_bytes w32 n)) ≡ Ok (48 ∷ 120 ∷ encode_lower (to_be_bytes w32 n))
digits-accepted n =
    let bytes = to_be_bytes w32 n in
    let few = digits_few n in
    accepted (48 ∷ 120 ∷ encode_lower bytes) (omega arith) (omega arith)
    (All-cons good 48 (120 ∷ encode_lower bytes) refl (All-cons good 120 (encode_lower bytes) refl (hex-good bytes (λ k h. byte_small n k h))))

-- `0x` and the digits of a number
pub hex-accepted : (text : List ℕ) (n : ℕ) → text ≡ 48 ∷ 120 ∷ encode_lower (to_be_bytes w32 n) → version_read text ≡ Ok text
hex-accepted text n is =
    let P : List ℕ → Type 0 = λ xs. version_read xs ≡ Ok xs in
    subst P (sym is) (digits-accepted n)
