-- The least raw number of bytes that are read as two decimal digits each.
use Rattle.std.proofs.Common.{◌≡◌, ℕ, ◌+◌, ◌-◌, ◌*◌, ◌/◌, ◌%◌, ◌^◌, ◌<◌, ◌≤◌, List, [], ◌∷◌, get_or, sym, ap, ◌∙◌, arith}
use Rattle.version_formats.specs.Formats.{bits, bcd}
use Rattle.version_formats.specs.declared.format.Format.TheVariants.{Bcd}
use Rattle.update_plans.specs.Fields.{fields, IsLeastWith}

-- ---- two decimal digits a byte

-- the least byte whose two digits write a number
abbrev pub decimal_byte : ℕ → ℕ
decimal_byte number = number + 6 * ((number - 6) / 10)

pub record IsLeastByte (high low byte : ℕ) : Type 0 where
  pub below : byte ≤ 16 * high + low
  pub digits : 10 * (byte / 16) + byte % 16 ≡ 10 * high + low

decimal_byte-least : (high low : ℕ) → high < 16 → low < 16 → IsLeastByte high low (decimal_byte (10 * high + low))
decimal_byte-least high low h l = record { below = omega arith; digits = omega arith }

four : {a b c d x y z w : ℕ} → a ≡ x → b ≡ y → c ≡ z → d ≡ w → a ∷ b ∷ c ∷ d ∷ [] ≡ x ∷ y ∷ z ∷ w ∷ []
four p q r s = cc

-- four bytes in a number
abbrev of_bytes : ℕ → ℕ → ℕ → ℕ → ℕ
of_bytes a b c d = a * 2 ^ 24 + b * 2 ^ 16 + c * 2 ^ 8 + d

bcd-of_bytes : (a b c d : ℕ) → a < 256 → b < 256 → c < 256 → d < 256
    → (bcd (of_bytes a b c d) 24 ≡ 10 * (a / 16) + a % 16) × (bcd (of_bytes a b c d) 16 ≡ 10 * (b / 16) + b % 16)
    × (bcd (of_bytes a b c d) 8 ≡ 10 * (c / 16) + c % 16) × (bcd (of_bytes a b c d) 0 ≡ 10 * (d / 16) + d % 16)
bcd-of_bytes a b c d ha hb hc hd = (omega arith, omega arith, omega arith, omega arith)

-- the least byte at a place of a raw number
byte_at-least : (raw low : ℕ) → IsLeastByte (bits raw (low + 4) 4) (bits raw low 4) (decimal_byte (bcd raw low))
byte_at-least raw low = decimal_byte-least (bits raw (low + 4) 4) (bits raw low 4) (omega arith) (omega arith)

pub least-Bcd : (numbers : List ℕ) (least : ℕ)
    → least ≡ decimal_byte (get_or numbers 0 0) * 2 ^ 24 + decimal_byte (get_or numbers 1 0) * 2 ^ 16 + decimal_byte (get_or numbers 2 0) * 2 ^ 8
    + decimal_byte (get_or numbers 3 0)
    → IsLeastWith Bcd numbers least
least-Bcd numbers least e =
    record {
      same = λ raw h is.
          let bytes = bcd-of_bytes (byte raw 24) (byte raw 16) (byte raw 8) (byte raw 0) (small raw 24) (small raw 16) (small raw 8) (small raw 0) in
          ap (fields Bcd) (made raw is)
          ∙ four (bytes.0 ∙ (byte_at-least raw 24).digits) (bytes.1 ∙ (byte_at-least raw 16).digits) (bytes.2 ∙ (byte_at-least raw 8).digits) (bytes.3 ∙ (byte_at-least raw 0).digits)
          ∙ sym is;
      least = λ raw h is.
          let p : least ≡ of_bytes (byte raw 24) (byte raw 16) (byte raw 8) (byte raw 0) = made raw is in
          let a : byte raw 24 ≤ 16 * bits raw 28 4 + bits raw 24 4 = (byte_at-least raw 24).below in
          let b : byte raw 16 ≤ 16 * bits raw 20 4 + bits raw 16 4 = (byte_at-least raw 16).below in
          let c : byte raw 8 ≤ 16 * bits raw 12 4 + bits raw 8 4 = (byte_at-least raw 8).below in
          let d : byte raw 0 ≤ 16 * bits raw 4 4 + bits raw 0 4 = (byte_at-least raw 0).below in
          let sum : of_bytes (16 * bits raw 28 4 + bits raw 24 4) (16 * bits raw 20 4 + bits raw 16 4) (16 * bits raw 12 4 + bits raw 8 4) (16 * bits raw 4 4 + bits raw 0 4) ≡ raw = nibbles raw h in
          sums _ _ _ _ _ _ _ _ _ _ p a b c d sum;
    }
  where
    byte : ℕ → ℕ → ℕ
    byte raw low = decimal_byte (bcd raw low)

    small : (raw low : ℕ) → byte raw low < 256
    small raw low =
        let h : bits raw (low + 4) 4 < 16 = omega arith in
        let l : bits raw low 4 < 16 = omega arith in
        omega (arith, (byte_at-least raw low).below)

    made : (raw : ℕ) → numbers ≡ fields Bcd raw → least ≡ of_bytes (byte raw 24) (byte raw 16) (byte raw 8) (byte raw 0)
    made raw is =
        e
        ∙ ap (λ (l : List ℕ). of_bytes (decimal_byte (get_or l 0 0)) (decimal_byte (get_or l 1 0)) (decimal_byte (get_or l 2 0)) (decimal_byte (get_or l 3 0))) is

    nibbles : (raw : ℕ) → raw < 2 ^ 32
        → of_bytes (16 * bits raw 28 4 + bits raw 24 4) (16 * bits raw 20 4 + bits raw 16 4) (16 * bits raw 12 4 + bits raw 8 4) (16 * bits raw 4 4 + bits raw 0 4) ≡ raw
    nibbles raw h = omega arith

    sums : (raw low a b c d x y z w : ℕ) → low ≡ of_bytes a b c d → a ≤ x → b ≤ y → c ≤ z → d ≤ w → of_bytes x y z w ≡ raw → low ≤ raw
    sums raw low a b c d x y z w p ha hb hc hd e = omega arith
