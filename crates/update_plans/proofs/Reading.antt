-- The sections of a version, read as numbers one after the other.
use Rattle.std.proofs.Common.{◌≡◌, ℕ, ◌+◌, ◌-◌, ◌*◌, ◌^◌, ◌<◌, ◌≤◌, true, List, [], ◌∷◌, ◌++◌, length, map, drop, get_or, Option, Some, None, sym, ap, ◌∙◌, subst, arith, length-append, length-drop, append_assoc}
use Rattle.std.proofs.Math.Seq.{get_or-append_seam}
use Rattle.std.proofs.lemmas.Bool.Decides.{nat_tests}
use Rattle.std.proofs.lemmas.List.{at_drop_more, take_all}
use Rattle.std.proofs.lemmas.List.Sums.{prefix_len_passes}
use Rattle.std.specs.Char.{digit_value, is_ascii_digit}
use Rattle.std.specs.List.{All, prefix_len}
use Rattle.std.specs.Option.{MatchOption}
use Rattle.std.specs.Str.Parse.{digits_value, digits_value_after}
use Rattle.version_formats.specs.VersionOrder.{Section, section_of, sections}
use Rattle.update_plans.specs.Fields.{AreNumbers, digit_of, whole}

-- ---- one section

-- a section that is a number alone is its digits
pub record AreDigits (text : List ℕ) (number : ℕ) : Type 0 where
  pub digits : (k : ℕ) → k < length text → is_ascii_digit (get_or text k 0) ≡ true
  pub value : digits_value 10 text ≡ number

pub whole_section : (text : List ℕ) (number : ℕ) → section_of text ≡ whole number → AreDigits text number
whole_section text number h =
    let nothing : drop (prefix_len is_ascii_digit text) text ≡ [] = ap (λ (s : Section). s.rest) h in
    let none : length text - prefix_len is_ascii_digit text ≡ 0 = sym (length-drop (prefix_len is_ascii_digit text) text) ∙ ap length nothing in
    let far : length text ≤ prefix_len is_ascii_digit text = omega arith in
    record {
      digits = λ k within. prefix_len_passes is_ascii_digit text k 0 (omega arith);
      value = ap (digits_value 10) (sym (take_all (prefix_len is_ascii_digit text) text far)) ∙ ap (λ (s : Section). s.number) h;
    }

-- digits behind a number make it no smaller
pub value_after-least : (number : ℕ) (text : List ℕ) → number ≤ digits_value_after 10 number text
value_after-least number [] = omega arith
value_after-least number (c ∷ cs) =
    let more : number * 10 + digit_value c ≤ digits_value_after 10 (number * 10 + digit_value c) cs = value_after-least (number * 10 + digit_value c) cs in
    omega arith

pub digit_value-digit : (c : ℕ) → is_ascii_digit c ≡ true → digit_value c ≡ c - 48
digit_value-digit c h = grind (arith, nat_tests)

-- a digit of a number alone is read
pub digit-read : (text : List ℕ) (number i : ℕ) → AreDigits text number → i < length text
    → digit_of (get_or text i 0) ≡ Some (digit_value (get_or text i 0))
digit-read text number i h within =
    let digit : is_ascii_digit (get_or text i 0) ≡ true = h.digits i within in
    rw digit (ap Some (sym (digit_value-digit (get_or text i 0) digit)))

-- the number so far with that digit is no greater than the whole number
pub digit-fits : (text : List ℕ) (number before i : ℕ) → AreDigits text number → i < length text
    → digits_value_after 10 before (drop i text) ≡ digits_value 10 text → before * 10 + digit_value (get_or text i 0) ≤ number
digit-fits text number before i h within so_far =
    let next = at_drop_more (digits_value_after 10 before) text i 0 within in
    let least = value_after-least (before * 10 + digit_value (get_or text i 0)) (drop (i + 1) text) in
    let same : digits_value_after 10 (before * 10 + digit_value (get_or text i 0)) (drop (i + 1) text) ≡ number =
    sym next ∙ so_far ∙ h.value in
    omega (arith, least, same)

-- ---- all sections

-- The numbers that are still to be read, behind those that are.
pub record IsLeft (given before text : List ℕ) : Type 0 where
  pub behind : List ℕ
  pub all : given ≡ before ++ behind
  pub alone : sections text ≡ map whole behind

-- What stands at the front of what is left: a number alone of 32 bits, for which there is a place.
pub record IsNext (before : List ℕ) (section : Section) (number : ℕ) : Type 0 where
  pub alone : section ≡ whole number
  pub small : number < 2 ^ 32
  pub place : length before < 4

next-is : (given before behind : List ℕ) (section : Section) (number : ℕ) → length given ≤ 4 → All (λ n. n < 2 ^ 32) given → given ≡ before ++ number ∷ behind
    → section ≡ whole number → IsNext before section number
next-is given before behind section number few small all alone =
    let at : get_or given (length before) 0 ≡ number = ap (λ (l : List ℕ). get_or l (length before) 0) all ∙ get_or-append_seam before number behind 0 in
    let len : length given ≡ length before + length (number ∷ behind) = ap length all ∙ length-append before (number ∷ behind) in
    let place : length before < length given = grind (arith, len) in
    record {
      alone = alone;
      small = subst (λ (n : ℕ). n < 2 ^ 32) at (small (length before) 0 place);
      place = omega arith;
    }

-- a section behind which there are others
pub next-more : (given before version text section more : List ℕ) → AreNumbers version given → IsLeft given before text
    → sections text ≡ section_of section ∷ sections more
    → (number : ℕ) × IsNext before (section_of section) number × IsLeft given (before ++ number ∷ []) more
next-more given before version text section more h l e = go l.behind l.all l.alone
  where
    go : (behind : List ℕ) → given ≡ before ++ behind → sections text ≡ map whole behind
        → (number : ℕ) × IsNext before (section_of section) number × IsLeft given (before ++ number ∷ []) more
    go [] all alone = cc
    go (n ∷ ns) all alone =
        let first : section_of section ≡ whole n = cc in
        let rest : sections more ≡ map whole ns = cc in (
          n,
          next-is given before ns (section_of section) n h.few h.small all first,
          record { behind = ns; all = all ∙ sym (append_assoc before (n ∷ []) ns); alone = rest },
        )

-- the last section
pub next-last : (given before version text section : List ℕ) → AreNumbers version given → IsLeft given before text
    → sections text ≡ section_of section ∷ []
    → (number : ℕ) × IsNext before (section_of section) number × (given ≡ before ++ number ∷ [])
next-last given before version text section h l e = go l.behind l.all l.alone
  where
    go : (behind : List ℕ) → given ≡ before ++ behind → sections text ≡ map whole behind
        → (number : ℕ) × IsNext before (section_of section) number × (given ≡ before ++ number ∷ [])
    go [] all alone = cc
    go (n ∷ []) all alone =
        let first : section_of section ≡ whole n = cc in
        (n, next-is given before [] (section_of section) n h.few h.small all first, all)
    go (n ∷ m ∷ ns) all alone = cc

-- what stands next, whether or not there are others behind it
pub next-of : (given before version text section : List ℕ) (more : Option (List ℕ)) → AreNumbers version given → IsLeft given before text
    → MatchOption more (sections text ≡ section_of section ∷ []) (λ behind. sections text ≡ section_of section ∷ sections behind)
    → (number : ℕ) × IsNext before (section_of section) number
next-of given before version text section None h l e = let next = next-last given before version text section h l e in (next.0, next.1)
next-of given before version text section (Some more) h l e = let next = next-more given before version text section more h l e in (next.0, next.1)
