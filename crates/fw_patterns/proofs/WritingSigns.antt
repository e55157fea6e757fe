-- Signs of a text, and the characters that they are.
use Rattle.std.proofs.Common.{◌≡◌, ℕ, ◌+◌, ◌==◌, Bool, true, false, not, if◌then◌else◌, List, [], ◌∷◌, ◌++◌, map, Option, Some, None, refl, ap}
use Rattle.std.proofs.lemmas.Bool.{and_parts, and_from, eqb-true, not-true, not_from_false}
use Rattle.std.specs.Char.{is_ascii_punctuation}
use Rattle.std.specs.List.{list_all}
use Rattle.fw_patterns.specs.Reading.{Stream, is_profile, sign, sign_then, signs}
use Rattle.fw_patterns.specs.Regexes.{Character, is_character, spelled}
use Rattle.fw_patterns.specs.declared.fault.PatternFault.TheVariants.{OutOfProfile, Unclosed}
use Rattle.fw_patterns.specs.declared.signs.Sign.{Sign}
use Rattle.fw_patterns.specs.declared.signs.SignStep.TheVariants.{Backslash, Whole, Bad}

-- the character that a sign is
abbrev pub char_of : Sign → Character
char_of s = record { escaped = s.escaped; byte = s.byte }

abbrev pub character : Bool → ℕ → Character
character escaped byte = record { escaped = escaped; byte = byte }

-- the place behind a character
abbrev pub next : ℕ → Character → ℕ
next at c = if c.escaped then at + 1 + 1 else at + 1

-- characters as signs, from a place on
abbrev pub laid : ℕ → List Character → List Sign
laid at [] = []
laid at (c ∷ more) = sign at c.escaped c.byte ∷ laid (next at c) more

-- the place behind characters
abbrev pub past : ℕ → List Character → ℕ
past at [] = at
past at (c ∷ more) = past (next at c) more

pub laid-append : (at : ℕ) (front back : List Character) → laid at (front ++ back) ≡ laid at front ++ laid (past at front) back
laid-append at [] back = refl
laid-append at (c ∷ front) back = ap (λ (signs : List Sign). sign at c.escaped c.byte ∷ signs) (laid-append (next at c) front back)

-- all of a text is read
abbrev pub whole : List Sign → Stream Sign
whole items = record { items = items; end = None }

-- ---- what is spelled is read

signs-one : (escaped : Bool) (byte at : ℕ) (more : List Character) → is_character (character escaped byte) ≡ true
    → ((after : ℕ) → signs None after (spelled more) ≡ whole (laid after more))
    → signs None at (spelled (character escaped byte ∷ more)) ≡ whole (laid at (character escaped byte ∷ more))
unfolding signs
signs-one true byte at more good rest =
    let punctuation : is_ascii_punctuation byte ≡ true = good in
    rw (punctuation, rest (at + 1 + 1)) refl
signs-one false byte at more good rest =
    let both = and_parts (is_profile byte) (not (byte == 92)) good in
    let other : (byte == 92) ≡ false = not-true (byte == 92) both.1 in
    let printable : is_profile byte ≡ true = both.0 in
    rw (other, printable, rest (at + 1)) refl

pub signs-laid : (at : ℕ) (characters : List Character) → list_all is_character characters ≡ true
    → signs None at (spelled characters) ≡ whole (laid at characters)
unfolding signs
signs-laid at [] good = refl
signs-laid at (c ∷ more) good =
    let both = and_parts (is_character c) (list_all is_character more) good in
    signs-one c.escaped c.byte at more both.0 (λ after. signs-laid after more both.1)

-- ---- what is read is spelled

-- a text is spelled by the characters of signs
pub record Spells (text : List ℕ) (items : List Sign) : Type 0 where
  pub is : text ≡ spelled (map char_of items)
  pub each : list_all is_character (map char_of items) ≡ true

-- the text of a backslash that waits
abbrev pub waiting : Option ℕ → List ℕ
waiting None = []
waiting (Some place) = 92 ∷ []

no_end : {X : Type 0} {P : Type 0} (x : X) → Some x ≡ None → P
no_end x h = cc

spells-by_itself : (slash good : Bool) (b at : ℕ) (rest : List ℕ) (escape plain : Stream Sign) → (b == 92) ≡ slash → is_profile b ≡ good
    → (escape.end ≡ None → Spells (92 ∷ rest) escape.items) → (plain.end ≡ None → Spells rest plain.items)
    → (sign_then (if slash then Backslash else if good then Whole (sign at false b) else Bad (OutOfProfile at)) escape plain).end ≡ None
    → Spells (b ∷ rest) (sign_then (if slash then Backslash else if good then Whole (sign at false b) else Bad (OutOfProfile at)) escape plain).items
spells-by_itself true good b at rest escape plain slash_is good_is more other end = rw (eqb-true b 92 slash_is) (more end)
spells-by_itself false true b at rest escape plain slash_is good_is other more end =
    record {
      is = ap (λ (xs : List ℕ). b ∷ xs) (more end).is;
      each = and_from _ _ (and_from _ _ good_is (not_from_false (b == 92) slash_is)) (more end).each;
    }
spells-by_itself false false b at rest escape plain slash_is good_is other more end = no_end (OutOfProfile at) end

spells-escaped : (good : Bool) (place b : ℕ) (rest : List ℕ) (escape plain : Stream Sign) → is_ascii_punctuation b ≡ good
    → (plain.end ≡ None → Spells rest plain.items)
    → (sign_then (if good then Whole (sign place true b) else Bad (OutOfProfile place)) escape plain).end ≡ None
    → Spells (92 ∷ b ∷ rest) (sign_then (if good then Whole (sign place true b) else Bad (OutOfProfile place)) escape plain).items
spells-escaped true place b rest escape plain good_is more end =
    record { is = ap (λ (xs : List ℕ). 92 ∷ b ∷ xs) (more end).is; each = and_from _ _ good_is (more end).each }
spells-escaped false place b rest escape plain good_is more end = no_end (OutOfProfile place) end

pub signs-spell : (pending : Option ℕ) (at : ℕ) (text : List ℕ) → (signs pending at text).end ≡ None
    → Spells (waiting pending ++ text) (signs pending at text).items
unfolding signs
signs-spell None at [] end = record { is = refl; each = refl }
signs-spell (Some place) at [] end = no_end (Unclosed place) end
signs-spell None at (b ∷ rest) end =
    spells-by_itself (b == 92) (is_profile b) b at rest (signs (Some at) (at + 1) rest) (signs None (at + 1) rest) refl refl
    (signs-spell (Some at) (at + 1) rest) (signs-spell None (at + 1) rest) end
signs-spell (Some place) at (b ∷ rest) end =
    spells-escaped (is_ascii_punctuation b) place b rest (signs (Some at) (at + 1) rest) (signs None (at + 1) rest) refl
    (signs-spell None (at + 1) rest) end
