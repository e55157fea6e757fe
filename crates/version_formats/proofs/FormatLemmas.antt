-- A word names at most one format.
use Rattle.std.proofs.Common.{◌≡◌, zero, suc, eqb, ◌==◌, if◌then◌else◌, ◌++◌, ◌+◌, ◌<◌, ap, ◌∙◌, append_assoc, take, get_or, length, map, decimal, arith, ℕ, false, List, [], ◌∷◌, Option, Some, Result, Ok, Err, refl, sym, find}
use Rattle.std.proofs.lemmas.Bool.{cond_both, ne_eqb, true≢false}
use Rattle.std.proofs.lemmas.List.{take_more, map-append}
use Rattle.std.proofs.lemmas.Slice.Eq.{bytes_eq-Decides}
use Rattle.std.specs.Prelude.{IfSome, OnOk, IsOk}
use Rattle.std.specs.List.{join_with_byte}
use Rattle.std.specs.Str.{bytes_eq}
use Rattle.version_formats.specs.Formats.{format_word, dot, dotted}
use Rattle.version_formats.specs.declared.format.Format.{Format}
use Rattle.version_formats.specs.declared.format.Format.TheVariants.{Plain, Number, Pair, Triplet, Quad, Bcd, DellBios, DellBiosMsb, SurfaceLegacy, Surface, IntelMe, IntelMe2, Hex}

abbrev pub with_word : List ℕ → List Format → Option Format
with_word word formats = find (λ format. bytes_eq (format_word format) word) formats

abbrev pub all_formats : List Format
all_formats =
    Plain ∷ Number ∷ Pair ∷ Triplet ∷ Quad ∷ Bcd ∷ DellBios ∷ DellBiosMsb ∷ SurfaceLegacy ∷ Surface ∷ IntelMe ∷ IntelMe2 ∷ Hex ∷ []

-- among all formats, the one that a format's word names is that format
pub with_word-own : (format : Format) → with_word (format_word format) all_formats ≡ Some format
unfolding format_word
with_word-own Plain = refl
with_word-own _ = refl

-- a format that is found has the word
pub with_word-has_it : (word : List ℕ) (formats : List Format) → IfSome (with_word word formats) (λ format. word ≡ format_word format)
with_word-has_it word [] = tt
with_word-has_it word (format ∷ formats) =
    cond_both (bytes_eq (format_word format) word) (Some format) (with_word word formats)
    (λ answer. IfSome answer (λ found. word ≡ format_word found))
    (λ same. sym ((bytes_eq-Decides (format_word format) word).0 same))
    (λ other. with_word-has_it word formats)

-- ---- numbers with dots between them

-- one more part at the end
join_more : (c : ℕ) (first : List ℕ) (parts : List (List ℕ)) (part : List ℕ)
    → join_with_byte c (first ∷ parts ++ part ∷ []) ≡ join_with_byte c (first ∷ parts) ++ c ∷ part
join_more c first [] part = refl
join_more c first (second ∷ parts) part =
    let rest = join_with_byte c (second ∷ parts) in
    ap (λ (xs : List ℕ). first ++ (c ∷ xs)) (join_more c second parts part) ∙ sym (append_assoc first (c ∷ rest) (c ∷ part))

-- what stands in front of the number at a place
abbrev pub separator : ℕ → List ℕ
separator place = if place == 0 then [] else dot ∷ []

pub dotted_more : (numbers : List ℕ) (i : ℕ) → i < length numbers
    → dotted (take (i + 1) numbers) ≡ dotted (take i numbers) ++ separator i ++ decimal (get_or numbers i 0)
dotted_more [] i h = absurd (omega arith)
dotted_more (number ∷ numbers) zero h = refl
dotted_more (number ∷ numbers) (suc i) h =
    let next = get_or numbers i 0 in
    let before = dotted (number ∷ take i numbers) in
    let later : eqb (suc i) 0 ≡ false = ne_eqb (suc i) 0 (λ e. absurd (omega arith)) in
    ap dotted (take_more (number ∷ numbers) (suc i) 0 h)
    ∙ ap (join_with_byte dot) (map-append decimal (number ∷ take i numbers) (next ∷ []))
    ∙ join_more dot (decimal number) (map decimal (take i numbers)) (decimal next)
    ∙ sym (append_assoc before (dot ∷ []) (decimal next))
    ∙ rw later refl

-- what holds of an `Ok`, of a result that is one
pub written_if_fits : {A E : Type 0} (answer : Result A E) (P : Type 0) → OnOk answer P → IsOk answer → P
written_if_fits (Ok x) P holds ok = holds
written_if_fits (Err e) P holds ok = absurd (true≢false (sym ok))
