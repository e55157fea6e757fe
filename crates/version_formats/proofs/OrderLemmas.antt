-- What the comparison in place rests on.
use Rattle.std.proofs.Common.{◌≡◌, ℕ, ◌+◌, ◌<◌, ◌≤◌, ◌==◌, Bool, true, false, List, [], ◌∷◌, length, map, take, drop, Option, Some, None, unwrap_or, cond, nat_lt, Ordering, refl, sym, ap, ◌∙◌, inl, inr, arith, position}
use Rattle.std.proofs.lemmas.Bool.{cases_Bool, ltb-true, ltb-false}
use Rattle.std.proofs.lemmas.List.{get_or-take, length-take}
use Rattle.std.proofs.lemmas.List.Splits.{slice_split_first, slice_split_none, slice_split-cons_yes, slice_split-cons_no}
use Rattle.std.proofs.lemmas.List.Sums.{fails_before_first, prefix_len-le-length, prefix_len_passes}
use Rattle.std.specs.List.{slice_split, onto_first, position_or_len, prefix_len, AllPass, take_while}
use Rattle.std.specs.Ordering.{ordering_then}
use Rattle.std.specs.Option.{MatchOption}
use Rattle.std.specs.declared.cmp.Ordering.TheVariants.{Less, Equal, Greater}
use Rattle.version_formats.specs.Formats.{dot}
use Rattle.version_formats.specs.VersionOrder.{Section, section_of, section_cmp, sections, version_cmp}

abbrev is_dot : ℕ → Bool
is_dot b = b == dot

-- ---- the first section

position_tells : (p : ℕ → Bool) (text : List ℕ) (at : ℕ) → position p text ≡ Some at → (position_or_len p text < length text) × (at ≡ position_or_len p text)
position_tells p text at found = go (nat_lt (position_or_len p text) (length text)) refl found
  where
    go : (within : Bool) → nat_lt (position_or_len p text) (length text) ≡ within → cond within (Some (position_or_len p text)) None ≡ Some at
        → (position_or_len p text < length text) × (at ≡ position_or_len p text)
    go true e f = (ltb-true (position_or_len p text) (length text) e, ap (λ (o : Option ℕ). unwrap_or o 0) (sym f))
    go false e f = cc

position_none : (p : ℕ → Bool) (text : List ℕ) → position p text ≡ None → length text ≤ position_or_len p text
position_none p text absent = go (nat_lt (position_or_len p text) (length text)) refl absent
  where
    go : (within : Bool) → nat_lt (position_or_len p text) (length text) ≡ within → cond within (Some (position_or_len p text)) None ≡ None
        → length text ≤ position_or_len p text
    go true e f = cc
    go false e f = ltb-false (position_or_len p text) (length text) e

pub sections_at_dot : (text : List ℕ) (at : ℕ) → position is_dot text ≡ Some at
    → sections text ≡ section_of (take at text) ∷ sections (drop (at + 1) text)
unfolding sections
sections_at_dot text at found =
    let first = position_tells is_dot text at found in
    rw first.1 (ap (map section_of) (slice_split_first is_dot text 0 first.0))

pub sections_no_dot : (text : List ℕ) → position is_dot text ≡ None → sections text ≡ section_of text ∷ []
unfolding sections
sections_no_dot text absent =
    let all = position_none is_dot text absent in
    ap (map section_of) (slice_split_none is_dot text (λ k d h. fails_before_first is_dot text k d (omega arith)))

-- ---- the digits of a section

pub take_while-passes : (p : ℕ → Bool) (text : List ℕ) → AllPass p (take_while p text)
take_while-passes p text k d h =
    let short : k < prefix_len p text = omega (arith, prefix_len-le-length p text, length-take (prefix_len p text) text) in
    rw (get_or-take (prefix_len p text) text k d short) (prefix_len_passes p text k d short)

-- ---- versions by their first sections

-- the first section of a text, and the text behind it
abbrev pub Begins : List ℕ → List ℕ → Option (List ℕ) → Type 0
Begins text first more =
    MatchOption more (sections text ≡ section_of first ∷ []) (λ behind. sections text ≡ section_of first ∷ sections behind)

-- how what stands behind two sections compares
abbrev pub more_cmp : Option (List ℕ) → Option (List ℕ) → Ordering
more_cmp None None = Equal
more_cmp None (Some right) = Less
more_cmp (Some left) None = Greater
more_cmp (Some left) (Some right) = version_cmp left right

parts-nonempty : (text : List ℕ) → (first : List ℕ) × (more : List (List ℕ)) × (slice_split is_dot text ≡ first ∷ more)
parts-nonempty [] = ([], [], refl)
parts-nonempty (c ∷ cs) =
    let behind = parts-nonempty cs in
    elim (cases_Bool (is_dot c)) [
      | inl at_dot ↦ ([], slice_split is_dot cs, slice_split-cons_yes is_dot c cs at_dot)
      | inr other ↦ (c ∷ behind.0, behind.1, slice_split-cons_no is_dot c cs other ∙ ap (onto_first c) behind.2)
    ]

sections-nonempty : (text : List ℕ) → (first : Section) × (more : List Section) × (sections text ≡ first ∷ more)
unfolding sections
sections-nonempty text =
    let parts = parts-nonempty text in
    (section_of parts.0, map section_of parts.1, ap (map section_of) parts.2)

pub version_cmp-first : (left right first second : List ℕ) (left_more right_more : Option (List ℕ)) → Begins left first left_more
    → Begins right second right_more
    → version_cmp left right ≡ ordering_then (section_cmp (section_of first) (section_of second)) (more_cmp left_more right_more)
unfolding version_cmp
version_cmp-first left right first second None None l r = rw (l, r) refl
version_cmp-first left right first second None (Some more) l r = rw (l, r, (sections-nonempty more).2) refl
version_cmp-first left right first second (Some more) None l r = rw (l, r, (sections-nonempty more).2) refl
version_cmp-first left right first second (Some left_more) (Some right_more) l r = rw (l, r) refl

-- where the first sections differ, they decide
pub version_cmp-differing : (left right first second : List ℕ) (left_more right_more : Option (List ℕ)) → Begins left first left_more
    → Begins right second right_more → (section_cmp (section_of first) (section_of second) ≡ Equal → ⊥)
    → version_cmp left right ≡ section_cmp (section_of first) (section_of second)
version_cmp-differing left right first second left_more right_more l r differ =
    version_cmp-first left right first second left_more right_more l r ∙ decided (section_cmp (section_of first) (section_of second)) differ
  where
    decided : (o : Ordering) → (o ≡ Equal → ⊥) → ordering_then o (more_cmp left_more right_more) ≡ o
    decided Less h = refl
    decided Equal h = absurd (h refl)
    decided Greater h = refl

-- and else what stands behind them
pub version_cmp-behind : (left right first second : List ℕ) (left_more right_more : Option (List ℕ)) → Begins left first left_more
    → Begins right second right_more → section_cmp (section_of first) (section_of second) ≡ Equal
    → version_cmp left right ≡ more_cmp left_more right_more
version_cmp-behind left right first second left_more right_more l r equal =
    version_cmp-first left right first second left_more right_more l r ∙ ap (λ (o : Ordering). ordering_then o (more_cmp left_more right_more)) equal
