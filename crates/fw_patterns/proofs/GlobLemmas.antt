-- A glob's pattern stands for the texts that the glob stands for.
use Rattle.std.proofs.Common.{◌≡◌, ℕ, ◌==◌, Bool, true, false, if◌then◌else◌, List, [], ◌∷◌, ◌++◌, length, map, refl, sym, ap, subst, arith, ◌∙◌, append-nil}
use Rattle.std.proofs.lemmas.Bool.{and_parts, and_from, eqb-true, eq-eqb}
use Rattle.std.specs.List.{list_all}
use Rattle.std.specs.Prelude.{◌↔◌, Any, MatchBool}
use Rattle.fw_patterns.specs.Reading.{branch, glob_pattern, glob_piece}
use Rattle.fw_patterns.specs.Relation.{Follow, InBranch, InGlob, InPattern, Stands, stands_for}
use Rattle.fw_patterns.specs.declared.syntax.Atom.TheVariants.{Any as AnyByte, Byte}
use Rattle.fw_patterns.specs.declared.syntax.Branch.{Branch}
use Rattle.fw_patterns.specs.declared.syntax.Piece.{Piece}
use Rattle.fw_patterns.specs.declared.syntax.Repeat.TheVariants.{Once, AnyTimes}

-- what a byte of a glob stands for, by whether it is `*` or `?`
abbrev piece_by : Bool → Bool → ℕ → Piece
piece_by star mark b =
    if star then record { atom = AnyByte; repeat = AnyTimes }
    else if mark then record { atom = AnyByte; repeat = Once }
    else record { atom = Byte b; repeat = Once }

abbrev InGlob_by : Bool → Bool → ℕ → List ℕ → List ℕ → Type 0
InGlob_by star mark b more text =
    MatchBool star
    ((part : List ℕ) × (rest : List ℕ) × (text ≡ part ++ rest) × InGlob more rest)
    (MatchBool mark
    ((c : ℕ) × (rest : List ℕ) × (text ≡ c ∷ rest) × InGlob more rest)
    ((rest : List ℕ) × (text ≡ b ∷ rest) × InGlob more rest))

any_byte : (part : List ℕ) → list_all (stands_for AnyByte) part ≡ true
any_byte [] = refl
any_byte (b ∷ part) = any_byte part

one_byte : (part : List ℕ) → length part ≡ 1 → (c : ℕ) × (part ≡ c ∷ [])
one_byte [] h = absurd (omega (arith, h))
one_byte (c ∷ []) h = (c, refl)
one_byte (c ∷ d ∷ part) h = absurd (omega (arith, h))

module _ (b : ℕ) (more text : List ℕ) where
  in_glob-by : (star mark : Bool) → ((rest : List ℕ) → Follow (map glob_piece more) rest → InGlob more rest)
      → Follow (piece_by star mark b ∷ map glob_piece more) text → InGlob_by star mark b more text
  in_glob-by true mark rest_in f = (f.0, f.1, f.2, rest_in f.1 f.4)
  in_glob-by false true rest_in f =
      let stands : Stands (piece_by false true b) f.0 = f.3 in
      let one = one_byte f.0 stands.times in
      (one.0, f.1, f.2 ∙ ap (λ (xs : List ℕ). xs ++ f.1) one.1, rest_in f.1 f.4)
  in_glob-by false false rest_in f =
      let stands : Stands (piece_by false false b) f.0 = f.3 in
      let one = one_byte f.0 stands.times in
      let same : (one.0 == b) ≡ true = (and_parts _ _ (rw one.1 at stands.bytes)).0 in
      (f.1, f.2 ∙ ap (λ (xs : List ℕ). xs ++ f.1) (one.1 ∙ ap (λ n. n ∷ []) (eqb-true one.0 b same)), rest_in f.1 f.4)

  follow-by : (star mark : Bool) → ((rest : List ℕ) → InGlob more rest → Follow (map glob_piece more) rest)
      → InGlob_by star mark b more text → Follow (piece_by star mark b ∷ map glob_piece more) text
  follow-by true mark rest_in g = (g.0, g.1, g.2, record { bytes = any_byte g.0; times = tt }, rest_in g.1 g.3)
  follow-by false true rest_in g = (g.0 ∷ [], g.1, g.2, record { bytes = refl; times = refl }, rest_in g.1 g.3)
  follow-by false false rest_in g =
      (b ∷ [], g.0, g.1, record { bytes = and_from _ _ (eq-eqb b b refl) refl; times = refl }, rest_in g.0 g.2)

in_glob-from_follow : (glob text : List ℕ) → Follow (map glob_piece glob) text → InGlob glob text
in_glob-from_follow [] text f = f
in_glob-from_follow (b ∷ more) text f = in_glob-by b more text (b == 42) (b == 63) (in_glob-from_follow more) f

follow-from_in_glob : (glob text : List ℕ) → InGlob glob text → Follow (map glob_piece glob) text
follow-from_in_glob [] text g = g
follow-from_in_glob (b ∷ more) text g = follow-by b more text (b == 42) (b == 63) (follow-from_in_glob more) g

-- a branch that is tied to both ends stands for a text where its pieces stand for all of it
follow-whole : (pieces : List Piece) (text : List ℕ) → InBranch (branch true true pieces) text → Follow pieces text
follow-whole pieces text i =
    let cut : text ≡ i.part = i.cut ∙ rw (i.starts refl, i.ends refl) (append-nil i.part) in
    rw cut i.follow

branch-whole : (pieces : List Piece) (text : List ℕ) → Follow pieces text → InBranch (branch true true pieces) text
branch-whole pieces text f =
    record { before = []; part = text; after = []; cut = sym (append-nil text); follow = f; starts = λ t. refl; ends = λ t. refl }

only : (P : Branch → Type 0) (b : Branch) → Any P (b ∷ []) → P b
only P b some =
    let first : some.0 ≡ 0 = omega (arith, some.2) in
    subst P (sym (rw first at some.3)) some.4

pub glob-stands : (glob : List ℕ) (pattern : List Branch) (text : List ℕ) → pattern ≡ glob_pattern glob
    → InPattern pattern text ↔ InGlob glob text
glob-stands glob pattern text is =
    let tied = branch true true (map glob_piece glob) in
    rw is (
      λ some. in_glob-from_follow glob text (follow-whole (map glob_piece glob) text (only (λ b. InBranch b text) tied some)),
      λ g. (0, tied, omega arith, refl, branch-whole (map glob_piece glob) text (follow-from_in_glob glob text g)),
    )
