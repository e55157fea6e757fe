-- The order of versions is total, and equal versions have equal sections.
use Rattle.std.proofs.Common.{◌≡◌, ℕ, true, List, [], ◌∷◌, map, Ordering, refl, sym, ap, ◌∙◌, arith}
use Rattle.std.proofs.lemmas.Bool.Decides.{nat_tests}
use Rattle.std.proofs.lemmas.Cmp.{on_total, then_total, lists_total, nat_cmp_total, tied_itself, alike_right}
use Rattle.std.proofs.lemmas.List.{append_cancel_right}
use Rattle.std.specs.Cmp.{IsTotalOrder}
use Rattle.std.specs.Cmp.Lexicographic.{slice_cmp}
use Rattle.std.specs.Ordering.{nat_cmp, is_le, ordering_then, ordering_reverse}
use Rattle.std.specs.declared.cmp.Ordering.TheVariants.{Less, Equal, Greater}
use Rattle.version_formats.specs.VersionOrder.{Section, sections, section_cmp, rest_cmp, ranks, byte_rank, end_rank, version_cmp}

-- ---- a total order

rest_cmp-total : IsTotalOrder rest_cmp
rest_cmp-total = on_total ranks (lists_total nat_cmp_total)

section_cmp-total : IsTotalOrder section_cmp
section_cmp-total = then_total (on_total (λ (s : Section). s.number) nat_cmp_total) (on_total (λ (s : Section). s.rest) rest_cmp-total)

pub version_cmp-total : IsTotalOrder version_cmp
unfolding version_cmp
version_cmp-total = on_total sections (lists_total section_cmp-total)

pub version_cmp-reflexive : (a : List ℕ) → version_cmp a a ≡ Equal
version_cmp-reflexive a = tied_itself version_cmp-total a

pub version_cmp-back : (a b : List ℕ) → version_cmp b a ≡ ordering_reverse (version_cmp a b)
version_cmp-back a b = version_cmp-total.antisymm b a

pub version_cmp-transitive : (a b c : List ℕ) → is_le (version_cmp a b) ≡ true → is_le (version_cmp b c) ≡ true → is_le (version_cmp a c) ≡ true
version_cmp-transitive a b c first second = go (version_cmp a b) refl first second
  where
    below : version_cmp a b ≡ Less → (o : Ordering) → version_cmp b c ≡ o → is_le o ≡ true → is_le (version_cmp a c) ≡ true
    below e Less f h = ap is_le (version_cmp-total.trans a b c e f)
    below e Equal f h = ap is_le (sym (alike_right version_cmp-total b c a f) ∙ e)
    below e Greater f h = cc

    go : (o : Ordering) → version_cmp a b ≡ o → is_le o ≡ true → is_le (version_cmp b c) ≡ true → is_le (version_cmp a c) ≡ true
    go Less e _ h = below e (version_cmp b c) refl h
    go Equal e _ h = ap is_le (version_cmp-total.congr a b c e) ∙ h
    go Greater e f h = cc

-- ---- equal versions

both_equal : (o p : Ordering) → ordering_then o p ≡ Equal → (o ≡ Equal) × (p ≡ Equal)
both_equal Less p e = cc
both_equal Equal p e = (refl, e)
both_equal Greater p e = cc

-- lists whose elements are equal one by one
slice_cmp-equal : {X : Type 0} (R : X → X → Ordering) → ((x y : X) → R x y ≡ Equal → x ≡ y) → (xs ys : List X) → slice_cmp R xs ys ≡ Equal → xs ≡ ys
slice_cmp-equal R same [] [] h = refl
slice_cmp-equal R same [] (y ∷ ys) h = cc
slice_cmp-equal R same (x ∷ xs) [] h = cc
slice_cmp-equal R same (x ∷ xs) (y ∷ ys) h =
    let parts = both_equal (R x y) (slice_cmp R xs ys) h in
    ap (λ z. z ∷ xs) (same x y parts.0) ∙ ap (λ zs. y ∷ zs) (slice_cmp-equal R same xs ys parts.1)

nat_cmp-same : (x y : ℕ) → nat_cmp x y ≡ Equal → x ≡ y
nat_cmp-same x y h = grind (arith, nat_tests)

byte_rank-injective : (a b : ℕ) → byte_rank a ≡ byte_rank b → a ≡ b
byte_rank-injective a b h = grind (arith, nat_tests)

ranks-injective : (left right : List ℕ) → map byte_rank left ≡ map byte_rank right → left ≡ right
ranks-injective [] [] h = refl
ranks-injective [] (b ∷ bs) h = cc
ranks-injective (a ∷ more) [] h = cc
ranks-injective (a ∷ more) (b ∷ bs) h =
    let first : byte_rank a ≡ byte_rank b = cc in
    let behind : map byte_rank more ≡ map byte_rank bs = cc in
    ap (λ (x : ℕ). x ∷ more) (byte_rank-injective a b first) ∙ ap (λ (xs : List ℕ). b ∷ xs) (ranks-injective more bs behind)

rest_cmp-same : (left right : List ℕ) → rest_cmp left right ≡ Equal → left ≡ right
rest_cmp-same left right h =
    ranks-injective left right
    (append_cancel_right (map byte_rank left) (map byte_rank right) (end_rank ∷ []) (slice_cmp-equal nat_cmp nat_cmp-same (ranks left) (ranks right) h))

abbrev section : ℕ → List ℕ → Section
section number rest = record { number = number; rest = rest }

section_cmp-same : (left right : Section) → section_cmp left right ≡ Equal → left ≡ right
section_cmp-same left right h =
    let parts = both_equal (nat_cmp left.number right.number) (rest_cmp left.rest right.rest) h in
    ap (λ (n : ℕ). section n left.rest) (nat_cmp-same left.number right.number parts.0)
    ∙ ap (section right.number) (rest_cmp-same left.rest right.rest parts.1)

pub sections-same : (left right : List ℕ) → version_cmp left right ≡ Equal → sections left ≡ sections right
unfolding version_cmp
sections-same left right h = slice_cmp-equal section_cmp section_cmp-same (sections left) (sections right) h

pub version_cmp-equal : (left right : List ℕ) → sections left ≡ sections right → version_cmp left right ≡ Equal
unfolding version_cmp
version_cmp-equal left right h =
    ap (λ (s : List Section). slice_cmp section_cmp (sections left) s) (sym h) ∙ version_cmp-reflexive left
