-- The places decide the pattern relation.
use Rattle.std.proofs.Common.{◌≡◌, ℕ, suc, Bool, true, false, ◌&&◌, ◌||◌, not, List, [], ◌∷◌, ◌++◌, length, refl, sym, ap, arith, ◌∙◌, ⊎_elim, append_assoc}
use Rattle.std.proofs.lemmas.Bool.{and_parts, and_from, or_cases, or_left, or_right, true≢false, not-true}
use Rattle.std.proofs.lemmas.List.Folds.{Any-from_list_any, list_any-from_Any}
use Rattle.std.specs.List.{list_all}
use Rattle.std.specs.Prelude.{◌↔◌, IsTrue}
use Rattle.fw_patterns.specs.Places.{at_byte, branch_at, end_at, may_be_none, piece_at, pieces_at, some_branch}
use Rattle.fw_patterns.specs.Relation.{Follow, InBranch, InPattern, Stands, Times, stands_for}
use Rattle.fw_patterns.specs.declared.syntax.Atom.{Atom}
use Rattle.fw_patterns.specs.declared.syntax.Branch.{Branch}
use Rattle.fw_patterns.specs.declared.syntax.Piece.{Piece}
use Rattle.fw_patterns.specs.declared.syntax.Repeat.{Repeat}
use Rattle.fw_patterns.specs.declared.syntax.Repeat.TheVariants.{Once, AnyTimes, SomeTimes, AtMostOnce}

-- a text is cut into a part that a piece stands for, and a rest
pub record Cut (piece : Piece) (Rest : List ℕ → Type 0) (text : List ℕ) : Type 0 where
  pub part : List ℕ
  pub rest : List ℕ
  pub cut : text ≡ part ++ rest
  pub stands : Stands piece part
  pub holds : Rest rest

module _ (atom : Atom) (Rest : List ℕ → Type 0) where
  abbrev with_repeat : Repeat → Piece
  with_repeat repeat = record { atom = atom; repeat = repeat }

  cut-none : (repeat : Repeat) (text : List ℕ) → Times repeat 0 → Rest text → Cut (with_repeat repeat) Rest text
  cut-none repeat text times holds =
      record { part = []; rest = text; cut = refl; stands = record { bytes = refl; times = times }; holds = holds }

  cut-once : (repeat : Repeat) (b : ℕ) (left : List ℕ) → Times repeat 1 → stands_for atom b ≡ true → Rest left
      → Cut (with_repeat repeat) Rest (b ∷ left)
  cut-once repeat b left times stands holds =
      record { part = b ∷ []; rest = left; cut = refl; stands = record { bytes = and_from _ _ stands refl; times = times }; holds = holds }

  cut-again : (repeat : Repeat) (b : ℕ) (left : List ℕ) → ((n : ℕ) → Times repeat n → Times repeat (suc n)) → stands_for atom b ≡ true
      → Cut (with_repeat repeat) Rest left → Cut (with_repeat repeat) Rest (b ∷ left)
  cut-again repeat b left more stands cut =
      record {
        part = b ∷ cut.part;
        rest = cut.rest;
        cut = ap (λ (xs : List ℕ). b ∷ xs) cut.cut;
        stands = record { bytes = and_from _ _ stands cut.stands.bytes; times = more (length cut.part) cut.stands.times };
        holds = cut.holds;
      }

  module _ (follows : List ℕ → Bool) (good : (text : List ℕ) → follows text ≡ true → Rest text) where
    cut-at_byte : (repeat : Repeat) (b : ℕ) (left : List ℕ) (again : Bool) → (again ≡ true → Cut (with_repeat repeat) Rest left)
        → at_byte repeat (stands_for atom b) again (follows left) (follows (b ∷ left)) ≡ true → Cut (with_repeat repeat) Rest (b ∷ left)
    cut-at_byte Once b left again more h =
        let both = and_parts (stands_for atom b) (follows left) h in
        cut-once Once b left refl both.0 (good left both.1)
    cut-at_byte AnyTimes b left again more h = ⊎_elim
        (λ skipped. cut-none AnyTimes (b ∷ left) tt (good (b ∷ left) skipped))
        (λ stands.
        let both = and_parts (stands_for atom b) again stands in
        cut-again AnyTimes b left (λ n t. tt) both.0 (more both.1))
        (or_cases (follows (b ∷ left)) (stands_for atom b && again) h)
    cut-at_byte SomeTimes b left again more h =
        let both = and_parts (stands_for atom b) (again || follows left) h in
        ⊎_elim
        (λ on. cut-again SomeTimes b left (λ n t. omega arith) both.0 (more on))
        (λ behind. cut-once SomeTimes b left (omega arith) both.0 (good left behind))
        (or_cases again (follows left) both.1)
    cut-at_byte AtMostOnce b left again more h = ⊎_elim
        (λ skipped. cut-none AtMostOnce (b ∷ left) (omega arith) (good (b ∷ left) skipped))
        (λ stands.
        let both = and_parts (stands_for atom b) (follows left) stands in
        cut-once AtMostOnce b left (omega arith) both.0 (good left both.1))
        (or_cases (follows (b ∷ left)) (stands_for atom b && follows left) h)

    cut-at_end : (repeat : Repeat) → (may_be_none repeat && follows []) ≡ true → Cut (with_repeat repeat) Rest []
    cut-at_end Once h = absurd (true≢false (sym h))
    cut-at_end AnyTimes h = cut-none AnyTimes [] tt (good [] h)
    cut-at_end SomeTimes h = absurd (true≢false (sym h))
    cut-at_end AtMostOnce h = cut-none AtMostOnce [] (omega arith) (good [] h)

    cut-from_piece_at : (repeat : Repeat) (text : List ℕ) → piece_at (with_repeat repeat) follows text ≡ true → Cut (with_repeat repeat) Rest text
    cut-from_piece_at repeat [] h = cut-at_end repeat h
    cut-from_piece_at repeat (b ∷ left) h = cut-at_byte repeat b left (piece_at (with_repeat repeat) follows left) (cut-from_piece_at repeat left) h

-- ---- back

module _ (atom : Atom) (follows : List ℕ → Bool) where
  abbrev repeated : Repeat → Piece
  repeated repeat = record { atom = atom; repeat = repeat }

  -- nothing of the text is the piece's part
  piece_at-none : (repeat : Repeat) (text : List ℕ) → Times repeat 0 → follows text ≡ true → piece_at (repeated repeat) follows text ≡ true
  piece_at-none Once text t h = absurd (omega (arith, t))
  piece_at-none AnyTimes [] t h = h
  piece_at-none AnyTimes (b ∷ left) t h = or_left (follows (b ∷ left)) _ h
  piece_at-none SomeTimes text t h = absurd (omega (arith, t))
  piece_at-none AtMostOnce [] t h = h
  piece_at-none AtMostOnce (b ∷ left) t h = or_left (follows (b ∷ left)) _ h

  -- the first byte of the part, and the rest of it
  piece_at-byte : (repeat : Repeat) (b : ℕ) (part rest : List ℕ) → Times repeat (suc (length part)) → stands_for atom b ≡ true
      → follows rest ≡ true → (Times repeat (length part) → piece_at (repeated repeat) follows (part ++ rest) ≡ true)
      → piece_at (repeated repeat) follows (b ∷ part ++ rest) ≡ true
  piece_at-byte Once b [] rest t stands h more = and_from _ _ stands h
  piece_at-byte Once b (c ∷ part) rest t stands h more = absurd (omega (arith, t))
  piece_at-byte AnyTimes b part rest t stands h more = or_right _ _ (and_from _ _ stands (more tt))
  piece_at-byte SomeTimes b [] rest t stands h more = and_from _ _ stands (or_right _ _ h)
  piece_at-byte SomeTimes b (c ∷ part) rest t stands h more = and_from _ _ stands (or_left _ _ (more (omega arith)))
  piece_at-byte AtMostOnce b [] rest t stands h more = or_right _ _ (and_from _ _ stands h)
  piece_at-byte AtMostOnce b (c ∷ part) rest t stands h more = absurd (omega (arith, t))

  piece_at-part : (repeat : Repeat) (part rest : List ℕ) → list_all (stands_for atom) part ≡ true → Times repeat (length part)
      → follows rest ≡ true → piece_at (repeated repeat) follows (part ++ rest) ≡ true
  piece_at-part repeat [] rest all t h = piece_at-none repeat rest t h
  piece_at-part repeat (b ∷ part) rest all t h =
      let both = and_parts (stands_for atom b) (list_all (stands_for atom) part) all in
      piece_at-byte repeat b part rest t both.0 h (λ fewer. piece_at-part repeat part rest both.1 fewer h)

-- ---- pieces

-- pieces stand for a part at a text's start, and for all of it where they are tied to its end
pub record Begin (to_end : Bool) (pieces : List Piece) (text : List ℕ) : Type 0 where
  pub part : List ℕ
  pub after : List ℕ
  pub cut : text ≡ part ++ after
  pub follow : Follow pieces part
  pub ends : to_end ≡ true → after ≡ []

end-from_end_at : (to_end : Bool) (text : List ℕ) → end_at to_end text ≡ true → to_end ≡ true → text ≡ []
end-from_end_at to_end [] h tied = refl
end-from_end_at true (b ∷ text) h tied = absurd (true≢false (sym h))
end-from_end_at false (b ∷ text) h tied = absurd (true≢false (sym tied))

end_at-from_end : (to_end : Bool) (text : List ℕ) → (to_end ≡ true → text ≡ []) → end_at to_end text ≡ true
end_at-from_end to_end [] h = refl
end_at-from_end true (b ∷ text) h = absurd (omega (arith, ap length (h refl)))
end_at-from_end false (b ∷ text) h = refl

begin-from_cut : (to_end : Bool) (piece : Piece) (pieces : List Piece) (text : List ℕ) → Cut piece (Begin to_end pieces) text
    → Begin to_end (piece ∷ pieces) text
begin-from_cut to_end piece pieces text c =
    record {
      part = c.part ++ c.holds.part;
      after = c.holds.after;
      cut = c.cut ∙ ap (λ (xs : List ℕ). c.part ++ xs) c.holds.cut ∙ sym (append_assoc c.part c.holds.part c.holds.after);
      follow = (c.part, c.holds.part, refl, c.stands, c.holds.follow);
      ends = c.holds.ends;
    }

begin-from_pieces_at : (to_end : Bool) (pieces : List Piece) (text : List ℕ) → pieces_at to_end pieces text ≡ true → Begin to_end pieces text
begin-from_pieces_at to_end [] text h =
    record { part = []; after = text; cut = refl; follow = refl; ends = end-from_end_at to_end text h }
begin-from_pieces_at to_end (piece ∷ pieces) text h =
    begin-from_cut to_end piece pieces text
    (cut-from_piece_at piece.atom (Begin to_end pieces) (pieces_at to_end pieces) (begin-from_pieces_at to_end pieces) piece.repeat text h)

pieces_at-part : (to_end : Bool) (pieces : List Piece) (part after : List ℕ) → Follow pieces part → (to_end ≡ true → after ≡ [])
    → pieces_at to_end pieces (part ++ after) ≡ true
pieces_at-part to_end [] part after follow ends = rw follow (end_at-from_end to_end after ends)
pieces_at-part to_end (piece ∷ pieces) part after follow ends =
    let first = follow.0 in
    let rest = follow.1 in
    let stands : Stands piece first = follow.3 in
    rw (follow.2, append_assoc first rest after)
    (piece_at-part piece.atom (pieces_at to_end pieces) piece.repeat first (rest ++ after) stands.bytes stands.times
    (pieces_at-part to_end pieces rest after follow.4 ends))

-- ---- branches

branch-from_begin : (branch : Branch) (text : List ℕ) → Begin branch.to_end branch.pieces text → InBranch branch text
branch-from_begin branch text b =
    record { before = []; part = b.part; after = b.after; cut = b.cut; follow = b.follow; starts = λ tied. refl; ends = b.ends }

branch-behind : (branch : Branch) (b : ℕ) (text : List ℕ) → branch.from_start ≡ false → InBranch branch text → InBranch branch (b ∷ text)
branch-behind branch b text free i =
    record {
      before = b ∷ i.before;
      part = i.part;
      after = i.after;
      cut = ap (λ (xs : List ℕ). b ∷ xs) i.cut;
      follow = i.follow;
      starts = λ tied. absurd (true≢false (sym tied ∙ free));
      ends = i.ends;
    }

not-from_free : (tied : Bool) → (tied ≡ true → ⊥) → not tied ≡ true
not-from_free true h = absurd (h refl)
not-from_free false h = refl

branch-from_branch_at : (branch : Branch) (text : List ℕ) → branch_at branch text ≡ true → InBranch branch text
branch-from_branch_at branch [] h = branch-from_begin branch [] (begin-from_pieces_at branch.to_end branch.pieces [] h)
branch-from_branch_at branch (b ∷ text) h = ⊎_elim
    (λ here. branch-from_begin branch (b ∷ text) (begin-from_pieces_at branch.to_end branch.pieces (b ∷ text) here))
    (λ later.
    let both = and_parts (not branch.from_start) (branch_at branch text) later in
    branch-behind branch b text (not-true branch.from_start both.0) (branch-from_branch_at branch text both.1))
    (or_cases (pieces_at branch.to_end branch.pieces (b ∷ text)) (not branch.from_start && branch_at branch text) h)

branch_at-here : (branch : Branch) (text : List ℕ) → pieces_at branch.to_end branch.pieces text ≡ true → branch_at branch text ≡ true
branch_at-here branch [] h = h
branch_at-here branch (b ∷ text) h = or_left _ _ h

branch_at-before : (branch : Branch) (before text : List ℕ) → (branch.from_start ≡ true → before ≡ [])
    → pieces_at branch.to_end branch.pieces text ≡ true → branch_at branch (before ++ text) ≡ true
branch_at-before branch [] text starts h = branch_at-here branch text h
branch_at-before branch (b ∷ before) text starts h =
    let tied : branch.from_start ≡ true → ⊥ = λ t. absurd (omega (arith, ap length (starts t))) in
    or_right _ _ (and_from _ _ (not-from_free branch.from_start tied)
    (branch_at-before branch before text (λ t. absurd (tied t)) h))

branch_at-from_branch : (branch : Branch) (text : List ℕ) → InBranch branch text → branch_at branch text ≡ true
branch_at-from_branch branch text i =
    rw (i.cut, append_assoc i.before i.part i.after) (branch_at-before branch i.before (i.part ++ i.after) i.starts
    (pieces_at-part branch.to_end branch.pieces i.part i.after i.follow i.ends))

-- an answer whether some branch stands for a text decides the relation
pub some_branch-decides : (answer : Bool) (pattern : List Branch) (text : List ℕ) → answer ≡ some_branch pattern text
    → IsTrue answer ↔ InPattern pattern text
some_branch-decides answer pattern text is = (
  λ yes.
      let some = Any-from_list_any (λ branch. branch_at branch text) pattern (sym is ∙ yes) in
      (some.0, some.1, some.2, some.3, branch-from_branch_at some.1 text some.4),
  λ some. is ∙ list_any-from_Any (λ branch. branch_at branch text) pattern
      (some.0, some.1, some.2, some.3, branch_at-from_branch some.1 text some.4),
)
