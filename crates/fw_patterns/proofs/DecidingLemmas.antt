-- Trying every cut decides the pattern relation.
use Rattle.std.proofs.Common.{◌≡◌, ℕ, ◌==◌, Bool, true, false, ◌&&◌, ◌||◌, not, List, [], ◌∷◌, ◌++◌, length, map, refl, sym, ap, ◌∙◌, ⊎_elim, append_assoc}
use Rattle.std.proofs.lemmas.Bool.{and_parts, and_from, or_cases, or_left, or_right, true≢false, eqb-true, eq-eqb, ltb-true, lt-ltb, leb-true, le-leb}
use Rattle.std.proofs.lemmas.List.{nil_from_length}
use Rattle.std.proofs.lemmas.List.Folds.{Any-from_list_any, list_any-from_Any}
use Rattle.std.specs.List.{list_all, list_any}
use Rattle.std.specs.Prelude.{◌↔◌, IsTrue}
use Rattle.fw_patterns.proofs.MatchLemmas.{some_branch-decides}
use Rattle.fw_patterns.specs.Deciding.{cuts, follow, in_branch, in_pattern, may_stand, stands}
use Rattle.fw_patterns.specs.Places.{some_branch}
use Rattle.fw_patterns.specs.Relation.{Follow, InBranch, InPattern, Stands, Times, stands_for}
use Rattle.fw_patterns.specs.declared.syntax.Branch.{Branch}
use Rattle.fw_patterns.specs.declared.syntax.Piece.{Piece}
use Rattle.fw_patterns.specs.declared.syntax.Repeat.{Repeat}
use Rattle.fw_patterns.specs.declared.syntax.Repeat.TheVariants.{Once, AnyTimes, SomeTimes, AtMostOnce}

-- ---- cuts

-- a text is cut in two, and the test holds of the cut
pub record Tried (holds : List ℕ × List ℕ → Bool) (text : List ℕ) : Type 0 where
  pub first : List ℕ
  pub rest : List ℕ
  pub cut : text ≡ first ++ rest
  pub good : holds (first, rest) ≡ true

list_any-map : {X Y : Type 0} (p : Y → Bool) (f : X → Y) (xs : List X) → list_any p (map f xs) ≡ list_any (λ x. p (f x)) xs
list_any-map p f [] = refl
list_any-map p f (x ∷ xs) = ap (λ (rest : Bool). p (f x) || rest) (list_any-map p f xs)

-- a test holds of one of the cuts that are tried exactly where it holds of some cut
cut-from_tried : (holds : List ℕ × List ℕ → Bool) (text : List ℕ) → list_any holds (cuts text) ≡ true → Tried holds text
cut-from_tried holds [] h = ⊎_elim
    (λ here. record { first = []; rest = []; cut = refl; good = here })
    (λ never. absurd (true≢false (sym never)))
    (or_cases (holds ([], [])) false h)
cut-from_tried holds (b ∷ text) h = ⊎_elim
    (λ here. record { first = []; rest = b ∷ text; cut = refl; good = here })
    (λ later.
    let behind = cut-from_tried (λ cut. holds (b ∷ cut.0, cut.1)) text
    (sym (list_any-map holds (λ cut. (b ∷ cut.0, cut.1)) (cuts text)) ∙ later) in
    record { first = b ∷ behind.first; rest = behind.rest; cut = ap (λ (xs : List ℕ). b ∷ xs) behind.cut; good = behind.good })
    (or_cases (holds ([], b ∷ text)) (list_any holds (map (λ cut. (b ∷ cut.0, cut.1)) (cuts text))) h)

tried-from_cut : (holds : List ℕ × List ℕ → Bool) (first rest : List ℕ) → holds (first, rest) ≡ true → list_any holds (cuts (first ++ rest)) ≡ true
tried-from_cut holds [] [] h = or_left _ _ h
tried-from_cut holds [] (b ∷ rest) h = or_left _ _ h
tried-from_cut holds (b ∷ first) rest h =
    or_right _ _ (list_any-map holds (λ cut. (b ∷ cut.0, cut.1)) (cuts (first ++ rest))
    ∙ tried-from_cut (λ cut. holds (b ∷ cut.0, cut.1)) first rest h)

-- ---- pieces

times-from_may_stand : (repeat : Repeat) (n : ℕ) → may_stand repeat n ≡ true → Times repeat n
times-from_may_stand Once n h = eqb-true n 1 h
times-from_may_stand AnyTimes n h = tt
times-from_may_stand SomeTimes n h = ltb-true 0 n h
times-from_may_stand AtMostOnce n h = leb-true n 1 h

may_stand-from_times : (repeat : Repeat) (n : ℕ) → Times repeat n → may_stand repeat n ≡ true
may_stand-from_times Once n t = eq-eqb n 1 t
may_stand-from_times AnyTimes n t = refl
may_stand-from_times SomeTimes n t = lt-ltb 0 n t
may_stand-from_times AtMostOnce n t = le-leb n 1 t

part-from_stands : (piece : Piece) (part : List ℕ) → stands piece part ≡ true → Stands piece part
part-from_stands piece part h =
    let both = and_parts (list_all (stands_for piece.atom) part) (may_stand piece.repeat (length part)) h in
    record { bytes = both.0; times = times-from_may_stand piece.repeat (length part) both.1 }

stands-from_part : (piece : Piece) (part : List ℕ) → Stands piece part → stands piece part ≡ true
stands-from_part piece part s = and_from _ _ s.bytes (may_stand-from_times piece.repeat (length part) s.times)

parts-from_follow : (pieces : List Piece) (text : List ℕ) → follow pieces text ≡ true → Follow pieces text
parts-from_follow [] text h = nil_from_length text (eqb-true (length text) 0 h)
parts-from_follow (piece ∷ pieces) text h =
    let c = cut-from_tried (λ cut. stands piece cut.0 && follow pieces cut.1) text h in
    let both = and_parts (stands piece c.first) (follow pieces c.rest) c.good in
    (c.first, c.rest, c.cut, part-from_stands piece c.first both.0, parts-from_follow pieces c.rest both.1)

follow-from_parts : (pieces : List Piece) (text : List ℕ) → Follow pieces text → follow pieces text ≡ true
follow-from_parts [] text f = eq-eqb (length text) 0 (ap length f)
follow-from_parts (piece ∷ pieces) text f =
    rw f.2 (tried-from_cut (λ cut. stands piece cut.0 && follow pieces cut.1) f.0 f.1
    (and_from _ _ (stands-from_part piece f.0 f.3) (follow-from_parts pieces f.1 f.4)))

-- ---- branches

-- an end that is tied has nothing outside it
abbrev tied : Bool → List ℕ → Bool
tied here outside = not here || length outside == 0

nothing-from_tied : (here : Bool) (outside : List ℕ) → tied here outside ≡ true → here ≡ true → outside ≡ []
nothing-from_tied true outside h is = nil_from_length outside (eqb-true (length outside) 0 h)
nothing-from_tied false outside h is = absurd (true≢false (sym is))

tied-from_nothing : (here : Bool) (outside : List ℕ) → (here ≡ true → outside ≡ []) → tied here outside ≡ true
tied-from_nothing true outside h = eq-eqb (length outside) 0 (ap length (h refl))
tied-from_nothing false outside h = refl

module _ (branch : Branch) where
  -- the branch's pieces stand for the first part of a cut
  abbrev ends : List ℕ × List ℕ → Bool
  ends end = tied branch.to_end end.1 && follow branch.pieces end.0

  -- they do so behind the first part of a cut
  abbrev starts : List ℕ × List ℕ → Bool
  starts start = tied branch.from_start start.0 && list_any ends (cuts start.1)

  branch-from_tried : (text : List ℕ) → in_branch branch text ≡ true → InBranch branch text
  branch-from_tried text h =
      let start = cut-from_tried starts text h in
      let at_start = and_parts (tied branch.from_start start.first) (list_any ends (cuts start.rest)) start.good in
      let end = cut-from_tried ends start.rest at_start.1 in
      let at_end = and_parts (tied branch.to_end end.rest) (follow branch.pieces end.first) end.good in
      record {
        before = start.first;
        part = end.first;
        after = end.rest;
        cut = start.cut ∙ ap (λ (xs : List ℕ). start.first ++ xs) end.cut ∙ sym (append_assoc start.first end.first end.rest);
        follow = parts-from_follow branch.pieces end.first at_end.1;
        starts = nothing-from_tied branch.from_start start.first at_start.0;
        ends = nothing-from_tied branch.to_end end.rest at_end.0;
      }

  tried-from_branch : (text : List ℕ) → InBranch branch text → in_branch branch text ≡ true
  tried-from_branch text i =
      rw (i.cut, append_assoc i.before i.part i.after) (tried-from_cut starts i.before (i.part ++ i.after)
      (and_from _ _ (tied-from_nothing branch.from_start i.before i.starts)
      (tried-from_cut ends i.part i.after
      (and_from _ _ (tied-from_nothing branch.to_end i.after i.ends) (follow-from_parts branch.pieces i.part i.follow)))))

-- ---- patterns

-- trying every cut decides the relation
pub in_pattern-decides : (pattern : List Branch) (text : List ℕ) → IsTrue (in_pattern pattern text) ↔ InPattern pattern text
unfolding in_pattern
in_pattern-decides pattern text = (
  λ yes.
      let some = Any-from_list_any (λ branch. in_branch branch text) pattern yes in
      (some.0, some.1, some.2, some.3, branch-from_tried some.1 text some.4),
  λ some. list_any-from_Any (λ branch. in_branch branch text) pattern
      (some.0, some.1, some.2, some.3, tried-from_branch some.1 text some.4),
)

same_truth : (a b : Bool) → (IsTrue a → IsTrue b) → (IsTrue b → IsTrue a) → a ≡ b
same_truth true b to from = sym (to refl)
same_truth false true to from = from refl
same_truth false false to from = refl

-- an answer whether some branch stands for a text is that of trying every cut
pub some_branch-tried : (answer : Bool) (pattern : List Branch) (text : List ℕ) → answer ≡ some_branch pattern text
    → answer ≡ in_pattern pattern text
some_branch-tried answer pattern text is =
    let by_places = some_branch-decides answer pattern text is in
    let by_cuts = in_pattern-decides pattern text in
    same_truth answer (in_pattern pattern text) (λ yes. by_cuts.1 (by_places.0 yes)) (λ yes. by_places.1 (by_cuts.0 yes))
