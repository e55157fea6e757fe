-- Branches that are read from the end of their marks.
use Rattle.std.proofs.Common.{◌≡◌, List, [], ◌∷◌, ◌++◌, refl, ap, ◌∙◌}
use Rattle.fw_patterns.specs.Reading.{branches, repeat_of, repeat_or_once, with_mark}
use Rattle.fw_patterns.specs.declared.marks.Placed.{Placed}
use Rattle.fw_patterns.specs.declared.syntax.Branch.{Branch}
use Rattle.fw_patterns.specs.declared.syntax.Repeat.{Repeat}
use Rattle.fw_patterns.specs.declared.syntax.Repeat.TheVariants.{Once}

-- the repeat in front of marks, where another stands behind them
abbrev repeat_before : List Placed → Repeat → Repeat
repeat_before [] repeat = repeat
repeat_before (p ∷ more) repeat = repeat_or_once p.mark

-- marks in front of branches that are read
abbrev pub over : List Placed → Repeat → List Branch → List Branch
over [] repeat read = read
over (p ∷ more) repeat read = with_mark p.mark (repeat_before more repeat) (over more repeat read)

repeat_before-once : (marks : List Placed) → repeat_before marks Once ≡ repeat_of marks
repeat_before-once [] = refl
repeat_before-once (p ∷ more) = refl

-- in front of nothing they are the branches themselves
pub over-nothing : (marks : List Placed) → over marks Once (branches []) ≡ branches marks
unfolding branches
over-nothing [] = refl
over-nothing (p ∷ more) =
    ap (λ (repeat : Repeat). with_mark p.mark repeat (over more Once (branches []))) (repeat_before-once more)
    ∙ ap (with_mark p.mark (repeat_of more)) (over-nothing more)

repeat_before-push : (marks : List Placed) (p : Placed) (repeat : Repeat)
    → repeat_before (marks ++ p ∷ []) repeat ≡ repeat_before marks (repeat_or_once p.mark)
repeat_before-push [] p repeat = refl
repeat_before-push (m ∷ more) p repeat = refl

-- the last mark is read first
pub over-push : (marks : List Placed) (p : Placed) (repeat : Repeat) (read : List Branch)
    → over (marks ++ p ∷ []) repeat read ≡ over marks (repeat_or_once p.mark) (with_mark p.mark repeat read)
over-push [] p repeat read = refl
over-push (m ∷ more) p repeat read =
    ap (λ (r : Repeat). with_mark m.mark r (over (more ++ p ∷ []) repeat read)) (repeat_before-push more p repeat)
    ∙ ap (with_mark m.mark (repeat_before more (repeat_or_once p.mark))) (over-push more p repeat read)
