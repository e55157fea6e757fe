-- A table holds one list of marks, for each is read back from what is stored.
use Rattle.std.specs.Prelude.{◌≡◌, ℕ, Bool, ◌+◌, pos, List, [], ◌∷◌, map, refl}
use Rattle.std.proofs.Common.{sym, ap, ◌∙◌}
use Rattle.sqlite.specs.declared.types.Value.{Value}
use Rattle.sqlite.specs.declared.types.Value.TheVariants.{Int}
use Rattle.sqlite.specs.Order.{column}
use Rattle.sqlite.specs.State.{State}
use Rattle.marks_sqlite.specs.Tables.{stored_from, HoldsMarks}
use Rattle.marks_sqlite.specs.Telling.{TellsSo}

abbrev whole : Value → ℕ
whole (Int (pos n)) = n
whole _ = 0

abbrev entry_in : List Value → ℕ
entry_in row = whole (column row 2)

abbrev marks_in : State → List ℕ
marks_in s = map entry_in (s.now.trees 0)

again : (place : ℕ) (marks : List ℕ) → map entry_in (stored_from place marks) ≡ marks
again place [] = refl
again place (entry ∷ marks) = ap (λ (rest : List ℕ). entry ∷ rest) (again (place + 1) marks)

told_marks : (s : State) (marks : List ℕ) → HoldsMarks s marks → marks_in s ≡ marks
told_marks s marks h = ap (map entry_in) h.table ∙ again 1 marks

pub same_marks : (s : State) (a b : List ℕ) → HoldsMarks s a → HoldsMarks s b → a ≡ b
same_marks s a b h k = sym (told_marks s a h) ∙ told_marks s b k

-- so a keeper tells one list at a time
pub told_once : {may : Bool} {supposed : Type 0} {s : State} {one other : List ℕ} → TellsSo may supposed s one → TellsSo may supposed s other → one ≡ other
told_once {s = s} {one = one} {other = other} told also = same_marks s one other told.holds also.holds
