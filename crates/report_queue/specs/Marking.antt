-- What the calls of a keeper of marks do to the marked entries that it tells, and to its doubt.
use Rattle.std.specs.Prelude.{◌≡◌, ◌⊎◌, ℕ, List, [], ◌∷◌, ◌++◌, Option, Some, None, IfSome, Result, Ok, Err}
use Rattle.history_keeper.specs.declared.refusal.KeeperRefusal.{KeeperRefusal}
use Rattle.history_keeper.specs.declared.refusal.KeeperRefusal.TheVariants.{Fault, NoMemory}

-- The marked entries with the doubtful one, where there is one.
abbrev pub with_doubt : Option ℕ → List ℕ → List ℕ
with_doubt None marks = marks
with_doubt (Some entry) marks = marks ++ entry ∷ []

-- The entries with one more behind them.
abbrev pub with_entry : ℕ → List ℕ → List ℕ
with_entry entry marks = marks ++ entry ∷ []

-- The marks that a keeper tells after a call are those that it told before it.
abbrev pub MarksStay : (List ℕ → Type 0) → (List ℕ → Type 0) → Type 0
MarksStay old new = (all : List ℕ) → new all → old all

-- They are those that it told before it, with the entry behind them.
abbrev pub MarksWith : ℕ → (List ℕ → Type 0) → (List ℕ → Type 0) → Type 0
MarksWith entry old new = (all : List ℕ) → new all → (before : List ℕ) × old before × (all ≡ with_entry entry before)

-- They are those that it told before it, without or with the doubtful one.
abbrev pub MarksEither : Option ℕ → (List ℕ → Type 0) → (List ℕ → Type 0) → Type 0
MarksEither doubt old new = (all : List ℕ) → new all → (before : List ℕ) × old before × ((all ≡ before) ⊎ (all ≡ with_doubt doubt before))

-- A mark: `Ok` puts the entry behind the others and leaves no doubt. A fault leaves the marks and makes the
-- entry the doubt. Want of memory changes nothing.
abbrev pub Marked : {A : Type 0} → ℕ → Result A KeeperRefusal → (List ℕ → Type 0) → (List ℕ → Type 0) → Option ℕ → Type 0
Marked entry (Ok _) old new doubt = MarksWith entry old new × (doubt ≡ None)
Marked entry (Err Fault) old new doubt = MarksStay old new × (doubt ≡ Some entry)
Marked entry (Err NoMemory) old new doubt = MarksStay old new × (doubt ≡ None)

-- A reopening: `Ok` leaves no doubt, and the marks without or with the doubtful one. All else changes nothing.
abbrev pub Reopened : {A : Type 0} → Result A KeeperRefusal → (List ℕ → Type 0) → Option ℕ → (List ℕ → Type 0) → Option ℕ → Type 0
Reopened (Ok _) old doubt new left = MarksEither doubt old new × (left ≡ None)
Reopened (Err _) old doubt new left = MarksStay old new × (left ≡ doubt)

-- Over several calls: whatever marks the keeper tells after them, or none, before them it told marks, or none, to
-- which the relation ties those.
abbrev pub OverTold : (List ℕ → Type 0) → (List ℕ → Type 0) → (Option (List ℕ) → Option (List ℕ) → Type 0) → Type 0
OverTold old new tied = (after : Option (List ℕ)) → IfSome after new → (before : Option (List ℕ)) × IfSome before old × tied before after
