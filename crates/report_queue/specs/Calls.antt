-- What a call that sends reports leaves, whether it ended or was stopped.
use Rattle.std.specs.Prelude.{◌≡◌, ◌⊎◌, ℕ, ◌<◌, List, ◌++◌, length, take, Option, IfSome, Contains, slice_get, Some}
use Rattle.history_keeper.specs.declared.row.Row.{Row}
use Rattle.report_queue.specs.Marking.{with_doubt}
use Rattle.report_queue.specs.Sending.{due, entries_of, lines, IsFront, Sent}

-- The marks of a keeper: the marked entries, and the doubtful one.
pub record Marks : Type 0 where
  pub entries : List ℕ
  pub doubt : Option ℕ

-- A call: the rows that it was given, and the most that it may send; the marks before it, those that it found when it
-- had reopened the keeper, and those behind it; the rows that it marked, and what its output took.
pub record Call : Type 0 where
  pub rows : List Row
  pub max : ℕ
  pub before : Marks
  pub found : List ℕ
  pub after : Marks
  pub sent : List Row
  pub text : List ℕ

-- The entry isn't among those that the call marked, and the output has no byte but their lines.
pub record IsUnwritten (call : Call) (entry : ℕ) : Type 0 where
  pub apart : Contains (entries_of call.sent) entry → ⊥
  pub only : call.text ≡ lines call.sent

-- What a call leaves, whether it ended or was stopped at any moment: it found the marks before it, with or without the
-- doubtful one. It sent the first of the rows that were due then, at most so many, and they alone are marked beside
-- those that it found. Of a doubtful entry nothing was written.
pub record Leaves (call : Call) : Type 0 where
  pub found : (call.found ≡ call.before.entries) ⊎ (call.found ≡ with_doubt call.before.doubt call.before.entries)
  pub sent : Sent call.rows call.found call.sent call.text
  pub in_turn : IsFront call.sent (take call.max (due call.found call.rows))
  pub marked : call.after.entries ≡ call.found ++ entries_of call.sent
  pub doubtful : IfSome call.after.doubt (IsUnwritten call)

-- A call that comes next over the same keeper: before it stand the marks that the other left, and perhaps the one
-- that was in doubt.
abbrev pub Follows : Call → Call → Type 0
Follows one next = (next.before.entries ≡ one.after.entries) ⊎ (next.before.entries ≡ with_doubt one.after.doubt one.after.entries)

-- The output of the call begins the line of the entry: it is longer than the lines of the rows sent before it.
pub record Begins (call : Call) (entry : ℕ) : Type 0 where
  pub at : ℕ
  pub row : Row
  pub sent : slice_get call.sent at ≡ Some row
  pub is_its : row.entry ≡ entry
  pub begun : length (lines (take at call.sent)) < length call.text
