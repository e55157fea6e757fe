-- Which rows are to be reported, and what was sent of them.
use Rattle.std.specs.Prelude.{◌≡◌, ℕ, ◌<◌, ◌-◌, ◌==◌, Bool, true, false, ◌&&◌, not, List, ◌++◌, length, take, map, filter, flat_map, All, AllPairs, Contains}
use Rattle.std.specs.List.{list_any}
use Rattle.history_keeper.specs.declared.row.Row.{Row}
use Rattle.history_keeper.specs.declared.row.RowState.{RowState}
use Rattle.history_keeper.specs.declared.row.RowState.TheVariants as states
use Rattle.report_queue.specs.Lines.{line}

-- A row of this state is judged: what became of its update is settled for good.
abbrev pub is_judged : RowState → Bool
is_judged states.Pending = false
is_judged states.Success = true
is_judged states.Failed = true
is_judged states.NeedsReboot = false
is_judged states.Begun = false

-- The entry is among those marked.
abbrev pub is_marked : List ℕ → ℕ → Bool
is_marked marks entry = list_any (λ mark. entry == mark) marks

-- The rows that are to be reported: those that are judged and not marked, in the order of the rows.
abbrev pub is_due : List ℕ → Row → Bool
is_due marks row = is_judged row.state && not (is_marked marks row.entry)

abbrev pub due : List ℕ → List Row → List Row
due marks rows = filter (is_due marks) rows

abbrev pub entries_of : List Row → List ℕ
entries_of rows = map (λ row. row.entry) rows

-- The lines of the rows, one behind the other.
abbrev pub lines : List Row → List ℕ
lines rows = flat_map line rows

-- A list begins the other.
pub record IsFront {X : Type 0} (front whole : List X) : Type 0 where
  pub rest : List X
  pub parts : whole ≡ front ++ rest

-- The text is that of the rows' lines, each whole but the last, of which it has all, a front or nothing.
pub record UpToLast (rows : List Row) (text : List ℕ) : Type 0 where
  pub all_but_last : IsFront (lines (take (length rows - 1) rows)) text
  pub within : IsFront text (lines rows)

-- Over these rows and these marks, the rows that a call marked and what it wrote: each is one of the rows, judged
-- and not marked before, their entries rise, and what was written are their lines up to the last.
pub record Sent (rows : List Row) (marks : List ℕ) (sent : List Row) (text : List ℕ) : Type 0 where
  pub of_rows : All (λ row. Contains rows row) sent
  pub judged : All (λ row. is_judged row.state ≡ true) sent
  pub unmarked : All (λ row. Contains marks row.entry → ⊥) sent
  pub rising : AllPairs (λ one other. one.entry < other.entry) sent
  pub lines_are : UpToLast sent text
