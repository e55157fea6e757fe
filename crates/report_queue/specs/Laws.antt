-- No report is sent twice.
use Rattle.std.specs.Prelude.{◌≡◌, ◌≢◌, ◌⊎◌, ℕ, List, length, flat_map, Some, Result, All, AllPairs}
use Rattle.std.specs.List.{AllAdjacentBelow}
use Rattle.history_keeper.specs.declared.row.Row.{Row}
use Rattle.report_queue.specs.declared.stop.SendStop.{SendStop}
use Rattle.report_queue.specs.Answers.{Sends}
use Rattle.report_queue.specs.Calls.{Call, Leaves, Follows, Begins}
use Rattle.report_queue.specs.Marking.{with_doubt}
use Rattle.report_queue.specs.Sending.{entries_of}
use Rattle.report_queue.specs.Stops.{Told}

-- Calls over one keeper of marks, one behind the other, each of which ended or was stopped.
pub record InTurn (calls : List Call) : Type 0 where
  pub each : All Leaves calls
  pub follow : AllAdjacentBelow Follows calls (length calls)

-- The entries that all of them marked are pairwise different, whatever their rows and wherever they stopped.
abbrev pub MarkedOnce : Type 0
MarkedOnce = (calls : List Call) → InTurn calls → AllPairs (λ one other. one ≢ other) (flat_map (λ call. entries_of call.sent) calls)

-- No two of their outputs begin a line of one entry.
abbrev pub SentOnce : Type 0
SentOnce = (calls : List Call) → InTurn calls → AllPairs (λ one other. (entry : ℕ) → Begins one entry → Begins other entry → ⊥) calls

-- Two calls follow each other, where the keeper told as the later one began what it told behind the earlier one,
-- without or with the entry that was in doubt.
abbrev pub CallsFollow : Type 0
CallsFollow =
    (rows later : List Row) (max most : ℕ) (answer reply : Result ℕ SendStop) (old left begun new : Told) (marks found : List ℕ) (one : Sends rows max answer old left) (next : Sends later most reply begun new)
    → left.marks ≡ Some marks → begun.marks ≡ Some found → (found ≡ marks) ⊎ (found ≡ with_doubt left.doubt marks) → Follows one.call next.call
