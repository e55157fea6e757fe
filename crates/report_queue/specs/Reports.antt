-- What a report of the history comes to.
use Rattle.std.specs.Prelude.{◌≡◌, ◌⊎◌, ℕ, List, [], Result, Ok, Err}
use Rattle.history_keeper.specs.declared.row.Row.{Row}
use Rattle.history_keeper.specs.Histories.{IsHistory, IsFirstFaulty}
use Rattle.report_queue.specs.declared.reporting.ReportEnd.{ReportEnd}
use Rattle.report_queue.specs.declared.reporting.ReportEnd.TheVariants as ends
use Rattle.report_queue.specs.declared.stop.SendStop.{SendStop}
use Rattle.report_queue.specs.declared.stop.SendStop.TheVariants as stops
use Rattle.report_queue.specs.Answers.{Sends}
use Rattle.report_queue.specs.Stops.{Told}

-- How an end tells the answer of the call that sends the reports.
abbrev pub end_of : Result ℕ SendStop → ReportEnd
end_of (Ok count) = ends.Done count
end_of (Err stops.SinkFault) = ends.SinkFault
end_of (Err stops.KeeperFault) = ends.MarkFault
end_of (Err stops.NoMemory) = ends.NoMemory

-- The rows are a valid history, and the reports of them were sent up to this end.
pub record Sending (rows : List Row) (max : ℕ) (end : ReportEnd) (old new : Told) : Type 0 where
  pub answer : Result ℕ SendStop
  pub end_is : end ≡ end_of answer
  pub history : IsHistory rows
  pub sends : Sends rows max answer old new

-- What the marks and the output tell, by the end: nothing was marked or written, or the reports were sent.
abbrev pub Reports : List Row → ℕ → ReportEnd → Told → Told → Type 0
Reports rows max (ends.Done count) old new = Sending rows max (ends.Done count) old new
Reports rows max (ends.BadHistory at) old new = IsFirstFaulty rows at × (new ≡ old)
Reports rows max ends.HistoryFault old new = new ≡ old
Reports rows max ends.MarkFault old new = Sending rows max ends.MarkFault old new
Reports rows max ends.SinkFault old new = Sending rows max ends.SinkFault old new
Reports rows max ends.NoMemory old new = (new ≡ old) ⊎ Sending rows max ends.NoMemory old new

-- The keeper told these rows before, if it tells any still.
abbrev pub WereTold : (List Row → Type 0) → (List Row → Type 0) → List Row → Type 0
WereTold before after rows = (all : List Row) → after all → before rows

-- The rows that were read are those that the keeper told, and none where it didn't give them.
abbrev pub IsRead : ReportEnd → (List Row → Type 0) → (List Row → Type 0) → List Row → Type 0
IsRead (ends.Done count) before after read = WereTold before after read
IsRead (ends.BadHistory at) before after read = WereTold before after read
IsRead ends.HistoryFault before after read = read ≡ []
IsRead ends.MarkFault before after read = WereTold before after read
IsRead ends.SinkFault before after read = WereTold before after read
IsRead ends.NoMemory before after read = (read ≡ []) ⊎ WereTold before after read

-- The report ended before the keeper of marks was asked for anything.
abbrev pub IsBeforeMarks : ReportEnd → Type 0
IsBeforeMarks (ends.Done count) = ⊥
IsBeforeMarks (ends.BadHistory at) = Unit {0}
IsBeforeMarks ends.HistoryFault = Unit {0}
IsBeforeMarks ends.MarkFault = ⊥
IsBeforeMarks ends.SinkFault = ⊥
IsBeforeMarks ends.NoMemory = ⊥
