-- What `report` comes to, and that the other commands leave the marks.
use Rattle.std.specs.Prelude.{◌≡◌, ◌⊎◌, ℕ, List, Option, Some, None}
use Rattle.outer_traits.specs.Faults.{Rose}
use Rattle.history_keeper.specs.declared.row.Row.{Row}
use Rattle.command_words.specs.declared.command.Command.{Command}
use Rattle.command_words.specs.declared.command.Command.TheVariants as commands
use Rattle.daemon_core.specs.Reading.{place_told}
use Rattle.report_queue.specs.declared.reporting.ReportEnd.{ReportEnd}
use Rattle.report_queue.specs.declared.reporting.ReportEnd.TheVariants as ends
use Rattle.report_queue.specs.Reports.{IsRead, Reports}
use Rattle.report_queue.specs.Stops.{Told}
use Rattle.run_status.specs.declared.status.Status.{Status}
use Rattle.run_status.specs.declared.status.Status.TheVariants as statuses
use Rattle.fwupd_service.specs.Tops.{Left}

-- How a status tells the end of a report. A fault of the history's keeper and one of the marks' are told as one.
abbrev pub report_status : ReportEnd → Status
report_status (ends.Done count) = statuses.Done
report_status (ends.BadHistory at) = statuses.BadHistory (place_told at)
report_status ends.HistoryFault = statuses.KeeperFault
report_status ends.MarkFault = statuses.KeeperFault
report_status ends.SinkFault = statuses.SinkFault
report_status ends.NoMemory = statuses.NoMemory

-- The report ended so, over the rows that the keeper told, if it tells any still: what was marked and what was written.
pub record ReportTold {K : Type 0} (told : K → List Row → Type 0) (max : ℕ) (status : Status) (keeper : K) (left : Left K) (before after : Told) : Type 0 where
  pub end : ReportEnd
  pub status_is : status ≡ report_status end
  pub reports : Reports left.opening max end before after
  pub read : IsRead end (told keeper) (told left.keeper) left.opening

-- Under `report` it was done, or there was no memory for the words, and nothing was. The other commands say by the marks
-- themselves that they leave them.
abbrev pub MarksTold : {K : Type 0} → (K → List Row → Type 0) → Option Command → Status → K → Left K → Told → Told → Type 0
MarksTold told None status keeper left before after = Unit {0}
MarksTold told (Some commands.Run) status keeper left before after = Unit {0}
MarksTold told (Some (commands.Plan tag)) status keeper left before after = Unit {0}
MarksTold told (Some (commands.Update tag)) status keeper left before after = Unit {0}
MarksTold told (Some commands.Check) status keeper left before after = Unit {0}
MarksTold told (Some commands.Remotes) status keeper left before after = Unit {0}
MarksTold told (Some (commands.Explain port version)) status keeper left before after = Unit {0}
MarksTold told (Some (commands.Ids texts)) status keeper left before after = Unit {0}
MarksTold told (Some (commands.Make boards clients)) status keeper left before after = Unit {0}
MarksTold told (Some (commands.Report max)) status keeper left before after =
    ReportTold told max status keeper left before after ⊎ ((status ≡ statuses.NoMemory) × (after ≡ before))

-- The marks are those that came, but under `report`.
abbrev pub KeepsMarks : {M : Type 0} → Option Command → M → M → Type 0
KeepsMarks None old new = new ≡ old
KeepsMarks (Some commands.Run) old new = new ≡ old
KeepsMarks (Some (commands.Plan tag)) old new = new ≡ old
KeepsMarks (Some (commands.Update tag)) old new = new ≡ old
KeepsMarks (Some commands.Check) old new = new ≡ old
KeepsMarks (Some commands.Remotes) old new = new ≡ old
KeepsMarks (Some (commands.Explain port version)) old new = new ≡ old
KeepsMarks (Some (commands.Ids texts)) old new = new ≡ old
KeepsMarks (Some (commands.Make boards clients)) old new = new ≡ old
KeepsMarks (Some (commands.Report max)) old new = Unit {0}

-- How many faults the keeper of the history counted, and how many that of the marks.
pub record KeeperFaults : Type 0 where
  pub history : ℕ
  pub marks : ℕ

-- How a report tells what they counted: a fault of a keeper only where one count rose, and where it tells none,
-- neither did.
pub record KeepersTold (status : Status) (before after : KeeperFaults) : Type 0 where
  pub cause : status ≡ statuses.KeeperFault → Rose before.history after.history ⊎ Rose before.marks after.marks
  pub quiet : (status ≡ statuses.KeeperFault) ⊎ ((after.history ≡ before.history) × (after.marks ≡ before.marks))

-- So it is under `report`.
abbrev pub FaultTold : Option Command → Status → KeeperFaults → KeeperFaults → Type 0
FaultTold (Some (commands.Report max)) status before after = KeepersTold status before after
FaultTold _ status before after = Unit {0}
