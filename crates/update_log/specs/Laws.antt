-- The laws of the log.
use Rattle.std.specs.Prelude.{◌≡◌, ℕ, List, [], ◌∷◌, ◌++◌, Some}
use Rattle.history_keeper.specs.declared.row.Row.{Row}
use Rattle.history_keeper.specs.declared.row.RowState.{RowState}
use Rattle.history_keeper.specs.Histories.{IsHistory}
use Rattle.update_log.specs.declared.event.Event.{Event}
use Rattle.update_log.specs.declared.event.Found.{Found}
use Rattle.update_log.specs.declared.event.BoardSeen.{BoardSeen}
use Rattle.update_log.specs.declared.facts.BootPlan.{BootPlan}
use Rattle.update_log.specs.Pasts.{past_of}
use Rattle.update_log.specs.Known.{row_of, rows}
use Rattle.update_log.specs.Boards.{OneDevice}
use Rattle.update_log.specs.declared.facts.Facts.{Facts}
use Rattle.update_log.specs.Shows.{Campaign}
use Rattle.update_log.specs.Legal.{Legal}
use Rattle.update_log.specs.Once.{Fits, IsTakenOnce, JournalAndView, Once}
use Rattle.update_log.specs.Crashes.{CrashOf, NextCampaign, IsNextBoot, next_boot}

-- At most once: of every campaign, every valid history before it, every log and all boards, if the
-- log is legal and the boards fit it, then they were written once.
abbrev pub AtMostOnce : Type 0
AtMostOnce =
    (c : Campaign) (log : List Event) (boards : List JournalAndView)
    → IsHistory c.basis.opening → Legal c log → Fits c log boards → Once c log boards

-- The log with the next boot at its end.
abbrev pub rebooted : List Event → BootPlan → Found → List BoardSeen → List Event
rebooted log plan found boards = log ++ next_boot (past_of log) plan found boards ∷ []

-- What holds of a log that a crash left: it is legal, and so is the next boot over any boards that
-- fit the log, whatever it finds and shows, and those boards were written once.
pub record IsSafeCrash (c : Campaign) (crashed : List Event) : Type 0 where
  pub legal : Legal c crashed
  pub boots : (states : List JournalAndView) (plan : BootPlan) (after : Campaign) (found : Found) (boards : List BoardSeen)
      → Fits c crashed states → NextCampaign c (past_of crashed) plan after
      → IsNextBoot c.basis c.first (past_of crashed) plan states found boards
      → Legal after (rebooted crashed plan found boards) × Once after (rebooted crashed plan found boards) states

-- At most once after crashes: so is every log that a crash may leave of a legal one.
abbrev pub AtMostOnceAfterCrashes : Type 0
AtMostOnceAfterCrashes =
    (c : Campaign) (log : List Event) (crashed : List Event)
    → IsHistory c.basis.opening → Legal c log → CrashOf log crashed → IsSafeCrash c crashed

-- Taken once: over any number of boots no tag has two rows, and no entry is taken twice.
abbrev pub TakenOnce : Type 0
TakenOnce =
    (c : Campaign) (log : List Event)
    → IsHistory c.basis.opening → Legal c log → IsTakenOnce c.basis (past_of log)

-- Over any number of boots the rows are a valid history: so no device has two rows that wait for their
-- end, and each retry is of an earlier failed row of its device that no other one is of, whatever was
-- committed, lost or found in doubt.
abbrev pub HistoryStays : Type 0
HistoryStays =
    (c : Campaign) (log : List Event)
    → IsHistory c.basis.opening → Legal c log → IsHistory (rows c.basis (past_of log))

-- A failed row stays failed: whatever comes behind a log, a row that has failed in it stays as it is.
abbrev pub FailedStays : Type 0
FailedStays =
    (c : Campaign) (log later : List Event) (entry : ℕ) (row : Row)
    → IsHistory c.basis.opening → Legal c (log ++ later)
    → row_of (rows c.basis (past_of log)) entry ≡ Some row → row.state ≡ RowState.Failed
    → row_of (rows c.basis (past_of (log ++ later))) entry ≡ Some row

-- The priority rule leaves one device for each ID, whatever the facts.
abbrev pub OneDeviceAnID : Type 0
OneDeviceAnID = (facts : Facts) → OneDevice facts
