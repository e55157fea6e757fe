-- What a boot does to the boards.
use Rattle.std.specs.Prelude.{◌≡◌, ◌≤◌, ◌+◌, ℕ, Bool, true, List, length, drop, Some, slice_get}
use Rattle.fw_facts.specs.declared.seen.Seen.{Seen}
use Rattle.history_keeper.specs.declared.row.Row.{Row}
use Rattle.update_log.specs.declared.event.Event.{Event}
use Rattle.emulated_boards.specs.Boards.{BoardState, SameRecords}
use Rattle.emulated_boards.specs.Conditions.{booted, view_of}
use Rattle.update_log.specs.declared.event.BoardSeen.{BoardSeen}
use Rattle.update_log.specs.declared.facts.BootPlan.{BootPlan}
use Rattle.update_log.specs.Legal.{BoardListed, is_absent}
use Rattle.update_log.specs.Crashes.{next_boot}
use Rattle.update_log.specs.Known.{Basis}
use Rattle.update_log.specs.declared.event.Found.{Found}
use Rattle.daemon_core.specs.HouseLog.{Appended}
use Rattle.daemon_core.specs.Boards.{PlaceStands}
use Rattle.daemon_core.specs.Housed.{basis_in, HouseLogView, Place, past_in}
use Rattle.daemon_core.specs.Keeping.{still_reopened}

-- The board of a place can be started: it is at home, and at most two marks of its journal weren't told.
pub record CanStart (place : Place) (b : BoardState) : Type 0 where
  pub home : place.board ≡ Some b
  pub told : place.told ≤ length b.journal
  pub few : length b.journal ≤ place.told + 2

abbrev pub CanBeStarted : Place → Type 0
CanBeStarted place = (b : BoardState) × CanStart place b

-- All boards can be.
abbrev pub AllCanStart : List Place → Type 0
AllCanStart places = (number : ℕ) (place : Place) → slice_get places number ≡ Some place → CanBeStarted place

-- A boot started the board of a place, absent or not, and listed what it shows then and the marks that
-- weren't told.
pub record WasStarted (absent : Bool) (number : ℕ) (old new : Place) (b after : BoardState) (listed : BoardSeen) : Type 0 where
  pub was : old.board ≡ Some b
  pub is : new.board ≡ Some after
  pub condition : after.condition ≡ booted absent b.condition
  pub same : SameRecords b after
  pub told : new.told ≡ length b.journal
  pub number_is : listed.board ≡ number
  pub shows : listed.seen ≡ view_of after.condition
  pub untold : listed.untold ≡ drop old.told b.journal

abbrev pub Started : Bool → ℕ → Place → Place → BoardSeen → Type 0
Started absent number old new listed = (b : BoardState) × (after : BoardState) × WasStarted absent number old new b after listed

-- The board at a place was.
abbrev pub StartedAt : BootPlan → ℕ → Place → List Place → List BoardSeen → Type 0
StartedAt plan number place new listed =
    (after : Place) × (seen : BoardSeen) × (slice_get new number ≡ Some after) × (slice_get listed number ≡ Some seen)
    × Started (is_absent plan number) number place after seen

-- All boards were.
pub record AllStarted (plan : BootPlan) (old new : List Place) (listed : List BoardSeen) : Type 0 where
  pub places : length new ≡ length old
  pub count : length listed ≡ length old
  pub each : (number : ℕ) (place : Place) → slice_get old number ≡ Some place → StartedAt plan number place new listed

-- A boot lists each board as it may.
pub record AllListed (basis : Basis) (first : List Seen) (past : List Event) (plan : BootPlan) (boards : List BoardSeen) : Type 0 where
  pub count : length boards ≡ length basis.facts.sheets
  pub each : (number : ℕ) (b : BoardSeen) → slice_get boards number ≡ Some b → BoardListed basis first past plan number b

-- The house log over these rows.
abbrev pub opened : List Row → ℕ → HouseLogView → HouseLogView
opened rows row_room a = record a { opening = rows; loaded = true; core = record a.core { rows = rows; row_room = row_room } }

-- Each board stands to the log.
pub record PlacesStand (a : HouseLogView) (places : List Place) : Type 0 where
  pub count : length places ≡ length a.facts.sheets
  pub each : (number : ℕ) (place : Place) → slice_get places number ≡ Some place → PlaceStands (basis_in a) a.first (past_in a) number place

-- Each board was started, and the boot put behind the log. One that read the history says what became of
-- the change in doubt.
pub record BoardsStarted (plan : BootPlan) (found : Found) (old new : HouseLogView) (places after : List Place) : Type 0 where
  pub listed : List BoardSeen
  pub started : AllStarted plan places after listed
  pub appended : Appended 0 (next_boot (past_in old) plan found listed) old (record new { reopened = old.reopened })
  pub reopened : new.reopened ≡ still_reopened found old.reopened
