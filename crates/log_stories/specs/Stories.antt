-- A log that grows by legal events.
use Rattle.std.specs.Prelude.{◌≡◌, ℕ, ◌<◌, ◌+◌, ◌==◌, ◌&&◌, not, if◌then◌else◌, Bool, true, false, List, [], ◌∷◌, ◌++◌, Option, Some, None, is_none, option_and_then, unwrap_or}
use Rattle.std.specs.List.{list_any}
use Rattle.fw_facts.specs.declared.seen.Mode.{Mode}
use Rattle.fw_facts.specs.declared.seen.Seen.{Seen}
use Rattle.fw_facts.specs.declared.view.DeviceView.{DeviceView}
use Rattle.history_keeper.specs.declared.row.Row.{Row}
use Rattle.history_keeper.specs.declared.row.RowState.{RowState}
use Rattle.core_state.specs.Core.{Core, Stands}
use Rattle.device_list.specs.declared.selector.Selector.{Selector}
use Rattle.update_log.specs.Holding.{hold, live}
use Rattle.update_log.specs.Legal.{IsLegal, ask_answer, found_view, is_fetched, next_entry, unplug_refused}
use Rattle.update_log.specs.Pasts.{boots, limit_of, off, past_of}
use Rattle.update_log.specs.Known.{Basis, basis_of, target}
use Rattle.update_log.specs.Verdicts.{verdict}
use Rattle.update_log.specs.Shows.{campaign_on}
use Rattle.update_log.specs.declared.answer.ClaimAnswer.{ClaimAnswer}
use Rattle.update_log.specs.declared.answer.PlugAnswer.{PlugAnswer}
use Rattle.update_log.specs.declared.decision.Decision.{Decision}
use Rattle.update_log.specs.declared.decision.Stage.{Stage}
use Rattle.update_log.specs.declared.event.BoardSeen.{BoardSeen}
use Rattle.update_log.specs.declared.event.Event.{Event}
use Rattle.update_log.specs.declared.event.Found.{Found}
use Rattle.update_log.specs.declared.event.Query.{Query}
use Rattle.update_log.specs.declared.facts.BootPlan.{BootPlan}
use Rattle.update_log.specs.declared.facts.Facts.{Facts}
use Rattle.update_log.specs.declared.live.Held.{Held}
use Rattle.update_log.specs.declared.refusal.FetchNote.{FetchNote}
use Rattle.update_log.specs.declared.request.Request.{Request}

-- What the log stands on, and what stands for the log.
pub record StoryTold : Type 0 where
  pub basis : Basis
  pub core : Core

abbrev pub past : StoryTold → List Event
past s = past_of s.core.log

-- The past is legal in some campaign with these facts, and its boot runs without a limit.
pub record RunsOn (basis : Basis) (past : List Event) : Type 0 where
  pub first : List Seen
  pub plans : List BootPlan
  pub legal : IsLegal (campaign_on basis first plans) past
  pub booted : 0 < boots past
  pub on : off past ≡ false
  pub limit : limit_of past ≡ None

-- The log does, and what stands for it does.
pub record IsStory (s : StoryTold) : Type 0 where
  pub runs : RunsOn s.basis (past s)
  pub stands : Stands s.basis s.core

-- The story with one event more.
pub record Grown (event : Event) (old new : StoryTold) : Type 0 where
  pub basis : new.basis ≡ old.basis
  pub log : new.core.log ≡ old.core.log ++ event ∷ []

-- The story as it was, but for the room that it has.
abbrev pub Stayed : StoryTold → StoryTold → Type 0
Stayed old new = new ≡ record { basis = old.basis; core = record old.core { room = new.core.room; row_room = new.core.row_room } }

-- The story with that event more where there is one, and else as it was.
abbrev pub GrownBy : Option Event → StoryTold → StoryTold → Type 0
GrownBy (Some event) old new = Grown event old new
GrownBy None old new = Stayed old new

-- ---- the first boot

-- A board with a good image is in runtime mode. The raw version 0 is that of no good image.
abbrev pub mode_of : ℕ → Mode
mode_of raw = if raw == 0 then Mode.Bootloader else Mode.Runtime

-- What the first boot shows of boards that have these raw versions, from that number on.
abbrev pub board_shown : ℕ → ℕ → BoardSeen
board_shown number raw = record { board = number; seen = Seen.Home raw (mode_of raw); untold = [] }

abbrev pub boards_from : ℕ → List ℕ → List BoardSeen
boards_from number [] = []
boards_from number (raw ∷ raws) = board_shown number raw ∷ boards_from (number + 1) raws

abbrev pub first_boot : List ℕ → Event
first_boot raws = Event.Boot 1 1000 None Found.Plain (boards_from 0 raws)

-- The story stands over these facts and rows, and its log is the first boot, of boards that have these raw versions.
pub record HasBegun (facts : Facts) (rows : List Row) (raws : List ℕ) (s : StoryTold) : Type 0 where
  pub basis : s.basis ≡ basis_of facts rows
  pub log : s.core.log ≡ first_boot raws ∷ []

-- ---- what clients do, and how it is answered

-- The client has neither a hold nor a live entry.
abbrev pub is_free : List Event → ℕ → Bool
is_free past client = is_none (hold past client) && not (list_any (λ l. l.client == client) (live past))

-- An ask, which the verdict answers.
abbrev pub ask_event : StoryTold → ℕ → Request → Event
ask_event s client request = Event.Ask client request None (ask_answer (verdict s.basis (past s) client request Stage.Ask))

-- Only a client that has nothing out asks.
abbrev pub ask_if_free : StoryTold → ℕ → Request → Option Event
ask_if_free s client request = if is_free (past s) client then Some (ask_event s client request) else None

-- The decision is to accept.
abbrev pub is_accepted : Decision → Bool
is_accepted (Decision.Accept device release blocks) = true
is_accepted (Decision.Kept entry state) = false
is_accepted (Decision.Refused refusal) = false

-- A client may claim the hold with that payload: the hold is of no row that waits, the payload is that of the release,
-- and the verdict accepts the claim.
abbrev pub is_claimable : StoryTold → ℕ → FetchNote → Held → Bool
is_claimable s client note held =
    is_none held.pending && is_fetched note (target s.basis.facts s.core.views held.request)
    && is_accepted (verdict s.basis (past s) client held.request (Stage.Claim held.release))

-- A claim of the hold, which gets the next entry.
abbrev pub claim_event : StoryTold → ℕ → FetchNote → Held → Event
claim_event s client note held = Event.Claim client held.request note (ClaimAnswer.Entry (next_entry s.basis (past s)))

abbrev pub claim_if_claimable : StoryTold → ℕ → FetchNote → Held → Option Event
claim_if_claimable s client note held = if is_claimable s client note held then Some (claim_event s client note held) else None

-- A client claims what it holds, where it holds anything.
abbrev pub claim_if_held : StoryTold → ℕ → FetchNote → Option Event
claim_if_held s client note = option_and_then (claim_if_claimable s client note) (hold (past s) client)

-- The question is to settle a device.
abbrev pub is_settle : Query → Bool
is_settle (Query.Settle selector) = true
is_settle Query.Devices = false
is_settle (Query.Releases selector) = false
is_settle (Query.Upgrades selector) = false
is_settle Query.History = false
is_settle (Query.Results selector) = false

-- The row is begun or waits for a boot.
abbrev pub waits_in : RowState → Bool
waits_in RowState.Begun = true
waits_in RowState.NeedsReboot = true
waits_in RowState.Pending = false
waits_in RowState.Success = false
waits_in RowState.Failed = false

abbrev pub waits : Row → Bool
waits row = waits_in row.state

-- A device is settled only where no row waits.
abbrev pub settle_if_none_waits : StoryTold → ℕ → Selector → Option Event
settle_if_none_waits s client device = if list_any waits s.core.rows then None else Some (Event.Query client (Query.Settle device))

-- The answer to an unplug of a device: why it isn't done, or that it is.
abbrev pub unplug_answer : Option DeviceView → PlugAnswer
unplug_answer view = unwrap_or (unplug_refused view) (PlugAnswer.Done Seen.Gone)

abbrev pub unplug_event : StoryTold → ℕ → Selector → Event
unplug_event s client device = Event.Unplug client device (unplug_answer (found_view s.core.views device))
