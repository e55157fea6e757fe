-- Installs that go as they go where nothing fails, and the plans that are made of them.
use Rattle.std.specs.Prelude.{ℕ, zero, suc, ◌+◌, ◌-◌, ◌&&◌, Bool, true, false, not, List, [], ◌∷◌, ◌++◌, length, map, filter, find, Option, Some, None, unwrap_or, option_map, option_and_then, slice_get, Ok, codes, decimal, if◌then◌else◌}
use Rattle.std.specs.List.{fold, list_any}
use Rattle.std.specs.Option.{option_map_or}
use Rattle.std.specs.Ordering.{is_lt}
use Rattle.std.specs.Str.{bytes_eq}
use Rattle.version_formats.specs.Formats.{render}
use Rattle.version_formats.specs.VersionOrder.{same_version, version_cmp}
use Rattle.fw_facts.specs.declared.flags.DeviceFlag.{DeviceFlag}
use Rattle.fw_facts.specs.declared.seen.Mode.{Mode}
use Rattle.fw_facts.specs.declared.seen.Seen.{Seen}
use Rattle.fw_facts.specs.declared.view.DeviceView.{DeviceView}
use Rattle.fw_facts.specs.Flags.{has_flag}
use Rattle.fw_facts.specs.Views.{version_of}
use Rattle.release_catalogue.specs.declared.reference.ReleaseRef.{ReleaseRef}
use Rattle.release_catalogue.specs.Lookup.{Chosen, all_releases}
use Rattle.device_list.specs.declared.selector.Selector.{Selector}
use Rattle.history_keeper.specs.declared.row.RowState.{RowState}
use Rattle.update_log.specs.declared.answer.AskAnswer.{AskAnswer}
use Rattle.update_log.specs.declared.answer.ClaimAnswer.{ClaimAnswer}
use Rattle.update_log.specs.declared.decision.Decision.{Decision}
use Rattle.update_log.specs.declared.decision.Stage.{Stage}
use Rattle.update_log.specs.declared.event.Event.{Event}
use Rattle.update_log.specs.declared.event.Op.{Op}
use Rattle.update_log.specs.declared.event.Stored.{Stored}
use Rattle.update_log.specs.declared.refusal.FetchNote.{FetchNote}
use Rattle.update_log.specs.declared.request.InstallFlags.{InstallFlags}
use Rattle.update_log.specs.declared.request.Request.{Request}
use Rattle.update_log.specs.Holding.{blocks_of}
use Rattle.update_log.specs.Known.{Basis, views}
use Rattle.update_log.specs.Legal.{next_entry}
use Rattle.update_log.specs.Shows.{marks}
use Rattle.update_log.specs.Steps.{all_ops, closing, is_op, next_op}
use Rattle.update_log.specs.Verdicts.{is_release, verdict}
use Rattle.update_plans.specs.declared.plan.PlanStep.{PlanStep}
use Rattle.update_plans.specs.RawNumbers.{raw_of}
use Rattle.update_plans.specs.Walks.{walk}

-- Over which facts and rows a plan is made, for which client, and the tag that its requests begin with.
pub record Scene : Type 0 where
  pub basis : Basis
  pub client : ℕ
  pub tag : List ℕ

abbrev pub scene : Basis → ℕ → List ℕ → Scene
scene basis client tag = record { basis = basis; client = client; tag = tag }

-- ---- what a step asks for

-- The release at a place of the catalogue.
abbrev pub release_at : Scene → ReleaseRef → Option Chosen
release_at s at = find (λ chosen. is_release chosen.at at) (all_releases s.basis.facts.catalogue)

-- The tag of a step, which counts from 1.
abbrev pub step_tag : Scene → ℕ → List ℕ
step_tag s number = s.tag ++ codes "-" ++ decimal number

abbrev pub no_flags : InstallFlags
no_flags = record { offline = false; allow_reinstall = false; allow_older = false }

-- The request: the device by its ID, the release's version, and no flags.
abbrev pub request_of : Scene → ℕ → PlanStep → Chosen → Request
request_of s number step chosen =
    record { tag = step_tag s number; device = Selector.Id step.device; version = chosen.release.version; flags = no_flags; retry_of = None }

-- ---- what the device shows

-- The device has that ID.
abbrev pub has_id : List ℕ → DeviceView → Bool
has_id device view = bytes_eq view.sheet.device device

-- The device as it stands after a past.
abbrev pub view_of : Scene → List ℕ → List Event → Option DeviceView
view_of s device past = find (has_id device) (views s.basis past)

abbrev pub seen_of : Scene → List ℕ → List Event → Seen
seen_of s device past = option_map_or (λ view. view.seen) (view_of s device past) Seen.Gone

-- A new firmware of the device comes in at the next boot.
abbrev pub waits_for_boot : Scene → List ℕ → List Event → Bool
waits_for_boot s device past = option_map_or (λ view. has_flag DeviceFlag.NeedsReboot view.sheet.flags) (view_of s device past) false

-- What a board shows at the end of a step that goes well, by its raw number and its mode before. Prepare
-- leaves it. A detach brings it into its boot loader. A write gives it the new number, but for a device
-- that waits for a boot. Behind the write the device comes back in runtime mode.
abbrev pub board_after : Op → Bool → ℕ → ℕ → Mode → Seen
board_after Op.Prepare waits new raw mode = Seen.Home raw mode
board_after Op.Detach waits new raw mode = Seen.Home raw Mode.Bootloader
board_after Op.Write waits new raw mode = Seen.Home (if waits then raw else new) mode
board_after Op.Attach waits new raw mode = Seen.Home raw Mode.Runtime
board_after Op.Reload waits new raw mode = Seen.Home raw Mode.Runtime
board_after Op.Cleanup waits new raw mode = Seen.Home raw Mode.Runtime

abbrev pub shown_after : Op → Bool → ℕ → Seen → Seen
shown_after op waits new (Seen.Home raw mode) = board_after op waits new raw mode
shown_after op waits new Seen.Gone = Seen.Gone
shown_after op waits new Seen.Stranger = Seen.Stranger

-- ---- an install that goes as it goes where nothing fails

-- The ask, which is given the blocks of the payload.
abbrev pub asked : Scene → ℕ → PlanStep → Chosen → List Event → List Event
asked s number step chosen past =
    Event.Ask s.client (request_of s number step chosen) None (AskAnswer.Hold (blocks_of chosen.release.size) step.release) ∷ past

-- The claim, which gets the next entry. The payload is whole, and its image has the step's raw number.
abbrev pub taken : Scene → ℕ → PlanStep → Chosen → List Event → List Event
taken s number step chosen past =
    Event.Claim s.client (request_of s number step chosen)
    (FetchNote.Whole chosen.release.digest chosen.release.size step.raw)
    (ClaimAnswer.Entry (next_entry s.basis past))
    ∷ past

-- A step of an entry, where it is the next one: it begins, and ends well with all its marks.
abbrev pub is_next : Option Op → Op → Bool
is_next None op = false
is_next (Some next) op = is_op next op

abbrev pub with_op : Scene → PlanStep → Chosen → ℕ → List Event → Op → List Event
with_op s step chosen entry past op =
    if is_next (next_op s.basis past entry) op
    then Event.End s.client entry op (Ok tt) (marks op entry chosen.release.digest)
    (shown_after op (waits_for_boot s step.device past) step.raw (seen_of s step.device past))
    ∷ Event.Start s.client entry op ∷ past
    else past

-- The log behind the claim with some of the steps, in their order.
abbrev pub with_some : Scene → ℕ → PlanStep → Chosen → List Op → List Event → List Event
with_some s number step chosen ops past =
    fold (with_op s step chosen (next_entry s.basis past)) (taken s number step chosen (asked s number step chosen past)) ops

-- All steps of the entry, in their order.
abbrev pub with_ops : Scene → PlanStep → Chosen → ℕ → List Event → List Event
with_ops s step chosen entry past = fold (with_op s step chosen entry) past all_ops

-- The log before the finish.
abbrev pub done : Scene → ℕ → PlanStep → Chosen → List Event → List Event
done s number step chosen past = with_ops s step chosen (next_entry s.basis past) (taken s number step chosen (asked s number step chosen past))

-- In which state the entry ends.
abbrev pub end_of : Scene → ℕ → PlanStep → Chosen → List Event → RowState
end_of s number step chosen past =
    unwrap_or (closing s.basis (done s number step chosen past) (next_entry s.basis past)) RowState.Begun

-- The whole install.
abbrev pub installed_with : Scene → ℕ → PlanStep → Chosen → List Event → List Event
installed_with s number step chosen past =
    Event.Finish s.client (next_entry s.basis past) (end_of s number step chosen past) Stored.Yes ∷ done s number step chosen past

unfoldable pub installed : Scene → ℕ → PlanStep → List Event → List Event
installed s number step past = option_map_or (λ chosen. installed_with s number step chosen past) (release_at s step.release) past

-- The log after steps that are numbered on from a first one.
unfoldable pub after : Scene → ℕ → List PlanStep → List Event → List Event
after s number [] past = past
after s number (step ∷ steps) past = after s (number + 1) steps (installed s number step past)

-- ---- good steps

-- The decision is to accept, with that very release.
abbrev pub accepts : ReleaseRef → Decision → Bool
accepts at (Decision.Accept device release blocks) = is_release release at
accepts at (Decision.Kept entry state) = false
accepts at (Decision.Refused refusal) = false

-- The text of the raw number in the device's format is equal to the version.
abbrev pub writes : Scene → PlanStep → Chosen → List Event → Bool
writes s step chosen past =
    option_map_or (λ view. same_version (render view.sheet.format step.raw) chosen.release.version) (view_of s step.device past) false

abbrev pub is_ended : RowState → Bool
is_ended RowState.Success = true
is_ended RowState.NeedsReboot = true
is_ended RowState.Failed = false
is_ended RowState.Begun = false
is_ended RowState.Pending = false

-- The step is good after a past: its release is in the catalogue, and its raw number writes the version; it
-- is accepted at its ask and at its claim; and it ends as a success, or waits for a boot.
abbrev pub is_good_with : Scene → ℕ → PlanStep → List Event → Chosen → Bool
is_good_with s number step past chosen =
    writes s step chosen past
    && accepts step.release (verdict s.basis past s.client (request_of s number step chosen) Stage.Ask)
    && accepts step.release
    (verdict s.basis (asked s number step chosen past) s.client (request_of s number step chosen) (Stage.Claim step.release))
    && is_ended (end_of s number step chosen past)

unfoldable pub is_good : Scene → ℕ → PlanStep → List Event → Bool
is_good s number step past = option_map_or (is_good_with s number step past) (release_at s step.release) false

-- The number of the first step that isn't good after those before it.
unfoldable pub first_bad : Scene → ℕ → List PlanStep → List Event → Option ℕ
first_bad s number [] past = None
first_bad s number (step ∷ steps) past =
    if is_good s number step past then first_bad s (number + 1) steps (installed s number step past) else Some number

-- ---- the plan

-- The step that puts a release on a device, with the least raw number that writes its version.
abbrev pub step_of : DeviceView → Chosen → Option PlanStep
step_of view chosen =
    option_map
    (λ raw. record { device = view.sheet.device; release = chosen.at; raw = raw })
    (raw_of view.sheet.format chosen.release.version)

-- The release is above the version that the device shows.
abbrev pub is_above : DeviceView → Chosen → Bool
is_above view chosen = option_map_or (λ shown. is_lt (version_cmp shown chosen.release.version)) (version_of view) false

-- It may come next: it is above the version shown, has a raw number, and its step is good.
abbrev pub may_come : Scene → ℕ → DeviceView → List Event → Chosen → Bool
may_come s number view past chosen =
    is_above view chosen && option_map_or (λ step. is_good s number step past) (step_of view chosen) false

-- The highest release of a list: the first that none is above.
abbrev pub highest : List Chosen → Option Chosen
highest all =
    find (λ chosen. not (list_any (λ other. is_lt (version_cmp chosen.release.version other.release.version)) all)) all

-- The next step of a device: with the highest release that may come next.
unfoldable pub next_step : Scene → ℕ → List ℕ → List Event → Option PlanStep
next_step s number device past =
    option_and_then
    (λ view. option_and_then (step_of view) (highest (filter (may_come s number view past) (all_releases s.basis.facts.catalogue))))
    (view_of s device past)

-- All steps of a device, one after the other as long as there is one, but no more than so many.
unfoldable pub chain : Scene → List ℕ → ℕ → ℕ → List Event → List PlanStep
chain s device zero number past = []
chain s device (suc left) number past =
    option_map_or (λ step. step ∷ chain s device left (number + 1) (installed s number step past)) (next_step s number device past) []

-- The steps of devices, one device after the other, and no more than so many.
unfoldable pub chains : Scene → List (List ℕ) → ℕ → ℕ → List Event → List PlanStep
chains s [] left number past = []
chains s (device ∷ devices) left number past =
    let own = chain s device left number past in
    own ++ chains s devices (left - length own) (number + length own) (after s number own past)

-- The ID of the device at a place.
abbrev pub device_at : List DeviceView → ℕ → List ℕ
device_at views at = option_map_or (λ view. view.sheet.device) (slice_get views at) []

-- The devices in the order of the walk.
abbrev pub visited : List DeviceView → List (List ℕ)
visited views = map (device_at views) (walk views)

-- The most steps of a plan.
abbrev pub steps_max : ℕ
steps_max = 8192

-- The plan after a past.
unfoldable pub plan : Scene → List Event → List PlanStep
plan s past = chains s (visited (views s.basis past)) steps_max 1 past
