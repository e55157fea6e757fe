-- The verdict on a request.
use Rattle.std.specs.Prelude.{ℕ, Bool, true, false, ◌&&◌, ◌||◌, not, ◌==◌, nat_lt, nat_le, ◌-◌, List, [], ◌∷◌, Option, Some, None, if◌then◌else◌, find, length, slice_get, is_some, unwrap_or, option_map, option_and_then}
use Rattle.std.specs.List.{list_any}
use Rattle.std.specs.Option.{option_or}
use Rattle.std.specs.Str.{bytes_eq}
use Rattle.std.specs.Ordering.{is_lt}
use Rattle.version_formats.specs.VersionOrder.{version_cmp, same_version}
use Rattle.fw_facts.specs.declared.flags.DeviceFlag.{DeviceFlag}
use Rattle.fw_facts.specs.declared.view.DeviceView.{DeviceView}
use Rattle.fw_facts.specs.Flags.{has_flag}
use Rattle.fw_facts.specs.Views.{flags_of, is_home, version_of}
use Rattle.fw_facts.specs.Problems.{hindrance}
use Rattle.fw_facts.specs.Machines.{rule_holds}
use Rattle.requirements.specs.declared.unmet.Unmet.{Unmet}
use Rattle.release_catalogue.specs.declared.reference.ReleaseRef.{ReleaseRef}
use Rattle.device_list.specs.Lists.{place}
use Rattle.history_keeper.specs.declared.row.Row.{Row}
use Rattle.history_keeper.specs.Histories.{is_failed, is_unsettled, tries}
use Rattle.update_log.specs.declared.event.Event.{Event}
use Rattle.update_log.specs.declared.refusal.Refusal.{Refusal}
use Rattle.update_log.specs.declared.refusal.RetryFault.{RetryFault}
use Rattle.update_log.specs.declared.request.Request.{Request}
use Rattle.update_log.specs.declared.facts.Facts.{Facts}
use Rattle.update_log.specs.declared.decision.Decision.{Decision}
use Rattle.update_log.specs.declared.decision.Stage.{Stage}
use Rattle.update_log.specs.declared.live.LiveEntry.{LiveEntry}
use Rattle.requirements.specs.Requirements.{first_unmet}
use Rattle.release_catalogue.specs.Lookup.{Chosen}
use Rattle.update_log.specs.Holding.{live, is_live, held, blocks_of}
use Rattle.update_log.specs.Known.{Basis, Target, target, row_of, row_with_tag, rows, views}

-- All that a decision reads.
pub record Case : Type 0 where
  pub facts : Facts
  pub views : List DeviceView
  pub rows : List Row
  pub live : List LiveEntry
  pub held : ℕ
  pub client : ℕ
  pub request : Request
  pub stage : Stage

-- The entry of the pending row that makes the request, where one does.
abbrev pub pending_of : Stage → Option ℕ
pending_of Stage.Ask = None
pending_of (Stage.AskPending entry) = Some entry
pending_of (Stage.Claim release) = None
pending_of Stage.Schedule = None
pending_of (Stage.Resume entry release) = Some entry

-- That row.
abbrev pub own_row : Case → Option Row
own_row c = option_and_then (row_of c.rows) (pending_of c.stage)

-- The release that the ask found, where there was an ask before.
abbrev pub release_asked : Stage → Option ReleaseRef
release_asked Stage.Ask = None
release_asked (Stage.AskPending entry) = None
release_asked (Stage.Claim release) = Some release
release_asked Stage.Schedule = None
release_asked (Stage.Resume entry release) = Some release

-- Blocks are to be held.
abbrev pub wants_room : Stage → Bool
wants_room Stage.Ask = true
wants_room (Stage.AskPending entry) = true
wants_room (Stage.Claim release) = false
wants_room Stage.Schedule = false
wants_room (Stage.Resume entry release) = false

-- A row is to be added.
abbrev pub wants_row : Stage → Bool
wants_row Stage.Ask = false
wants_row (Stage.AskPending entry) = false
wants_row (Stage.Claim release) = true
wants_row Stage.Schedule = true
wants_row (Stage.Resume entry release) = false

-- The row that has the request's tag. A pending row's request skips this.
abbrev pub kept : Case → Option Row
kept c = if is_some (pending_of c.stage) then None else row_with_tag c.rows c.request.tag

-- The place, where that device is present.
abbrev pub where_home : Case → ℕ → Option ℕ
where_home c at = option_and_then (λ view. if is_home view.seen then Some at else None) (slice_get c.views at)

-- The device that the selector finds, where it is present.
abbrev pub present : Case → Option ℕ
present c = option_and_then (where_home c) (place c.request.device c.views)

abbrev pub is_release : ReleaseRef → ReleaseRef → Bool
is_release a b = (a.component == b.component) && (a.release == b.release)

-- The release found is the one of the ask, and has the digest of the pending row.
abbrev pub is_that_release : Case → Chosen → Bool
is_that_release c found =
    unwrap_or (option_map (λ r. is_release r found.at) (release_asked c.stage)) true
    && unwrap_or (option_map (λ r. bytes_eq r.digest found.release.digest) (own_row c)) true

-- A refusal, where a test passes.
abbrev pub where_so : Bool → Refusal → Option Refusal
where_so test refusal = if test then Some refusal else None

-- 3: the device has a live entry.
abbrev pub busy : Case → Target → Option Refusal
busy c t = option_map (λ entry. Refusal.Busy entry) t.view.claim

-- The row is the one that makes the request.
abbrev pub is_own : Case → Row → Bool
is_own c r = unwrap_or (option_map (λ entry. entry == r.entry) (pending_of c.stage)) false

-- The row is of that device, waits for its end, isn't live, and isn't the request's own.
abbrev pub is_in_the_way : Case → Target → Row → Bool
is_in_the_way c t r =
    bytes_eq r.device t.view.sheet.device && is_unsettled r.state && not (is_live c.live r.entry) && not (is_own c r)

-- 4: the device has such a row.
abbrev pub unsettled : Case → Target → Option Refusal
unsettled c t = option_map (λ r. Refusal.Unsettled r.entry) (find (is_in_the_way c t) c.rows)

-- 17: the request names a row that it can't try again. Why not, each cause by itself, in the order in which they are named:

-- A cause, where a test passes.
abbrev pub fault_where : Bool → RetryFault → Option RetryFault
fault_where test fault = if test then Some fault else None

-- the row is of another device than the request's,
abbrev pub of_other_device : Target → Row → Option RetryFault
of_other_device t r = fault_where (not (bytes_eq r.device t.view.sheet.device)) RetryFault.OtherDevice

-- it hasn't failed,
abbrev pub not_failed : Row → Option RetryFault
not_failed r = fault_where (not (is_failed r.state)) (RetryFault.NotFailed r.state)

-- another row tries it again already, which isn't the one that makes the request,
abbrev pub is_retry : Case → ℕ → Row → Bool
is_retry c entry r = tries entry r && not (is_own c r)

abbrev pub retried : Case → ℕ → Option RetryFault
retried c entry = option_map (λ r. RetryFault.Retried r.entry) (find (is_retry c entry) c.rows)

-- or the release has another payload than that of the row.
abbrev pub of_other_release : Target → Row → Option RetryFault
of_other_release t r = fault_where (not (bytes_eq r.digest t.chosen.release.digest)) RetryFault.OtherRelease

-- The first cause that there is, of the row that has the entry; and that there is no such row, before all others.
abbrev pub row_fault : Case → Target → ℕ → Row → Option RetryFault
row_fault c t entry r =
    option_or (of_other_device t r) (option_or (not_failed r) (option_or (retried c entry) (of_other_release t r)))

abbrev pub fault_of : Case → Target → ℕ → Option Row → Option RetryFault
fault_of c t entry None = Some RetryFault.NoRow
fault_of c t entry (Some r) = row_fault c t entry r

abbrev pub retry_fault : Case → Target → Option RetryFault
retry_fault c t = option_and_then (λ entry. fault_of c t entry (row_of c.rows entry)) c.request.retry_of

abbrev pub retry : Case → Target → Option Refusal
retry c t = option_map (λ fault. Refusal.Retry fault) (retry_fault c t)

-- The device has the flag.
abbrev pub has : Target → DeviceFlag → Bool
has t flag = has_flag flag (flags_of t.view)

-- 5: the device takes no updates. 6: it is locked.
abbrev pub not_updatable : Case → Target → Option Refusal
not_updatable c t = where_so (not (has t DeviceFlag.Updatable)) Refusal.NotUpdatable

abbrev pub locked : Case → Target → Option Refusal
locked c t = where_so (has t DeviceFlag.Locked) Refusal.Locked

-- 7: the device has a problem.
abbrev pub hindered : Case → Target → Option Refusal
hindered c t = option_map (λ problem. Refusal.Problem problem) (hindrance c.facts.machine t.view)

-- The version that the device shows.
abbrev pub shown_by : Target → List ℕ
shown_by t = unwrap_or (version_of t.view) []

-- 8: the release has the same version, and a reinstall isn't allowed.
abbrev pub installed : Case → Target → Option Refusal
installed c t =
    where_so
    (same_version t.chosen.release.version (shown_by t) && not c.request.flags.allow_reinstall)
    Refusal.SameVersion

-- 9: it has an older one, and that isn't allowed.
abbrev pub older : Case → Target → Option Refusal
older c t =
    where_so
    (is_lt (version_cmp t.chosen.release.version (shown_by t)) && not c.request.flags.allow_older)
    Refusal.Older

-- The features of a client, from client 1 on. Any other has none.
abbrev pub features_for : Facts → ℕ → List (List ℕ)
features_for facts client = if client == 0 then [] else unwrap_or (slice_get facts.features (client - 1)) []

-- The client whose features count: that of a pending row where one makes the request.
abbrev pub client_for : Case → ℕ
client_for c = unwrap_or (option_map (λ r. r.client) (own_row c)) c.client

-- The first requirement of the release that doesn't hold.
abbrev pub first_unmet_for : Facts → ℕ → List DeviceView → Target → Option Unmet
first_unmet_for facts client views t =
    first_unmet facts.machine (features_for facts client) views t.place t.chosen.component.requirements

-- 10: a requirement doesn't hold.
abbrev pub unmet : Case → Target → Option Refusal
unmet c t = option_map (λ u. Refusal.Unmet u) (first_unmet_for c.facts (client_for c) c.views t)

-- 11: a plugin forbids it. The first one in order with a rule that holds is named.
abbrev pub vetoed : Case → Target → Option Refusal
vetoed c t =
    option_map
    (λ v. Refusal.Veto v.plugin)
    (find (λ v. list_any (rule_holds c.facts.machine t.view) v.rules) c.facts.vetoes)

-- 12: the payload's size is outside what the board takes.
abbrev pub out_of_size : Case → Target → Option Refusal
out_of_size c t =
    where_so
    (nat_lt t.chosen.release.size t.view.sheet.size_min || nat_lt t.view.sheet.size_max t.chosen.release.size)
    (Refusal.Size t.chosen.release.size t.view.sheet.size_min t.view.sheet.size_max)

-- The blocks that the payload takes, and those that are free.
abbrev pub need : Target → ℕ
need t = blocks_of t.chosen.release.size

abbrev pub free : Case → ℕ
free c = c.facts.pool - c.held

-- 13: at an ask, there are too few.
abbrev pub no_room : Case → Target → Option Refusal
no_room c t = where_so (wants_room c.stage && nat_lt (free c) (need t)) (Refusal.NoRoom (need t) (free c))

-- The most rows of a history.
abbrev pub rows_max : ℕ
rows_max = 65536

-- 15: where a row is to be added, the history is full.
abbrev pub rows_full : Case → Target → Option Refusal
rows_full c t = where_so (wants_row c.stage && nat_le rows_max (length c.rows)) Refusal.RowsFull

-- What may refuse a request whose device is present and has the release, in order: that of the numbers, but for 17, which
-- stands right behind 4.
abbrev pub refusals : Case → Target → List (Option Refusal)
refusals c t =
    busy c t ∷ unsettled c t ∷ retry c t ∷ not_updatable c t ∷ locked c t ∷ hindered c t ∷ installed c t ∷ older c t
    ∷ unmet c t ∷ vetoed c t ∷ out_of_size c t ∷ no_room c t ∷ rows_full c t ∷ []

-- The first refusal that there is.
abbrev pub first_refusal : List (Option Refusal) → Option Refusal
first_refusal [] = None
first_refusal (Some refusal ∷ rest) = Some refusal
first_refusal (None ∷ rest) = first_refusal rest

abbrev pub refused_or : Option Refusal → Decision → Decision
refused_or (Some refusal) accepted = Decision.Refused refusal
refused_or None accepted = accepted

-- The request is accepted for its target, unless something refuses it.
abbrev pub on_target : Case → Target → Decision
on_target c t = refused_or (first_refusal (refusals c t)) (Decision.Accept t.place t.chosen.at (need t))

-- 2: there is no release of that version for the device, or it is another one than at the ask.
abbrev pub on_found : Case → Option Target → Decision
on_found c None = Decision.Refused Refusal.NoRelease
on_found c (Some t) = if is_that_release c t.chosen then on_target c t else Decision.Refused Refusal.NoRelease

-- 1: the selector finds no device, or the device isn't present.
abbrev pub on_present : Case → Option ℕ → Decision
on_present c None = Decision.Refused Refusal.NoDevice
on_present c (Some at) = on_found c (target c.facts c.views c.request)

-- A tag that a row has is answered with that row.
abbrev pub on_kept : Case → Option Row → Decision
on_kept c (Some row) = Decision.Kept row.entry row.state
on_kept c None = on_present c (present c)

-- What is decided of a case.
abbrev pub decided : Case → Decision
decided c = on_kept c (kept c)

-- What a client's request is after a past, at a stage.
abbrev pub case_of : Basis → List Event → ℕ → Request → Stage → Case
case_of basis past client request stage =
    record {
      facts = basis.facts;
      views = views basis past;
      rows = rows basis past;
      live = live past;
      held = held past;
      client = client;
      request = request;
      stage = stage;
    }

-- The verdict on it.
abbrev pub verdict : Basis → List Event → ℕ → Request → Stage → Decision
verdict basis past client request stage = decided (case_of basis past client request stage)
