-- Finishes and judgements, on the log of a house.
use Rattle.std.proofs.Common.{◌≡◌, ℕ, false, List, refl, ap, sym, ◌∙◌, inl, inr}
use Rattle.std.specs.Prelude.{Result, Ok, Err, option_map}
use Rattle.block_pool.specs.Views.{SealedBytes}
use Rattle.device_list.specs.declared.selector.Selector.{Selector}
use Rattle.emulated_boards.specs.Boards.{BoardState}
use Rattle.fw_facts.specs.declared.view.DeviceView.{DeviceView}
use Rattle.history_keeper.specs.declared.row.Row.{Row}
use Rattle.history_keeper.specs.Signs.{KeeperSigns}
use Rattle.update_log.specs.declared.event.Event.{Event}
use Rattle.update_log.specs.declared.event.Query.{Query}
use Rattle.update_log.specs.Known.{row_of, rows, views}
use Rattle.update_log.specs.Pasts.{off}
use Rattle.daemon_core.specs.declared.finished.Finished.{Finished}
use Rattle.daemon_core.specs.declared.finished.FinishStop.{FinishStop}
use Rattle.daemon_core.specs.declared.judged.Judged.{Judged}
use Rattle.daemon_core.specs.declared.judged.Settling.{Settling}
use Rattle.daemon_core.specs.declared.stop.Stop.{Stop}
use Rattle.daemon_core.specs.HouseLog.{Appended, IsHouseLog, Runs, Unchanged}
use Rattle.daemon_core.specs.Finishes.{FinishedSo}
use Rattle.daemon_core.specs.Housed.{basis_in, HouseLogView, Housed, past, past_in}
use Rattle.daemon_core.specs.Judging.{JudgeTurned, standing, standing_of}
use Rattle.daemon_core.specs.Settling.{SettleTurned, device_row, row_to_settle}
use Rattle.turn_lock.specs.Lists.{AddsAtMostOne}
use Rattle.shared_daemon.specs.declared.entry.Entry.{Entry}
use Rattle.shared_daemon.specs.Calls.{AddsNone, AddsOn, FinishedIn, JudgedIn, SettledIn, device_in, standing_in}
use Rattle.shared_daemon.specs.Entries.{chronicle, entries_in, maker_of}
use Rattle.shared_daemon.specs.Names.{KeepsName, Name}
use Rattle.shared_daemon.proofs.Keeping.{Grew, calm-grew, off-calm}
use Rattle.shared_daemon.proofs.Logs.{entries-appended, entries-same}
use Rattle.shared_daemon.proofs.Seeing.{to-name}
use Rattle.shared_daemon.proofs.Turning.{adds-none, adds-off, adds-on, found-off, off-in}

-- What was put behind the log, in its list.
on-in : (client : ℕ) (event : Event) (old new : HouseLogView) → IsHouseLog old → Runs old → Appended client event old new → AddsOn client event (entries_in old) (entries_in new)
on-in client event old new k r a = (off-in old false k r.on, entries-appended client event old new k a)

none-in : (old new : HouseLogView) → IsHouseLog old → off (past_in old) ≡ false → Unchanged old new → AddsNone (entries_in old) (entries_in new)
none-in old new k e u = (off-in old false k e, entries-same old new u)

-- Finishes.
pub finished-in : {K : Type 0} (client entry number : ℕ) (board : BoardState) (payload : SealedBytes) (result : Result Finished FinishStop) (old new : Housed K) → IsHouseLog old.house_log → FinishedSo client entry number board payload result old new → FinishedIn client entry board payload result (chronicle old) (chronicle new)
finished-in client entry number board payload (Ok finished) old new k f = on-in client (Event.Finish client entry finished.state finished.stored) old.house_log new.house_log k f.0 f.1
finished-in client entry number board payload (Err stop) old new k f = (found-off client old.house_log new.house_log k f.0, f.2, f.3)

pub finished-grew : {K : Type 0} (client entry number : ℕ) (board : BoardState) (payload : SealedBytes) (result : Result Finished FinishStop) (old new : Housed K) → FinishedSo client entry number board payload result old new → Grew client old.house_log new.house_log
finished-grew client entry number board payload (Ok finished) old new f = inr (Event.Finish client entry finished.state finished.stored, refl, f.1)
finished-grew client entry number board payload (Err stop) old new f = calm-grew client old.house_log new.house_log (off-calm client old.house_log new.house_log f.0)

pub finished-adds : (client entry : ℕ) (board : BoardState) (payload : SealedBytes) (result : Result Finished FinishStop) (met log : List Entry) → FinishedIn client entry board payload result met log → AddsAtMostOne maker_of client met log
finished-adds client entry board payload (Ok finished) met log f = adds-on client (Event.Finish client entry finished.state finished.stored) met log f
finished-adds client entry board payload (Err stop) met log f = adds-off client met log f.0

-- Judgements.
module _ {K : Type 0} (signs : KeeperSigns K) (name : Name) (h : Housed K) where
  pub standing-met : (entry : ℕ) → KeepsName signs name h → IsHouseLog h.house_log → standing_of h.house_log entry ≡ standing_in name (chronicle h) entry
  standing-met entry n k =
      to-name signs name h n k (λ base s p. standing_of h.house_log entry ≡ option_map (standing p (views base p) entry) (row_of (rows base p) entry))
      (ap (λ (v : List DeviceView). option_map (standing (past h) v entry) (row_of h.house_log.core.rows entry)) k.stands.views
      ∙ ap (λ (r : List Row). option_map (standing (past h) (views (basis_in h.house_log) (past h)) entry) (row_of r entry)) k.stands.rows)

  pub device-met : (device : Selector) → KeepsName signs name h → IsHouseLog h.house_log → row_to_settle h.house_log device ≡ device_in name (chronicle h) device
  device-met device n k =
      to-name signs name h n k (λ base s p. row_to_settle h.house_log device ≡ device_row (views base p) (rows base p) device)
      (ap (λ (v : List DeviceView). device_row v h.house_log.core.rows device) k.stands.views
      ∙ ap (λ (r : List Row). device_row (views (basis_in h.house_log) (past h)) r device) k.stands.rows)

pub judged-in : {K : Type 0} (signs : KeeperSigns K) (name : Name) (client entry : ℕ) (result : Result Judged Stop) (old new : Housed K) → KeepsName signs name old → IsHouseLog old.house_log → JudgeTurned client entry result old.house_log new.house_log
    → JudgedIn name client entry result (chronicle old) (chronicle new)
judged-in signs name client entry (Ok (Judged.Done state stored)) old new n k j = (
  j.1.0,
  sym (standing-met signs name old entry n k) ∙ j.1.1,
  on-in client (Event.Judge client entry j.1.0 state stored) old.house_log new.house_log k j.0 j.1.2,
)
judged-in signs name client entry (Ok Judged.Absent) old new n k j = (sym (standing-met signs name old entry n k) ∙ j.1, none-in old.house_log new.house_log k j.0 j.2)
judged-in signs name client entry (Ok Judged.Waits) old new n k j = (sym (standing-met signs name old entry n k) ∙ j.1, none-in old.house_log new.house_log k j.0 j.2)
judged-in signs name client entry (Ok Judged.Settled) old new n k j = (sym (standing-met signs name old entry n k) ∙ j.1, none-in old.house_log new.house_log k j.0 j.2)
judged-in signs name client entry (Err Stop.Off) old new n k j = found-off client old.house_log new.house_log k j
judged-in signs name client entry (Err Stop.NoMemory) old new n k j = none-in old.house_log new.house_log k j.0 j.1

pub judged-grew : (client entry : ℕ) (result : Result Judged Stop) (old new : HouseLogView) → JudgeTurned client entry result old new → Grew client old new
judged-grew client entry (Ok (Judged.Done state stored)) old new j = inr (Event.Judge client entry j.1.0 state stored, refl, j.1.2)
judged-grew client entry (Err Stop.Off) old new j = calm-grew client old new (off-calm client old new j)
judged-grew client entry (Err Stop.NoMemory) old new j = inl j.1
judged-grew client entry _ old new j = inl j.2

pub judged-adds : (name : Name) (client entry : ℕ) (result : Result Judged Stop) (met log : List Entry) → JudgedIn name client entry result met log → AddsAtMostOne maker_of client met log
judged-adds name client entry (Ok (Judged.Done state stored)) met log j = adds-on client (Event.Judge client entry j.0 state stored) met log j.2
judged-adds name client entry (Err Stop.Off) met log j = adds-off client met log j
judged-adds name client entry (Err Stop.NoMemory) met log j = adds-none client met log j
judged-adds name client entry _ met log j = adds-none client met log j.1

-- Devices that are settled.
pub settled-in : {K : Type 0} (signs : KeeperSigns K) (name : Name) (client : ℕ) (device : Selector) (result : Result Settling Stop) (old new : Housed K) → KeepsName signs name old → IsHouseLog old.house_log → SettleTurned client device result old.house_log new.house_log
    → SettledIn name client device result (chronicle old) (chronicle new)
settled-in signs name client device (Ok (Settling.Judged entry state stored)) old new n k j = (
  sym (device-met signs name old device n k) ∙ j.1,
  (j.2.0, sym (standing-met signs name old entry n k) ∙ j.2.1, on-in client (Event.Judge client entry j.2.0 state stored) old.house_log new.house_log k j.0 j.2.2),
)
settled-in signs name client device (Ok Settling.NoDevice) old new n k j = (
  sym (device-met signs name old device n k) ∙ j.1,
  on-in client (Event.Query client (Query.Settle device)) old.house_log new.house_log k j.0 j.2,
)
settled-in signs name client device (Ok (Settling.Waits entry)) old new n k j = (
  sym (device-met signs name old device n k) ∙ j.1,
  sym (standing-met signs name old entry n k) ∙ j.2,
  on-in client (Event.Query client (Query.Settle device)) old.house_log new.house_log k j.0 j.3,
)
settled-in signs name client device (Ok Settling.Nothing) old new n k j = (
  sym (device-met signs name old device n k) ∙ j.1,
  on-in client (Event.Query client (Query.Settle device)) old.house_log new.house_log k j.0 j.2,
)
settled-in signs name client device (Err Stop.Off) old new n k j = found-off client old.house_log new.house_log k j
settled-in signs name client device (Err Stop.NoMemory) old new n k j = none-in old.house_log new.house_log k j.0 j.1

pub settled-grew : (client : ℕ) (device : Selector) (result : Result Settling Stop) (old new : HouseLogView) → SettleTurned client device result old new → Grew client old new
settled-grew client device (Ok (Settling.Judged entry state stored)) old new j = inr (Event.Judge client entry j.2.0 state stored, refl, j.2.2)
settled-grew client device (Ok Settling.NoDevice) old new j = inr (Event.Query client (Query.Settle device), refl, j.2)
settled-grew client device (Ok (Settling.Waits entry)) old new j = inr (Event.Query client (Query.Settle device), refl, j.3)
settled-grew client device (Ok Settling.Nothing) old new j = inr (Event.Query client (Query.Settle device), refl, j.2)
settled-grew client device (Err Stop.Off) old new j = calm-grew client old new (off-calm client old new j)
settled-grew client device (Err Stop.NoMemory) old new j = inl j.1

pub settled-adds : (name : Name) (client : ℕ) (device : Selector) (result : Result Settling Stop) (met log : List Entry) → SettledIn name client device result met log → AddsAtMostOne maker_of client met log
settled-adds name client device (Ok (Settling.Judged entry state stored)) met log j = adds-on client (Event.Judge client entry j.1.0 state stored) met log j.1.2
settled-adds name client device (Ok Settling.NoDevice) met log j = adds-on client (Event.Query client (Query.Settle device)) met log j.1
settled-adds name client device (Ok (Settling.Waits entry)) met log j = adds-on client (Event.Query client (Query.Settle device)) met log j.2
settled-adds name client device (Ok Settling.Nothing) met log j = adds-on client (Event.Query client (Query.Settle device)) met log j.1
settled-adds name client device (Err Stop.Off) met log j = adds-off client met log j
settled-adds name client device (Err Stop.NoMemory) met log j = adds-none client met log j
