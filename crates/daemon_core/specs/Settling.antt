-- What a client that settles a device is answered.
use Rattle.std.specs.Prelude.{◌≡◌, ℕ, false, ◌&&◌, List, Option, Some, None, if◌then◌else◌, find, Result, Ok, Err}
use Rattle.std.specs.Str.{bytes_eq}
use Rattle.device_list.specs.declared.selector.Selector.{Selector}
use Rattle.fw_facts.specs.Views.{is_home}
use Rattle.fw_facts.specs.declared.view.DeviceView.{DeviceView}
use Rattle.history_keeper.specs.Histories.{is_unsettled}
use Rattle.history_keeper.specs.declared.row.Row.{Row}
use Rattle.update_log.specs.declared.event.Event.{Event}
use Rattle.update_log.specs.declared.event.Query.{Query}
use Rattle.update_log.specs.Legal.{found_view}
use Rattle.update_log.specs.Pasts.{off}
use Rattle.daemon_core.specs.HouseLog.{Appended, Runs, Unchanged}
use Rattle.daemon_core.specs.Housed.{HouseLogView, past_in}
use Rattle.daemon_core.specs.Judging.{standing_of}
use Rattle.daemon_core.specs.Turns.{WentOff}
use Rattle.daemon_core.specs.declared.judged.DeviceRow.{DeviceRow}
use Rattle.daemon_core.specs.declared.judged.Settling.{Settling}
use Rattle.daemon_core.specs.declared.judged.Standing.{Standing}
use Rattle.daemon_core.specs.declared.stop.Stop.{Stop}

-- The row of a device that isn't settled: it is put off, or begun, or needs a boot.
abbrev pub waiting_row : List Row → List ℕ → Option Row
waiting_row rows device = find (λ r. bytes_eq r.device device && is_unsettled r.state) rows

abbrev pub row_found : Option Row → DeviceRow
row_found None = DeviceRow.Nothing
row_found (Some row) = DeviceRow.Waiting row.entry

-- A device that isn't there is as none.
abbrev pub row_on : List Row → Option DeviceView → DeviceRow
row_on rows None = DeviceRow.NoDevice
row_on rows (Some view) = if is_home view.seen then row_found (waiting_row rows view.sheet.device) else DeviceRow.NoDevice

-- What is found of the device of a selector.
abbrev pub device_row : List DeviceView → List Row → Selector → DeviceRow
device_row views rows selector = row_on rows (found_view views selector)

-- The same over the log of a house log.
abbrev pub row_to_settle : HouseLogView → Selector → DeviceRow
row_to_settle a selector = device_row a.core.views a.core.rows selector

-- A client that settles a device is answered what was found of it. Where its row was judged, that is put
-- behind the log, and else the question.
abbrev pub SettleTurned : ℕ → Selector → Result Settling Stop → HouseLogView → HouseLogView → Type 0
SettleTurned client device (Ok (Settling.Judged entry state stored)) old new =
    Runs old × (row_to_settle old device ≡ DeviceRow.Waiting entry)
    × ((version : List ℕ) × (standing_of old entry ≡ Some (Standing.Judged version state)) × Appended client (Event.Judge client entry version state stored) old new)
SettleTurned client device (Ok Settling.NoDevice) old new =
    Runs old × (row_to_settle old device ≡ DeviceRow.NoDevice) × Appended client (Event.Query client (Query.Settle device)) old new
SettleTurned client device (Ok (Settling.Waits entry)) old new =
    Runs old × (row_to_settle old device ≡ DeviceRow.Waiting entry) × (standing_of old entry ≡ Some Standing.Waits)
    × Appended client (Event.Query client (Query.Settle device)) old new
SettleTurned client device (Ok Settling.Nothing) old new =
    Runs old × (row_to_settle old device ≡ DeviceRow.Nothing) × Appended client (Event.Query client (Query.Settle device)) old new
SettleTurned client device (Err Stop.Off) old new = WentOff client old new
SettleTurned client device (Err Stop.NoMemory) old new = (off (past_in old) ≡ false) × Unchanged old new
