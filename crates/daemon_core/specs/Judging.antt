-- How a row stands to its judgement, and what a judgement is answered.
use Rattle.std.specs.Prelude.{◌≡◌, ℕ, Bool, true, false, ◌||◌, List, Option, Some, None, if◌then◌else◌, option_map, Result, Ok, Err}
use Rattle.fw_facts.specs.Views.{version_of}
use Rattle.fw_facts.specs.declared.view.DeviceView.{DeviceView}
use Rattle.history_keeper.specs.Histories.{is_unsettled}
use Rattle.history_keeper.specs.declared.row.Row.{Row}
use Rattle.history_keeper.specs.declared.row.RowState.{RowState}
use Rattle.update_log.specs.declared.event.Event.{Event}
use Rattle.update_log.specs.Holding.{is_live, live}
use Rattle.update_log.specs.Known.{row_of}
use Rattle.update_log.specs.Pasts.{finished, off}
use Rattle.update_log.specs.Steps.{judge, view_of_row}
use Rattle.daemon_core.specs.HouseLog.{Appended, Runs, Unchanged}
use Rattle.daemon_core.specs.Housed.{HouseLogView, past_in}
use Rattle.daemon_core.specs.Turns.{WentOff}
use Rattle.daemon_core.specs.declared.judged.Judged.{Judged}
use Rattle.daemon_core.specs.declared.judged.Standing.{Standing}
use Rattle.daemon_core.specs.declared.stop.Stop.{Stop}

-- A row that isn't settled can't be judged now: it is put off, or it is live, or it needs a boot and was
-- finished in this one.
abbrev pub must_wait : List Event → ℕ → RowState → Bool
must_wait past entry RowState.Pending = true
must_wait past entry RowState.Begun = is_live (live past) entry
must_wait past entry RowState.NeedsReboot = is_live (live past) entry || finished entry past
must_wait past entry RowState.Success = false
must_wait past entry RowState.Failed = false

-- A device that isn't there shows no version. Where one is shown, the row is judged by it.
abbrev pub judged_by : Row → Option (List ℕ) → Standing
judged_by row None = Standing.Absent
judged_by row (Some version) = Standing.Judged version (judge version row)

abbrev pub judged_on : Row → Option DeviceView → Standing
judged_on row None = Standing.Absent
judged_on row (Some view) = judged_by row (version_of view)

-- How the row of an entry stands to its judgement: it is settled, or it must wait, or its device isn't
-- there, or else it is judged.
abbrev pub standing : List Event → List DeviceView → ℕ → Row → Standing
standing past views entry row =
    if is_unsettled row.state
    then (if must_wait past entry row.state then Standing.Waits else judged_on row (view_of_row views row))
    else Standing.Settled

-- The same over the log of a house log, where the entry has a row.
abbrev pub standing_of : HouseLogView → ℕ → Option Standing
standing_of a entry = option_map (standing (past_in a) a.core.views entry) (row_of a.core.rows entry)

-- What a client that judges an entry's row is answered: how the row stood. Only a judgement that was
-- done is put behind the log, and only one that is to be done takes a turn: where there is nothing to
-- judge, a boot whose limit is reached is not cut.
abbrev pub JudgeTurned : ℕ → ℕ → Result Judged Stop → HouseLogView → HouseLogView → Type 0
JudgeTurned client entry (Ok (Judged.Done state stored)) old new =
    Runs old
    × ((version : List ℕ) × (standing_of old entry ≡ Some (Standing.Judged version state)) × Appended client (Event.Judge client entry version state stored) old new)
JudgeTurned client entry (Ok Judged.Absent) old new = (off (past_in old) ≡ false) × (standing_of old entry ≡ Some Standing.Absent) × Unchanged old new
JudgeTurned client entry (Ok Judged.Waits) old new = (off (past_in old) ≡ false) × (standing_of old entry ≡ Some Standing.Waits) × Unchanged old new
JudgeTurned client entry (Ok Judged.Settled) old new = (off (past_in old) ≡ false) × (standing_of old entry ≡ Some Standing.Settled) × Unchanged old new
JudgeTurned client entry (Err Stop.Off) old new = WentOff client old new
JudgeTurned client entry (Err Stop.NoMemory) old new = (off (past_in old) ≡ false) × Unchanged old new
