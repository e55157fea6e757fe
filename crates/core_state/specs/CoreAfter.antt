-- A state that takes an event.
use Rattle.std.specs.Prelude.{◌≡◌, true, ◌<◌, ◌≤◌, ◌+◌, ◌^◌, List, [], ◌∷◌, ◌++◌, All, length, map}
use Rattle.update_log.specs.declared.event.Event.{Event}
use Rattle.update_log.specs.declared.facts.Facts.{Facts}
use Rattle.fw_facts.specs.declared.view.DeviceView.{DeviceView}
use Rattle.history_keeper.specs.declared.change.Change.{Change}
use Rattle.std.specs.Prelude.{Option}
use Rattle.core_state.specs.Core.{Core}
use Rattle.core_state.specs.CoreSteps.{HasPlace, asks_row, change_on, changed_if, doubt_at, made_at, tells_on, traces_on}
use Rattle.core_state.specs.CoreViews.{claimed, told_on}
use Rattle.update_log.specs.Holding.{holds, live, live_after}
use Rattle.update_log.specs.Pasts.{past_of, time_of}
use Rattle.history_keeper.specs.declared.row.Row.{Row}

-- The change that the event asks for, over what is kept.
abbrev pub change_of : Facts → Core → Event → Option Change
change_of facts core event = change_on facts (time_of (past_of core.log)) core.views core.rows event

-- The rows after the event, and the views after it, with the claims from before.
abbrev pub rows_on : Facts → Core → Event → List Row
rows_on facts core event = changed_if (made_at event (change_of facts core event) core.doubt) core.rows

abbrev pub views_told : Core → Event → List DeviceView
views_told core event = told_on (tells_on core.boards core.views core.rows event) core.boards core.views

-- There is room for the event and for a row that it adds, whose number fits; an entry that ends a step
-- has place for it; the traces are those of the live entries then, too; and each device has its live
-- entry of before over the rows then, too.
pub record Takes (facts : Facts) (core : Core) (event : Event) : Type 0 where
  pub room : 0 < core.room
  pub row_room : length (changed_if (made_at event (change_of facts core event) core.doubt) core.rows) ≤ length core.rows + core.row_room
  pub few : asks_row event ≡ true → length core.rows + 1 < 2 ^ 32
  pub places : All (HasPlace event) core.traces
  pub claims : map (claimed (rows_on facts core event) (live (past_of core.log))) (views_told core event) ≡ views_told core event
  pub entries : map (λ t. t.entry) (traces_on facts core.views (holds (past_of core.log)) event core.traces) ≡ map (λ l. l.entry) (live_after event (live (past_of core.log)))

-- The state after the event.
pub record IsAfter (facts : Facts) (event : Event) (old : Core) (new : Core) : Type 0 where
  pub log : new.log ≡ old.log ++ event ∷ []
  pub rows : new.rows ≡ changed_if (made_at event (change_of facts old event) old.doubt) old.rows
  pub views : new.views ≡ map (claimed new.rows (live_after event (live (past_of old.log)))) (told_on (tells_on old.boards old.views old.rows event) old.boards old.views)
  pub boards : new.boards ≡ old.boards
  pub traces : new.traces ≡ traces_on facts old.views (holds (past_of old.log)) event old.traces
  pub doubt : new.doubt ≡ doubt_at event (change_of facts old event) old.doubt
