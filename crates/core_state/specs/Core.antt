-- What stands for a log.
use Rattle.std.specs.Prelude.{◌≡◌, ℕ, ◌==◌, ◌-◌, ◌≤◌, min, List, map, length, Option, Some, vec_len, vec_capacity}
use Rattle.std.specs.List.{list_any}
use Rattle.fw_facts.specs.declared.view.DeviceView.{DeviceView}
use Rattle.history_keeper.specs.declared.change.Change.{Change}
use Rattle.history_keeper.specs.declared.row.Row.{Row}
use Rattle.history_keeper.specs.Histories.{IsHistory}
use Rattle.update_log.specs.declared.event.Event.{Event}
use Rattle.update_log.specs.declared.live.LiveEntry.{LiveEntry}
use Rattle.update_log.specs.declared.trace.Trace.{Trace}
use Rattle.update_log.specs.declared.trace.Traced.{Traced}
use Rattle.core_state.specs.declared.state.CoreState.TheInside.{Inside}
use Rattle.update_log.specs.Boards.{devices}
use Rattle.update_log.specs.Holding.{holds, live, open_steps}
use Rattle.update_log.specs.Known.{Basis, doubt, rows, views}
use Rattle.update_log.specs.Pasts.{boots, counted, finished, limit_of, off, past_of, time_of}
use Rattle.update_log.specs.Steps.{trace}

-- A log, with what it says of the rows, of each device, of each live entry and of the change in doubt;
-- and for how many events and rows more there is room.
pub record Core : Type 0 where
  pub log : List Event
  pub rows : List Row
  pub views : List DeviceView
  pub boards : List ℕ
  pub traces : List Traced
  pub doubt : Option Change
  pub room : ℕ
  pub row_room : ℕ

-- An entry with its trace, as it is kept, and as the log says it of a live entry.
abbrev pub trace_kept : Traced → ℕ × Option Trace
trace_kept t = (t.entry, Some t.trace)

abbrev pub trace_of_live : Basis → List Event → LiveEntry → ℕ × Option Trace
trace_of_live basis past l = (l.entry, trace basis l.entry past)

-- That is what the log says, over these facts and the rows before it, which are a valid history.
pub record Stands (basis : Basis) (core : Core) : Type 0 where
  pub history : IsHistory basis.opening
  pub rows : core.rows ≡ rows basis (past_of core.log)
  pub views : core.views ≡ views basis (past_of core.log)
  pub boards : core.boards ≡ map (λ b. b.number) (devices basis.facts)
  pub traces : map trace_kept core.traces ≡ map (trace_of_live basis (past_of core.log)) (live (past_of core.log))
  pub doubt : core.doubt ≡ doubt basis (past_of core.log)

-- The room that the shortest of the lists has which an event may make longer.
abbrev pub spare : Inside → ℕ
spare s =
    min (vec_capacity s.log - vec_len s.log)
    (min (vec_capacity s.live - vec_len s.live)
    (min (vec_capacity s.traces - vec_len s.traces)
    (min (vec_capacity s.holds - vec_len s.holds)
    (min (vec_capacity s.open - vec_len s.open) (vec_capacity s.finished - vec_len s.finished)))))

abbrev pub core_of : Inside → Core
core_of s =
    record {
      log = s.log.items;
      rows = s.rows.rows;
      views = s.devices;
      boards = s.boards.items;
      traces = s.traces.items;
      doubt = s.doubt;
      room = spare s;
      row_room = s.rows.room;
    }

-- What is kept beside the log is what the log says, so far as that needs no facts.
pub record IsCore (s : Inside) : Type 0 where
  pub live : s.live.items ≡ live (past_of s.log.items)
  pub holds : s.holds.items ≡ holds (past_of s.log.items)
  pub opened : s.open.items ≡ open_steps (past_of s.log.items)
  pub finished : (entry : ℕ) → finished entry (past_of s.log.items) ≡ list_any (λ e. e == entry) s.finished.items
  pub off : s.clock.off ≡ off (past_of s.log.items)
  pub boots : s.clock.boots ≡ boots (past_of s.log.items)
  pub time : s.clock.time ≡ time_of (past_of s.log.items)
  pub limit : s.clock.limit ≡ limit_of (past_of s.log.items)
  pub counted : s.clock.counted ≡ counted (past_of s.log.items)
  pub few_boots : s.clock.boots ≤ length s.log.items
  pub few_counted : s.clock.counted ≤ length s.log.items
  pub devices : length s.devices ≤ 256
  pub boards : length s.boards.items ≡ length s.devices
  pub entries : map (λ t. t.entry) s.traces.items ≡ map (λ l. l.entry) s.live.items
