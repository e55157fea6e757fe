-- What no turn changes, and what is always true of a log, of a house and of a pass that have a name.
use Rattle.std.specs.Prelude.{◌≡◌, ◌⊎◌, ◌<◌, ◌≤◌, ◌+◌, ◌-◌, ◌^◌, ℕ, true, false, List, [], length}
use Rattle.emulated_boards.specs.declared.fault.PlannedFault.{PlannedFault}
use Rattle.fw_facts.specs.declared.seen.Seen.{Seen}
use Rattle.history_keeper.specs.Histories.{IsHistory}
use Rattle.history_keeper.specs.Signs.{KeeperSigns}
use Rattle.history_keeper.specs.declared.row.Row.{Row}
use Rattle.update_log.specs.declared.facts.Facts.{Facts}
use Rattle.update_log.specs.Holding.{holds, live}
use Rattle.update_log.specs.Pasts.{boots}
use Rattle.update_log.specs.Known.{Basis, basis_of}
use Rattle.daemon_core.specs.HouseLog.{IsLegalSo}
use Rattle.daemon_core.specs.Housed.{Housed, past}
use Rattle.daemon_core.specs.Keeping.{keeper_faults}
use Rattle.daemon_core.specs.Planned.{HavePlans}
use Rattle.turn_lock.specs.Lists.{BeginsWith, beyond, made_by}
use Rattle.turn_lock.specs.Shown.{LockId, LockView, PassView, IsReady}
use Rattle.shared_daemon.specs.declared.entry.Entry.{Entry}
use Rattle.shared_daemon.specs.Entries.{AllMade, maker_of, past_seen}

-- What no turn changes: what the log stands on, what each first image shows, the faults that are planned for each
-- board, by its number, how many boots there were, and the log as the daemon began; of the
-- keeper, how many faults it had counted then, and how many the log told; how many it had counted as the first
-- house met it; and what was so of it as the daemon began, if it still tells rows.
pub record Name : Type 1 where
  pub basis : Basis
  pub first : List Seen
  pub plans : List (List PlannedFault)
  pub boots : ℕ
  pub start : List Entry
  pub start_faults : ℕ
  pub start_told : ℕ
  pub first_faults : ℕ
  pub came : Type 0

-- A name of nothing.
abbrev pub no_facts : Facts
no_facts =
    record {
      machine = record { ids = []; hardware = []; on_ac = false; power_low = false; lid_closed = false };
      catalogue = [];
      features = [];
      vetoes = [];
      sheets = [];
      pool = 0;
    }

abbrev pub no_name : Name
no_name =
    record {
      basis = basis_of no_facts [];
      first = [];
      plans = [];
      boots = 0;
      start = [];
      start_faults = 0;
      start_told = 0;
      first_faults = 0;
      came = Unit {0};
    }

-- A log of this name: it begins with the log as the daemon began, and had no boot since; it is legal, over
-- rows that are a valid history; and each event was made by its client.
pub record IsLogOf (name : Name) (log : List Entry) : Type 0 where
  pub history : IsHistory name.basis.opening
  pub begins : BeginsWith log name.start
  pub legal : IsLegalSo name.basis name.first (past_seen log)
  pub made : AllMade log
  pub boots_are : boots (past_seen log) ≡ name.boots

-- A house of this name, which was booted: its last boot read the history, and nobody opened the keeper again
-- since. Each board at home has the faults planned that its number has. Each fault of the keeper that the log
-- tells was counted by the keeper, or its count stands at its end; that count has not fallen since the daemon
-- began, and is as it was then while the log tells no more faults; and if the keeper tells rows, it came so.
pub record KeepsName {K : Type 0} (signs : KeeperSigns K) (name : Name) (h : Housed K) : Type 0 where
  pub facts_are : h.house_log.facts ≡ name.basis.facts
  pub first_are : h.house_log.first ≡ name.first
  pub opening_is : h.house_log.opening ≡ name.basis.opening
  pub loaded : h.house_log.loaded ≡ true
  pub reopened : h.house_log.reopened ≡ false
  pub booted : 0 < name.boots
  pub boots_are : boots (past h) ≡ name.boots
  pub planned : HavePlans name.plans h.places
  pub counted : (keeper_faults (past h) + name.first_faults ≤ signs.faults h.keeper) ⊎ (2 ^ 64 - 1 ≤ signs.faults h.keeper)
  pub counts : name.start_faults ≤ signs.faults h.keeper
  pub grows : name.start_told ≤ keeper_faults (past h)
  pub quiet : keeper_faults (past h) ≡ name.start_told → signs.faults h.keeper ≡ name.start_faults
  pub told : (all : List Row) → signs.tells h.keeper all → name.came

-- A pass of this lock that has no turn: what it saw is a log of the name, and its own entries are those
-- that it made since the daemon began.
pub record IsPass (lock : LockId) (name : Name) (pass : PassView Entry) : Type 0 where
  pub ready : IsReady lock pass
  pub base : pass.base ≡ length name.start
  pub log : IsLogOf name pass.seen
  pub mine : pass.mine ≡ made_by maker_of pass.number (beyond name.start pass.seen)

-- The client has nothing out in what was seen.
abbrev pub HasNothing : List Entry → Type 0
HasNothing log = (holds (past_seen log) ≡ []) × (live (past_seen log) ≡ [])

-- The lock of a daemon of this name: it began with the name's log, in which nothing was out.
pub record IsDaemon (name : Name) (lock : LockView Entry) : Type 0 where
  pub start : lock.start ≡ name.start
  pub log : IsLogOf name name.start
  pub nothing : HasNothing name.start
