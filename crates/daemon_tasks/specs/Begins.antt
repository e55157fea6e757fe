-- A house round which a daemon may begin, and the name that it has then.
use Rattle.std.specs.Prelude.{◌≡◌, ◌<◌, ◌-◌, true, false, List}
use Rattle.update_log.specs.Pasts.{boots}
use Rattle.update_log.specs.Known.{basis_of}
use Rattle.history_keeper.specs.declared.row.Row.{Row}
use Rattle.history_keeper.specs.Signs.{KeeperSigns}
use Rattle.daemon_core.specs.Housed.{Housed, past}
use Rattle.daemon_core.specs.Keeping.{keeper_faults}
use Rattle.client_plays.specs.Endings.{IsCounted, IsIdle}
use Rattle.shared_daemon.specs.Entries.{chronicle}
use Rattle.daemon_core.specs.Planned.{plans_in}
use Rattle.shared_daemon.specs.Names.{Name}

-- It was booted, and took the rows that it loaded; its last boot read the history, and nobody opened the
-- keeper again since; each fault of the keeper that its log tells was counted;
-- and nobody has anything out.
pub record CanBegin {K : Type 0} (signs : KeeperSigns K) (h : Housed K) : Type 0 where
  pub loaded : h.house_log.loaded ≡ true
  pub reopened : h.house_log.reopened ≡ false
  pub booted : 0 < boots (past h)
  pub counted : IsCounted signs h
  pub idle : IsIdle (past h)

-- All that no turn changes, as it is now.
abbrev pub name_of : {K : Type 0} → KeeperSigns K → Housed K → Name
name_of signs h =
    record {
      basis = basis_of h.house_log.facts h.house_log.opening;
      first = h.house_log.first;
      plans = plans_in h.places;
      boots = boots (past h);
      start = chronicle h;
      start_faults = signs.faults h.keeper;
      start_told = keeper_faults (past h);
      first_faults = signs.faults h.keeper - keeper_faults (past h);
      came = (all : List Row) × signs.tells h.keeper all;
    }

-- The name of a house as it is now. It says that something is so of the keeper exactly where the keeper tells rows.
pub record IsNameOf {K : Type 0} (signs : KeeperSigns K) (name : Name) (h : Housed K) : Type 0 where
  pub facts_are : name.basis.facts ≡ h.house_log.facts
  pub first_are : name.first ≡ h.house_log.first
  pub plans_are : name.plans ≡ plans_in h.places
  pub opening_is : name.basis.opening ≡ h.house_log.opening
  pub boots_are : name.boots ≡ boots (past h)
  pub start_is : name.start ≡ chronicle h
  pub start_faults_are : name.start_faults ≡ signs.faults h.keeper
  pub start_told_is : name.start_told ≡ keeper_faults (past h)
  pub first_faults_are : name.first_faults ≡ signs.faults h.keeper - keeper_faults (past h)
  pub came_so : name.came → (all : List Row) × signs.tells h.keeper all
  pub told_so : (all : List Row) → signs.tells h.keeper all → name.came
