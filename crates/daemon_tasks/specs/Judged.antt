-- What the daemon judges and resumes by itself, entry by entry.
use Rattle.std.specs.Prelude.{◌≡◌, ◌⊎◌, ℕ, Bool, true, false, List, [], ◌∷◌, ◌++◌, Option, Some, None, map, filter, unwrap_or, option_map, Result, Ok, Err}
use Rattle.history_keeper.specs.declared.row.Row.{Row}
use Rattle.history_keeper.specs.Signs.{KeeperSigns}
use Rattle.update_log.specs.declared.event.Event.{Event}
use Rattle.update_log.specs.Known.{Basis, row_of, rows, views}
use Rattle.update_log.specs.Pasts.{finished, off}
use Rattle.daemon_core.specs.declared.judged.Judged.{Judged}
use Rattle.daemon_core.specs.declared.stop.Stop.{Stop}
use Rattle.daemon_core.specs.Housed.{basis_in, HouseLogView, Housed, past, past_in}
use Rattle.client_plays.specs.Endings.{AtRest, HouseWent, SoFar}
use Rattle.client_plays.specs.Moments.{Did, Moment}
use Rattle.client_plays.specs.Plays.{Task, TaskPlays, ToJudge}
use Rattle.client_plays.specs.Scripts.{PlaysAll, is_judgeable}
use Rattle.client_plays.specs.Tools.{Means}
use Rattle.daemon_tasks.specs.Stays.{RowsStay, rows_at}
use Rattle.daemon_tasks.specs.declared.judging.Went.{Went}

-- The entry's row can be judged.
abbrev pub can_judge : Basis → List Event → ℕ → Bool
can_judge basis past entry =
    unwrap_or (option_map (is_judgeable past (views basis past)) (row_of (rows basis past) entry)) false

-- Those of these entries that can be judged are to be.
abbrev pub to_judge : Basis → List Event → List ℕ → List Task
to_judge basis past entries = map ToJudge (filter (can_judge basis past) entries)

abbrev pub to_judge_in : HouseLogView → List ℕ → List Task
to_judge_in a entries = to_judge (basis_in a) (past_in a) entries

-- Rows were judged, and no others changed; each device shows what it showed, and nothing was finished.
pub record JudgeStays (entries : List ℕ) (old new : HouseLogView) : Type 0 where
  pub rows : RowsStay entries old new
  pub views : views (basis_in new) (past_in new) ≡ views (basis_in old) (past_in old)
  pub finished : (entry : ℕ) → finished entry (past_in new) ≡ finished entry (past_in old)

-- What is told of a judgement: whether memory was wanting so far, or nothing where the boot is off.
abbrev pub told_by : Result Judged Stop → Bool → Option Bool
told_by (Ok judged) wanting = Some wanting
told_by (Err Stop.NoMemory) wanting = Some true
told_by (Err Stop.Off) wanting = None

-- Each of these entries has a row.
abbrev pub AllKnown : HouseLogView → List ℕ → Type 0
AllKnown a [] = Unit {0}
AllKnown a (entry ∷ entries) = ((row : Row) × (row_of (rows_at a) entry ≡ Some row)) × AllKnown a entries

-- What was tried of these tasks, whose plays go by these facts and means: they were played, or left for want of
-- memory, and that is told; or the boot is off, and nothing was done.
abbrev pub Tried : Basis → Means → Option Bool → Bool → List Task → List Event → List Moment → Type 0
Tried basis means (Some now) wanting tasks new moments = ((now ≡ true) ⊎ (now ≡ wanting)) × PlaysAll now 0 (TaskPlays basis means) tasks moments
Tried basis means None wanting tasks new moments = (moments ≡ []) × (off new ≡ true)

pub record HouseTried {K : Type 0} (signs : KeeperSigns K) (basis : Basis) (means : Means) (told : Option Bool) (wanting : Bool) (tasks : List Task) (old new : Housed K) : Type 0 where
  pub moments : List Moment
  pub did : Did 0 moments (past old) (past new)
  pub more : Tried basis means told wanting tasks (past new) moments
  pub rest : AtRest signs old new

-- All entries were gone through; or the boot is off, and then these and whatever else was to be done were
-- played as far as they came.
abbrev pub JudgedAll : {K : Type 0} → KeeperSigns K → Basis → Means → Went → List ℕ → Housed K → Housed K → Type 0
JudgedAll signs basis means (Went.Through wanting) entries old new =
    SoFar signs wanting 0 (TaskPlays basis means) (to_judge_in old.house_log entries) old new × RowsStay entries old.house_log new.house_log
JudgedAll signs basis means (Went.Off wanting) entries old new =
    (more : List Task) → HouseWent signs wanting 0 (TaskPlays basis means) (to_judge_in old.house_log entries ++ more) old new
