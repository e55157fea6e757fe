-- How the keeper stands to the log.
use Rattle.std.specs.Prelude.{◌≡◌, ◌⊎◌, ℕ, ◌+◌, Bool, true, false, List, [], ◌∷◌, Option, None, if◌then◌else◌}
use Rattle.history_keeper.specs.declared.row.Row.{Row}
use Rattle.history_keeper.specs.declared.change.Change.{Change}
use Rattle.history_keeper.specs.Keepers.{with_doubt}
use Rattle.history_keeper.specs.Signs.{KeeperSigns}
use Rattle.update_log.specs.declared.event.Event.{Event}
use Rattle.update_log.specs.declared.event.Found.{Found}
use Rattle.update_log.specs.Pasts.{is_boot, is_found_fault, meets_fault}

-- The keeper has these rows: it tells no others. This change is its doubt.
pub record HasRows {K : Type 0} (signs : KeeperSigns K) (keeper : K) (rows : List Row) (doubt : Option Change) : Type 0 where
  pub rows_are : (all : List Row) → signs.tells keeper all → all ≡ rows
  pub doubt_is : signs.doubt keeper ≡ doubt

-- The keeper was opened again, and no boot has said yet what became of the change in doubt: it has these
-- rows without or with that change, and no doubt.
pub record WasReopened {K : Type 0} (signs : KeeperSigns K) (keeper : K) (rows : List Row) (doubt : Option Change) : Type 0 where
  pub rows_are : (all : List Row) → signs.tells keeper all → (all ≡ rows) ⊎ (all ≡ with_doubt doubt rows)
  pub no_doubt : signs.doubt keeper ≡ None

-- The keeper has the rows of the log, and its doubt is the log's; or it was opened again.
abbrev pub Keeps : {K : Type 0} → KeeperSigns K → K → List Row → Option Change → Type 0
Keeps signs keeper rows doubt = HasRows signs keeper rows doubt ⊎ WasReopened signs keeper rows doubt

-- The same, told whether the keeper was opened again while no boot behind the log says yet what became of
-- the change in doubt: where it wasn't, it has the rows of the log, and its doubt is the log's.
abbrev pub KeepsSo : {K : Type 0} → Bool → KeeperSigns K → K → List Row → Option Change → Type 0
KeepsSo true signs keeper rows doubt = Keeps signs keeper rows doubt
KeepsSo false signs keeper rows doubt = HasRows signs keeper rows doubt

-- Whether that is so still behind a boot that found this, if it was before: a boot that read the history
-- says what became of the change in doubt, and one that couldn't doesn't.
abbrev pub still_reopened : Found → Bool → Bool
still_reopened found reopened = if is_found_fault found then reopened else false

-- How many events met a fault of the keeper.
abbrev pub keeper_faults : List Event → ℕ
keeper_faults [] = 0
keeper_faults (event ∷ past) = if meets_fault event then keeper_faults past + 1 else keeper_faults past

-- The last boot met one: it couldn't read the history.
abbrev pub faulted_after : Event → Bool → Bool
faulted_after event before = if is_boot event then meets_fault event else before

abbrev pub last_faulted : List Event → Bool
last_faulted [] = false
last_faulted (event ∷ past) = faulted_after event (last_faulted past)
