-- How the keeper stands to the log, whether it counts as opened again or not.
use Rattle.std.proofs.Common.{◌≡◌, Bool, true, false, List, refl, ap, ◌⊎◌, inl, inr}
use Rattle.std.specs.Prelude.{Option, None, if◌then◌else◌}
use Rattle.history_keeper.specs.declared.change.Change.{Change}
use Rattle.history_keeper.specs.declared.row.Row.{Row}
use Rattle.history_keeper.specs.Signs.{KeeperSigns}
use Rattle.update_log.specs.declared.event.Found.{Found}
use Rattle.update_log.specs.Pasts.{is_found_fault}
use Rattle.daemon_core.specs.Keeping.{HasRows, Keeps, KeepsSo, still_reopened}

-- Where it has the rows of the log, and the log's doubt, it doesn't matter.
pub so-has : {K : Type 0} (b : Bool) (signs : KeeperSigns K) (keeper : K) (rows : List Row) (doubt : Option Change) → HasRows signs keeper rows doubt → KeepsSo b signs keeper rows doubt
so-has true signs keeper rows doubt h = inl h
so-has false signs keeper rows doubt h = h

pub so-keeps : {K : Type 0} (b : Bool) (signs : KeeperSigns K) (keeper : K) (rows : List Row) (doubt : Option Change) → KeepsSo b signs keeper rows doubt → Keeps signs keeper rows doubt
so-keeps true signs keeper rows doubt k = k
so-keeps false signs keeper rows doubt h = inl h

either-same : (all rows : List Row) → (all ≡ rows) ⊎ (all ≡ rows) → all ≡ rows
either-same all rows (inl h) = h
either-same all rows (inr h) = h

keeps-clear : {K : Type 0} (signs : KeeperSigns K) (keeper : K) (rows : List Row) → Keeps signs keeper rows None → HasRows signs keeper rows None
keeps-clear signs keeper rows (inl h) = h
keeps-clear signs keeper rows (inr w) = record { rows_are = λ all t. either-same all rows (w.rows_are all t); doubt_is = w.no_doubt }

-- Where the log has no doubt, it has the log's rows, also where it was opened again.
pub so-clear : {K : Type 0} (b : Bool) (signs : KeeperSigns K) (keeper : K) (rows : List Row) → KeepsSo b signs keeper rows None → HasRows signs keeper rows None
so-clear b signs keeper rows k = keeps-clear signs keeper rows (so-keeps b signs keeper rows None k)

-- Where it wasn't opened again before a boot, it isn't behind it.
pub still-none : (found : Found) (b : Bool) → b ≡ false → still_reopened found b ≡ false
still-none Found.Fault b e = e
still-none _ b e = refl

-- Behind a boot that read the history it doesn't count as opened again.
pub still-read : (found : Found) (b : Bool) → is_found_fault found ≡ false → still_reopened found b ≡ false
still-read found b w = ap (λ (f : Bool). if f then b else false) w
