-- What a keeper over a database tells that was just opened.
use Rattle.std.proofs.Common.{◌≡◌, List, Result, Ok, Err, IfOk}
use Rattle.sqlite.specs.Store.{Ghosts}
use Rattle.sqlite.specs.State.{HasCleanDisk}
use Rattle.history_keeper.specs.declared.row.Row.{Row}
use Rattle.history_sqlite.specs.Keeping.{Keeping}
use Rattle.history_sqlite.specs.Telling.{TellsRows, database}
use Rattle.history_sqlite.proofs.TellingLemmas.{same_rows}

pub ok-so : {T E : Type 0} {P Q : T → Type 0} (r : Result T E) → IfOk r P → ((x : T) → P x → Q x) → IfOk r Q
ok-so (Ok x) h f = f x h
ok-so (Err e) h f = tt

-- Where it tells these rows while its disk is clean, it tells no others.
pub no-others : {D : Type 0} (store : Ghosts D) (supposed : Type 0) (keeper : Keeping D) (rows : List Row) → (HasCleanDisk (database store keeper) → TellsRows store supposed keeper rows) → (all : List Row) → TellsRows store supposed keeper all → all ≡ rows
no-others store supposed keeper rows opened all t = same_rows (database store keeper) all rows t.holds (opened t.clean).holds
