-- Whatever was logged, the rows before the log are the first rows of the log, as they were.
use Rattle.std.proofs.Common.{◌≡◌, ◌≤◌, List, [], ◌∷◌, map, length, refl, ◌∙◌, arith}
use Rattle.std.proofs.lemmas.List.{length-map}
use Rattle.std.specs.Prelude.{Option, Some, None}
use Rattle.history_keeper.specs.Changes.{changed}
use Rattle.history_keeper.specs.declared.change.Change.{Change}
use Rattle.history_keeper.specs.declared.row.Row.{Row}
use Rattle.row_index.proofs.Formers.{as_were-changed, as_were-now}
use Rattle.row_index.specs.Formers.{as_were, former_of}
use Rattle.row_index.specs.declared.former.Former.{Former}
use Rattle.update_log.proofs.Rows.{changed-grows}
use Rattle.update_log.specs.Known.{Basis, Fate, rows, rows_by, rows_found}
use Rattle.update_log.specs.Pasts.{past_of}
use Rattle.update_log.specs.declared.event.Event.{Event}
use Rattle.update_log.specs.declared.event.Found.{Found}
use Rattle.core_state.specs.Core.{Core, Stands}

-- Rows of which some were changed, or that got another one behind them.
pub record Later (before after : List Row) : Type 0 where
  pub grows : length before ≤ length after
  pub back : (formers : List Former) → length formers ≤ length before → as_were formers after ≡ as_were formers before

later-same : (rows : List Row) → Later rows rows
later-same rows = record { grows = omega arith; back = λ formers fits. refl }

later-changed : (change : Change) (rows : List Row) → Later rows (changed change rows)
later-changed change rows = record { grows = changed-grows change rows; back = λ formers fits. as_were-changed change formers rows fits }

later-made : (fate : Fate) (change : Option Change) (rows : List Row) → Later rows (rows_by fate change rows)
later-made Fate.Made (Some change) rows = later-changed change rows
later-made Fate.Made None rows = later-same rows
later-made Fate.Doubtful change rows = later-same rows
later-made Fate.Dropped change rows = later-same rows

later-found : (found : Found) (doubt : Option Change) (rows : List Row) → Later rows (rows_found found doubt rows)
later-found Found.Kept (Some change) rows = later-changed change rows
later-found Found.Kept None rows = later-same rows
later-found Found.Plain doubt rows = later-same rows
later-found Found.Lost doubt rows = later-same rows
later-found Found.Fault doubt rows = later-same rows

-- an event makes such of them
rows-later : (basis : Basis) (past : List Event) (event : Event) → Later (rows basis past) (rows basis (event ∷ past))
rows-later basis past (Event.Boot number time limit found boards) = later-found found _ (rows basis past)
rows-later basis past (Event.Query client query) = later-same (rows basis past)
rows-later basis past (Event.Ask client request pending answer) = later-same (rows basis past)
rows-later basis past (Event.Claim client request fetched answer) = later-made _ _ (rows basis past)
rows-later basis past (Event.Schedule client request answer) = later-made _ _ (rows basis past)
rows-later basis past (Event.Resume client entry fetched answer stored) = later-made _ _ (rows basis past)
rows-later basis past (Event.Start client entry op) = later-same (rows basis past)
rows-later basis past (Event.End client entry op outcome told seen) = later-same (rows basis past)
rows-later basis past (Event.Finish client entry state stored) = later-made _ _ (rows basis past)
rows-later basis past (Event.Judge client entry version state stored) = later-made _ _ (rows basis past)
rows-later basis past (Event.Unplug client device answer) = later-same (rows basis past)
rows-later basis past (Event.Plug client device answer) = later-same (rows basis past)
rows-later basis past (Event.GiveBack client what) = later-same (rows basis past)
rows-later basis past Event.Cut = later-same (rows basis past)

-- so the rows of a log are such of those before it
log-later : (basis : Basis) (past : List Event) → Later basis.opening (rows basis past)
log-later basis [] = later-same basis.opening
log-later basis (event ∷ past) =
    let before : Later basis.opening (rows basis past) = log-later basis past in
    let step : Later (rows basis past) (rows basis (event ∷ past)) = rows-later basis past event in
    let grown = before.grows in
    let more = step.grows in
    record { grows = omega (arith, grown, more); back = λ formers fits. step.back formers (omega (arith, grown, fits)) ∙ before.back formers fits }

-- what each was then puts them back
pub opening-back : (basis : Basis) (core : Core) → Stands basis core → as_were (map former_of basis.opening) core.rows ≡ basis.opening
opening-back basis core s =
    let later : Later basis.opening (rows basis (past_of core.log)) = log-later basis (past_of core.log) in
    let told : length (map former_of basis.opening) ≡ length basis.opening = length-map basis.opening former_of in
    rw s.rows (later.back (map former_of basis.opening) (omega (arith, told)) ∙ as_were-now basis.opening)
