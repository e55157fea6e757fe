-- What is held of the rows before the log says what they were, whatever was logged since.
use Rattle.std.proofs.Common.{◌≡◌, List, map, refl, ap, sym, ◌∙◌}
use Rattle.history_keeper.specs.declared.row.Row.{Row}
use Rattle.row_index.proofs.Formers.{as_were-now}
use Rattle.row_index.specs.Formers.{as_were, former_of}
use Rattle.row_index.specs.declared.former.Former.{Former}
use Rattle.update_log.specs.Known.{basis_of}
use Rattle.update_log.specs.declared.facts.Facts.{Facts}
use Rattle.core_state.proofs.RowsBack.{opening-back}
use Rattle.core_state.specs.Core.{Core, Stands}
use Rattle.daemon_core.specs.Housed.{rows_taken}
use Rattle.daemon_core.specs.Openings.{IsOpening, is_taken, opening_in}
use Rattle.daemon_core.specs.declared.house_log.opening.Opening.{Opening}

-- the log has other rows
pub opening-kept : (opening : Opening) (facts : Facts) (rows : List Row) (core : Core) → IsOpening opening rows → Stands (basis_of facts (rows_taken (is_taken opening) (opening_in opening rows))) core → opening_in opening core.rows ≡ opening_in opening rows
opening-kept (Opening.Untaken loaded) facts rows core is s = refl
opening-kept (Opening.Taken formers) facts rows core is s =
    ap (λ (fs : List Former). as_were fs core.rows) is ∙ opening-back (basis_of facts (as_were formers.items rows)) core s

pub opening-still : (opening : Opening) (facts : Facts) (rows : List Row) (core : Core) → IsOpening opening rows → Stands (basis_of facts (rows_taken (is_taken opening) (opening_in opening rows))) core → IsOpening opening core.rows
opening-still (Opening.Untaken loaded) facts rows core is s = tt
opening-still (Opening.Taken formers) facts rows core is s = is ∙ ap (map former_of) (sym (opening-kept (Opening.Taken formers) facts rows core is s))

-- they were taken just now
pub taken-now : (formers : List Former) (all rows : List Row) → formers ≡ map former_of all → rows ≡ all → as_were formers rows ≡ all
taken-now formers all rows told same = ap (λ (fs : List Former). as_were fs rows) told ∙ ap (as_were (map former_of all)) same ∙ as_were-now all
