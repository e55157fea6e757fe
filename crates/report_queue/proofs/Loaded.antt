-- Rows that a keeper gave.
use Rattle.std.proofs.Common.{◌≡◌, List, sym, subst}
use Rattle.history_keeper.specs.declared.row.Row.{Row}
use Rattle.history_keeper.specs.Keepers.{StillTold}
use Rattle.report_queue.specs.Reports.{WereTold}

-- Rows that were loaded are those that the keeper told before, if it tells any still.
pub rows_read : (before after : List Row → Type 0) (loaded : List Row) → StillTold before after → ((all : List Row) → after all → loaded ≡ all) → WereTold before after loaded
rows_read before after loaded still answer = λ all t. subst before (sym (answer all t)) (still all t)
