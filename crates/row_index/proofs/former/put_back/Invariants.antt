use Rattle.std.proofs.Common.{◌≡◌, ◌++◌, take, drop}
use Rattle.row_index.specs.Formers.{as_were}
use Rattle.row_index.proofs.former.put_back.Given as goal

abbrev pub invariant-loop-at : goal.invariant-loop-at
invariant-loop-at l = l.rows ≡ as_were l.formers (take l.at l.initial.rows) ++ drop l.at l.initial.rows
