use Rattle.history_tests.proofs.FirstRows.{suits-first}
use Rattle.history_tests.proofs.keeping.a_told_row_comes_back.Goals as goal

pub commit-requires-clause-suits : goal.commit-requires-clause-suits
commit-requires-clause-suits g c = λ all t. suits-first c.in_ok-row.field-0 all c.in_ok-row.ensures.entry (c.in_ok-keeper.ensures.no_others all t)
