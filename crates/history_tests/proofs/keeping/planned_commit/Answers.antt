use Rattle.history_tests.proofs.FirstRows.{suits-first}
use Rattle.history_tests.proofs.keeping.planned_commit.Goals as goal

pub commit-stored-requires-clause-suits : goal.commit-stored-requires-clause-suits
commit-stored-requires-clause-suits c = λ all t. suits-first c.in_ok-begun.begun all c.in_ok-begun.ensures.entry (c.in_ok-keeper.ensures.rows all t)
