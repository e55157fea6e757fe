use Rattle.history_sqlite.proofs.file_keeper.StoredKeeperKeeper.load.Goals as goal

pub returns-clause-settled : goal.returns-clause-settled
returns-clause-settled g c = λ first. c.load.ensures.settled first.keeper
