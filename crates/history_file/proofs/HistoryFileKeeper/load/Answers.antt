use Rattle.history_file.proofs.HistoryFileKeeper.load.Goals as goal

pub returns-clause-settled : goal.returns-clause-settled
returns-clause-settled c = λ first. c.load.ensures.settled first.keeper
