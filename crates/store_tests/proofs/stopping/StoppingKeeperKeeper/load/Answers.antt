use Rattle.store_tests.proofs.stopping.StoppingKeeperKeeper.load.Goals as goal

pub returns-clause-settled : goal.returns-clause-settled
returns-clause-settled c = λ first. c.load.ensures.settled first.keeper
