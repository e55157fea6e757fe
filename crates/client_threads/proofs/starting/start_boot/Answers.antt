use Rattle.history_keeper.specs.Signs.{signs_of}
use Rattle.client_threads.proofs.StartLaws.{started-so}
use Rattle.client_threads.proofs.starting.start_boot.Goals as goal

pub returns : goal.returns
returns g c =
    started-so (signs_of g.K.Keeper.tells g.K.Keeper.doubt g.K.Keeper.faults) g.K.Keeper.settled c.args.plan.now c.boot-outcome.result c.ended_by.result
    c.args.house.now c.boot-outcome.new.self c.ended_by.ensures c.known.ensures.house_log c.boot-outcome.ensures.fared
    c.boot-outcome.ensures.counts c.boot-outcome.ensures.turn
