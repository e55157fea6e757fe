use Rattle.history_keeper.specs.Signs.{signs_of}
use Rattle.daemon_tasks.specs.Begins.{name_of}
use Rattle.daemon_tasks.proofs.Closing.{begins-named, its-name, nothing-out}
use Rattle.shared_daemon_tests.proofs.scenes.named_day.Goals as goal

pub day-requires-clause-name : goal.day-requires-clause-name
day-requires-clause-name g c =
    let f = signs_of g.K.Keeper.tells g.K.Keeper.doubt g.K.Keeper.faults in begins-named f (name_of f c.args.house) c.args.house (its-name f c.args.house) c.requires

pub day-requires-clause-nothing : goal.day-requires-clause-nothing
day-requires-clause-nothing g c = nothing-out (signs_of g.K.Keeper.tells g.K.Keeper.doubt g.K.Keeper.faults) c.args.house c.known.ensures.house_log c.requires.idle
