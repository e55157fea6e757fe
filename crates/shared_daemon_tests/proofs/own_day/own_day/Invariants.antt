use Rattle.history_keeper.specs.Signs.{signs_of}
use Rattle.daemon_tasks.specs.Begins.{name_of}
use Rattle.shared_daemon_tests.proofs.own_day.own_day.Given as goal

abbrev pub ghosts-day : goal.ghosts-day
ghosts-day g a = record { name = name_of (signs_of g.K.Keeper.tells g.K.Keeper.doubt g.K.Keeper.faults) a.house }
