use Rattle.history_keeper.specs.Signs.{signs_of}
use Rattle.daemon_tasks.specs.Begins.{name_of}
use Rattle.client_threads.proofs.stage.Stage.play_clients.Given as goal

abbrev pub ghosts-play_named : goal.ghosts-play_named
ghosts-play_named g a = record { name = name_of (signs_of g.K.Keeper.tells g.K.Keeper.doubt g.K.Keeper.faults) a.house }
