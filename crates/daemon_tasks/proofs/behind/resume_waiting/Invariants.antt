use Rattle.history_keeper.specs.Signs.{signs_of}
use Rattle.daemon_tasks.specs.Begins.{name_of}
use Rattle.daemon_tasks.proofs.behind.resume_waiting.Given as goal

abbrev pub ghosts-resume_named : goal.ghosts-resume_named
ghosts-resume_named g a = record { name = name_of (signs_of g.K.Keeper.tells g.K.Keeper.doubt g.K.Keeper.faults) a.house }
