use Rattle.std.proofs.Common.{take}
use Rattle.history_keeper.specs.Signs.{signs_of}
use Rattle.client_plays.specs.Tools.{Files, files_alone}
use Rattle.daemon_tasks.proofs.JudgeLoops.{JudgedSoFar}
use Rattle.daemon_tasks.proofs.judging.judge_all.Given as goal
use Rattle.update_log.specs.Known.{Basis}

abbrev pub invariant-loop-entry : goal.invariant-loop-entry
invariant-loop-entry g l = record {
  so_far : (basis : Basis) (files : Files) → JudgedSoFar (signs_of g.K.Keeper.tells g.K.Keeper.doubt g.K.Keeper.faults) basis (files_alone files) l.wanting (take l.entry-index l.entries) l.initial.house l.house;
}
