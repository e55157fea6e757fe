use Rattle.std.proofs.Common.{false, take, get_or, ◌∷◌, []}
use Rattle.std.specs.Prelude.{None}
use Rattle.history_keeper.specs.Signs.{signs_of}
use Rattle.client_plays.specs.Plays.{TaskPlays}
use Rattle.client_plays.specs.Tools.{files_alone}
use Rattle.client_plays.proofs.RestLaws.{still-booted}
use Rattle.daemon_tasks.specs.Judged.{to_judge_in}
use Rattle.daemon_tasks.proofs.JudgeLoops.{judged-end, judged-none, judged-turn, known-turn, off-turn}
use Rattle.daemon_tasks.proofs.judging.judge_all.Goals as goal
use Rattle.update_log.specs.Known.{basis_of}

pub loop-entry-init : goal.loop-entry-init
loop-entry-init g c = record { so_far = λ basis files. judged-none (signs_of g.K.Keeper.tells g.K.Keeper.doubt g.K.Keeper.faults) basis (files_alone files) false c.args.house.now c.requires.idle }

pub judge_next-requires : goal.judge_next-requires
judge_next-requires g c = record {
  booted =
      let basis = basis_of c.args.house.now.house_log.facts [] in
      still-booted (signs_of g.K.Keeper.tells g.K.Keeper.doubt g.K.Keeper.faults) c.loop-entry.wanting 0 (TaskPlays basis (files_alone None)) (to_judge_in c.args.house.now.house_log (take c.loop-entry.entry-index c.args.entries.now)) c.args.house.now c.loop-entry.house
      (c.loop-entry.invariant.so_far basis None).so_far c.requires.booted;
  idle = (c.loop-entry.invariant.so_far (basis_of c.args.house.now.house_log.facts []) None).so_far.rest.idle;
  row = known-turn c.args.entries.now c.loop-entry.entry-index c.args.house.now.house_log c.loop-entry.house.house_log c.loop-entry-test.true c.requires.apart c.requires.rows (c.loop-entry.invariant.so_far (basis_of c.args.house.now.house_log.facts []) None).stays;
}

pub returns-in-None : goal.returns-in-None
returns-in-None g c basis files =
    let i = c.loop-entry.entry-index in
    off-turn (signs_of g.K.Keeper.tells g.K.Keeper.doubt g.K.Keeper.faults) basis (files_alone files) c.loop-entry.wanting c.args.entries.now i c.args.house.now c.loop-entry.house c.judge_next.new.house c.loop-entry-test.true (c.loop-entry.invariant.so_far basis files)
    (to_judge_in c.loop-entry.house.house_log (get_or c.args.entries.now i 0 ∷ [])) (c.in-None.ensures.more basis files)

pub loop-entry-preserved : goal.loop-entry-preserved
loop-entry-preserved g c = record {
  so_far = λ basis files. judged-turn (signs_of g.K.Keeper.tells g.K.Keeper.doubt g.K.Keeper.faults) basis (files_alone files) c.in-Some.now c.loop-entry.wanting c.args.entries.now c.loop-entry.entry-index c.args.house.now c.loop-entry.house c.judge_next.new.house
      c.loop-entry-test.true c.requires.apart c.requires.idle (c.loop-entry.invariant.so_far basis files) (c.in-Some.ensures.more basis files) c.in-Some.ensures.stays;
}

pub returns : goal.returns
returns g c basis files =
    judged-end (signs_of g.K.Keeper.tells g.K.Keeper.doubt g.K.Keeper.faults) basis (files_alone files) c.loop-entry.wanting c.args.entries.now c.loop-entry.entry-index c.args.house.now c.loop-entry.house c.loop-entry-test.false (c.loop-entry.invariant.so_far basis files)
