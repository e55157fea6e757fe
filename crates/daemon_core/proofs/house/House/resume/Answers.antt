use Rattle.std.proofs.Common.{◌≤◌, ap, subst, refl}
use Rattle.history_keeper.specs.Signs.{signs_of}
use Rattle.daemon_core.specs.Housed.{HouseLogView, past_in}
use Rattle.daemon_core.specs.Keeping.{keeper_faults}
use Rattle.daemon_core.specs.Resumes.{note_in}
use Rattle.daemon_core.proofs.ClaimAnswers.{faults-after}
use Rattle.daemon_core.proofs.ClaimExits.{same-faults, stopped-faults}
use Rattle.daemon_core.proofs.ClaimRoom.{places-same}
use Rattle.daemon_core.proofs.ResumeExits.{entered-in, entered-may, entered-stopped, gave-after, resumed-after}
use Rattle.daemon_core.proofs.house.House.resume.Goals as goal
use Rattle.daemon_core.proofs.Fared.{fared-same}

pub resume_in-requires-clause-may : goal.resume_in-requires-clause-may
resume_in-requires-clause-may g c =
    entered-may c.args.self.now.house_log c.enter.new.self.house_log c.args.entry c.in-Ok.ensures.entered c.requires.booted c.requires.put_off

pub resume_in-requires-clause-held : goal.resume_in-requires-clause-held
resume_in-requires-clause-held g c =
    entered-in c.args.self.now.house_log c.enter.new.self.house_log c.args.entry c.args.held c.in-Ok.ensures.entered c.requires.held

pub returns-in-Ok : goal.returns-in-Ok
returns-in-Ok g c = record {
  turn = resumed-after c.args.entry (note_in c.args.held) c.resume_in.result c.args.self.now.house_log c.enter.new.self.house_log c.resume_in.new.self.house_log c.in-Ok.ensures.entered c.resume_in.ensures.turn;
  gave =
      gave-after c.args.entry c.args.held c.resume_in.result c.args.self.now c.enter.new.self c.resume_in.new.self
      (places-same c.args.self.now.places c.enter.new.self.places c.in-Ok.ensures.elsewhere.places) c.in-Ok.ensures.elsewhere.pool c.resume_in.ensures.gave;
  fared =
      faults-after (signs_of g.K.Keeper.tells g.K.Keeper.doubt g.K.Keeper.faults) c.args.self.now c.enter.new.self c.resume_in.new.self
      (ap (λ (a : HouseLogView). keeper_faults (past_in a)) c.in-Ok.ensures.entered.same) c.in-Ok.ensures.elsewhere.keeper c.resume_in.ensures.counts c.resume_in.ensures.fared;
  counts = subst (λ (k : g.row.K.Denot). g.K.Keeper.faults k ≤ g.K.Keeper.faults c.resume_in.new.self.keeper) c.in-Ok.ensures.elsewhere.keeper c.resume_in.ensures.counts;
}

pub returns-in-Err : goal.returns-in-Err
returns-in-Err g c = record {
  turn = entered-stopped c.in-Err.stop c.args.self.now.house_log c.enter.new.self.house_log c.in-Err.ensures.entered;
  gave = (c.in-Err.ensures.elsewhere.pool, places-same c.args.self.now.places c.enter.new.self.places c.in-Err.ensures.elsewhere.places, refl);
  fared =
      fared-same (signs_of g.K.Keeper.tells g.K.Keeper.doubt g.K.Keeper.faults) c.args.self.now c.enter.new.self
      (stopped-faults (Unit {0}) 0 16 c.in-Err.stop c.args.self.now.house_log c.enter.new.self.house_log c.in-Err.ensures.entered)
      c.in-Err.ensures.elsewhere.keeper;
  counts = same-faults g.K.Keeper.faults c.args.self.now c.enter.new.self c.in-Err.ensures.elsewhere.keeper;
}
