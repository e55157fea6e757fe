use Rattle.std.proofs.Common.{◌≤◌, ap, sym, subst, refl}
use Rattle.history_keeper.specs.Signs.{signs_of}
use Rattle.update_log.specs.declared.facts.Facts.{Facts}
use Rattle.daemon_core.specs.Claims.{claim_event, stopped_by}
use Rattle.daemon_core.specs.Fetches.{IsFetchOf, block_count}
use Rattle.daemon_core.specs.Housed.{HouseLogView, past_in}
use Rattle.daemon_core.specs.Keeping.{keeper_faults}
use Rattle.daemon_core.proofs.Answered.{stopped}
use Rattle.daemon_core.proofs.ClaimAnswers.{entered-may, faults-after, gave-after, turned-after}
use Rattle.daemon_core.proofs.ClaimExits.{same-faults, stopped-faults}
use Rattle.daemon_core.proofs.ClaimRoom.{places-same}
use Rattle.daemon_core.proofs.house.House.claim.Goals as goal
use Rattle.daemon_core.proofs.Fared.{fared-same}

pub claim_in-requires-clause-may : goal.claim_in-requires-clause-may
claim_in-requires-clause-may g c =
    entered-may c.args.self.now.house_log c.enter.new.self.house_log c.args.client (block_count c.args.fetched) c.args.ticket c.in-Ok.ensures.entered c.requires.booted c.requires.held c.requires.asked

pub claim_in-requires-clause-whole : goal.claim_in-requires-clause-whole
claim_in-requires-clause-whole g c =
    subst (λ (f : Facts). IsFetchOf f c.args.ticket.release c.args.fetched) (sym (ap (λ (a : HouseLogView). a.facts) c.in-Ok.ensures.entered.same)) c.requires.whole

pub returns-in-Ok : goal.returns-in-Ok
returns-in-Ok g c = record {
  turn = turned-after c.args.client 16 (claim_event c.args.client c.args.ticket.request c.args.fetched) (stopped_by c.claim_in.result) c.args.self.now.house_log c.enter.new.self.house_log c.claim_in.new.self.house_log c.in-Ok.ensures.entered c.claim_in.ensures.turn;
  gave =
      gave-after c.args.client c.args.ticket c.args.fetched c.claim_in.result c.args.self.now c.enter.new.self c.claim_in.new.self
      (places-same c.args.self.now.places c.enter.new.self.places c.in-Ok.ensures.elsewhere.places) c.in-Ok.ensures.elsewhere.pool c.claim_in.ensures.gave;
  fared =
      faults-after (signs_of g.K.Keeper.tells g.K.Keeper.doubt g.K.Keeper.faults) c.args.self.now c.enter.new.self c.claim_in.new.self
      (ap (λ (a : HouseLogView). keeper_faults (past_in a)) c.in-Ok.ensures.entered.same) c.in-Ok.ensures.elsewhere.keeper c.claim_in.ensures.counts c.claim_in.ensures.fared;
  counts = subst (λ (k : g.row.K.Denot). g.K.Keeper.faults k ≤ g.K.Keeper.faults c.claim_in.new.self.keeper) c.in-Ok.ensures.elsewhere.keeper c.claim_in.ensures.counts;
}

pub returns-in-Err : goal.returns-in-Err
returns-in-Err g c = record {
  turn = stopped (Unit {0}) c.args.client 16 (claim_event c.args.client c.args.ticket.request c.args.fetched) c.in-Err.stop c.args.self.now.house_log c.enter.new.self.house_log c.in-Err.ensures.entered;
  gave = (c.in-Err.ensures.elsewhere.pool, places-same c.args.self.now.places c.enter.new.self.places c.in-Err.ensures.elsewhere.places, refl, refl);
  fared =
      fared-same (signs_of g.K.Keeper.tells g.K.Keeper.doubt g.K.Keeper.faults) c.args.self.now c.enter.new.self
      (stopped-faults (Unit {0}) c.args.client 16 c.in-Err.stop c.args.self.now.house_log c.enter.new.self.house_log c.in-Err.ensures.entered)
      c.in-Err.ensures.elsewhere.keeper;
  counts = same-faults g.K.Keeper.faults c.args.self.now c.enter.new.self c.in-Err.ensures.elsewhere.keeper;
}
