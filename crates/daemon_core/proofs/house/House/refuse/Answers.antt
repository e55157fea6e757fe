use Rattle.std.proofs.Common.{ap, subst}
use Rattle.history_keeper.specs.Signs.{signs_of}
use Rattle.core_state.specs.CoreSteps.{is_taken}
use Rattle.update_log.specs.declared.answer.ClaimAnswer.{ClaimAnswer}
use Rattle.update_log.specs.declared.event.Event.{Event}
use Rattle.daemon_core.specs.HouseLog.{Appended}
use Rattle.daemon_core.specs.Fetches.{note_of}
use Rattle.daemon_core.proofs.ClaimExits.{broken-answers, faults-unclaimed, same-faults}
use Rattle.daemon_core.proofs.ClaimRoom.{places-same}
use Rattle.daemon_core.proofs.house.House.refuse.Goals as goal

pub end_claim-requires-clause-answered : goal.end_claim-requires-clause-answered
end_claim-requires-clause-answered g c =
    broken-answers c.args.self.now.house_log c.args.client c.args.ticket c.args.fetched c.note.result c.refused.result c.refused.ensures c.note.ensures c.requires.accepted c.requires.broken

pub end_claim-requires-clause-none : goal.end_claim-requires-clause-none
end_claim-requires-clause-none g c = ap is_taken c.refused.ensures

pub returns : goal.returns
returns g c = record {
  appended = subst (λ (x : ClaimAnswer). Appended c.args.client (Event.Claim c.args.client c.args.ticket.request (note_of c.args.fetched) x) c.args.self.now.house_log c.end_claim.new.self.house_log) c.refused.ensures c.end_claim.ensures.appended;
  gave = (c.end_claim.ensures.pool, places-same c.args.self.now.places c.end_claim.new.self.places c.end_claim.ensures.places);
  fared = faults-unclaimed (signs_of g.K.Keeper.tells g.K.Keeper.doubt g.K.Keeper.faults) c.args.client c.args.ticket (note_of c.args.fetched) c.refused.result c.args.self.now c.end_claim.new.self c.end_claim.ensures.appended (ap is_taken c.refused.ensures) c.end_claim.ensures.keeper;
  counts = same-faults g.K.Keeper.faults c.args.self.now c.end_claim.new.self c.end_claim.ensures.keeper;
}
