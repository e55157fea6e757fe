use Rattle.std.proofs.Common.{sym, subst, refl}
use Rattle.history_keeper.specs.Signs.{signs_of}
use Rattle.update_log.specs.declared.answer.ClaimAnswer.{ClaimAnswer}
use Rattle.update_log.specs.declared.event.Event.{Event}
use Rattle.daemon_core.specs.HouseLog.{Appended}
use Rattle.daemon_core.specs.Fetches.{note_of}
use Rattle.daemon_core.proofs.ClaimExits.{faults-unclaimed, refused-answers, refused-none, same-faults}
use Rattle.daemon_core.proofs.ClaimRoom.{places-same}
use Rattle.daemon_core.proofs.ClaimTurns.{answers-kept}
use Rattle.daemon_core.proofs.house.House.claim_in.Goals as goal

pub accept-requires-clause-accepted : goal.accept-requires-clause-accepted
accept-requires-clause-accepted g c =
    (c.in-Accept.device, c.in-Accept.release, c.in-Accept.blocks, sym c.in-Accept.ensures)

pub end_claim-requires-clause-answered : goal.end_claim-requires-clause-answered
end_claim-requires-clause-answered g c =
    answers-kept c.args.self.now.house_log c.args.client c.args.ticket (note_of c.args.fetched) c.in-Kept.entry c.in-Kept.state (sym c.in-Kept.ensures)

pub end_claim-requires-in-Refused-clause-answered : goal.end_claim-requires-in-Refused-clause-answered
end_claim-requires-in-Refused-clause-answered g c =
    refused-answers c.args.self.now.house_log c.args.client c.args.ticket (note_of c.args.fetched) c.in-Refused.refusal c.refused.result c.refused.ensures (sym c.in-Refused.ensures)

pub end_claim-requires-in-Refused-clause-none : goal.end_claim-requires-in-Refused-clause-none
end_claim-requires-in-Refused-clause-none g c =
    (refused-none c.args.self.now.house_log c.args.client c.args.ticket c.in-Refused.refusal c.refused.result c.refused.ensures (sym c.in-Refused.ensures))

pub returns-in-Kept : goal.returns-in-Kept
returns-in-Kept g c = record {
  turn = (c.requires.may.runs, c.end_claim.ensures.appended);
  gave = (c.end_claim.ensures.pool, places-same c.args.self.now.places c.end_claim.new.self.places c.end_claim.ensures.places);
  fared = faults-unclaimed (signs_of g.K.Keeper.tells g.K.Keeper.doubt g.K.Keeper.faults) c.args.client c.args.ticket (note_of c.args.fetched) (ClaimAnswer.Kept c.in-Kept.entry c.in-Kept.state) c.args.self.now c.end_claim.new.self c.end_claim.ensures.appended refl c.end_claim.ensures.keeper;
  counts = same-faults g.K.Keeper.faults c.args.self.now c.end_claim.new.self c.end_claim.ensures.keeper;
}

pub returns-in-Refused : goal.returns-in-Refused
returns-in-Refused g c = record {
  turn = (c.requires.may.runs, subst (λ (x : ClaimAnswer). Appended c.args.client (Event.Claim c.args.client c.args.ticket.request (note_of c.args.fetched) x) c.args.self.now.house_log c.end_claim-in-Refused.new.self.house_log) c.refused.ensures c.end_claim-in-Refused.ensures.appended);
  gave = (c.end_claim-in-Refused.ensures.pool, places-same c.args.self.now.places c.end_claim-in-Refused.new.self.places c.end_claim-in-Refused.ensures.places);
  fared = faults-unclaimed (signs_of g.K.Keeper.tells g.K.Keeper.doubt g.K.Keeper.faults) c.args.client c.args.ticket (note_of c.args.fetched) c.refused.result c.args.self.now c.end_claim-in-Refused.new.self c.end_claim-in-Refused.ensures.appended (refused-none c.args.self.now.house_log c.args.client c.args.ticket c.in-Refused.refusal c.refused.result c.refused.ensures (sym c.in-Refused.ensures)) c.end_claim-in-Refused.ensures.keeper;
  counts = same-faults g.K.Keeper.faults c.args.self.now c.end_claim-in-Refused.new.self c.end_claim-in-Refused.ensures.keeper;
}
