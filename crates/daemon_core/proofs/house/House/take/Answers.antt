use Rattle.std.proofs.Common.{◌≤◌, ◌∙◌, ℕ, ap, sym, subst, refl}
use Rattle.std.specs.Prelude.{Option, unwrap_or}
use Rattle.history_keeper.specs.Signs.{signs_of}
use Rattle.daemon_core.specs.Claims.{claim_event, claim_verdict, stopped_by}
use Rattle.daemon_core.specs.declared.fetched.Fetched.{Fetched}
use Rattle.daemon_core.specs.Housed.{HouseLogView, Housed, past_in}
use Rattle.daemon_core.specs.Keeping.{keeper_faults}
use Rattle.daemon_core.specs.PutOff.{IsAccept}
use Rattle.daemon_core.proofs.ClaimAnswers.{faults-after, gave-after}
use Rattle.daemon_core.proofs.ClaimExits.{may-over, payload-over, same-faults, store-over, take-plan, turn-left, turn-over}
use Rattle.daemon_core.proofs.house.House.take.Goals as goal
use Rattle.daemon_core.proofs.Fared.{fared-same}

pub row_begun-row-requires : goal.row_begun-row-requires
row_begun-row-requires g c =
    subst (λ (h : Housed g.row.K.Denot). IsAccept (claim_verdict h.house_log c.args.client c.args.ticket)) (sym c.self.view_is) c.requires.accepted

pub reserve_marks-requires-clause-within : goal.reserve_marks-requires-clause-within
reserve_marks-requires-clause-within g c =
    (take-plan (signs_of g.K.Keeper.tells g.K.Keeper.doubt g.K.Keeper.faults) c.args.client c.args.payload.count c.args.ticket c.row_begun-row.result c.unwrap_or-number.result (record { house_log = c.self.inside.house_log; places = c.self.inside.places.items; pool = c.self.inside.pool; keeper = c.self.inside.keeper }) c.args.self.now c.self.view_is c.self.invariant c.known.ensures c.requires.may c.requires.accepted c.row_begun-row.ensures.added c.row_begun-row.ensures.entry c.row_begun-row.ensures.suits c.row_begun-row.ensures.timely (c.unwrap_or-number.ensures ∙ ap (λ (o : Option ℕ). unwrap_or o 0) c.board_with.ensures)).within

pub reserve_marks-requires-clause-home : goal.reserve_marks-requires-clause-home
reserve_marks-requires-clause-home g c =
    (take-plan (signs_of g.K.Keeper.tells g.K.Keeper.doubt g.K.Keeper.faults) c.args.client c.args.payload.count c.args.ticket c.row_begun-row.result c.unwrap_or-number.result (record { house_log = c.self.inside.house_log; places = c.self.inside.places.items; pool = c.self.inside.pool; keeper = c.self.inside.keeper }) c.args.self.now c.self.view_is c.self.invariant c.known.ensures c.requires.may c.requires.accepted c.row_begun-row.ensures.added c.row_begun-row.ensures.entry c.row_begun-row.ensures.suits c.row_begun-row.ensures.timely (c.unwrap_or-number.ensures ∙ ap (λ (o : Option ℕ). unwrap_or o 0) c.board_with.ensures)).home

pub store_claim-requires-clause-may : goal.store_claim-requires-clause-may
store_claim-requires-clause-may g c =
    may-over c.reserve_marks.new.self.house_log c.args.self.now.house_log c.args.client c.args.payload.count c.args.ticket c.in-Ok.ensures.house_log c.requires.may

pub store_claim-requires-clause-whole : goal.store_claim-requires-clause-whole
store_claim-requires-clause-whole g c =
    payload-over c.reserve_marks.new.self.house_log c.args.self.now.house_log c.args.ticket c.args.payload c.in-Ok.ensures.house_log c.requires.whole

pub store_claim-requires-clause-store : goal.store_claim-requires-clause-store
store_claim-requires-clause-store g c =
    store-over c.reserve_marks.new.self.house_log c.args.self.now.house_log c.args.client c.args.ticket c.row_begun-row.result c.unwrap_or-number.result c.in-Ok.ensures.house_log (take-plan (signs_of g.K.Keeper.tells g.K.Keeper.doubt g.K.Keeper.faults) c.args.client c.args.payload.count c.args.ticket c.row_begun-row.result c.unwrap_or-number.result (record { house_log = c.self.inside.house_log; places = c.self.inside.places.items; pool = c.self.inside.pool; keeper = c.self.inside.keeper }) c.args.self.now c.self.view_is c.self.invariant c.known.ensures c.requires.may c.requires.accepted c.row_begun-row.ensures.added c.row_begun-row.ensures.entry c.row_begun-row.ensures.suits c.row_begun-row.ensures.timely (c.unwrap_or-number.ensures ∙ ap (λ (o : Option ℕ). unwrap_or o 0) c.board_with.ensures)).store

pub returns-in-Err : goal.returns-in-Err
returns-in-Err g c = record {
  turn = turn-left c.reserve_marks.new.self.house_log c.args.self.now.house_log c.args.client c.args.payload.count c.args.ticket (claim_event c.args.client c.args.ticket.request (Fetched.Whole c.args.payload)) c.in-Err.ensures.house_log c.requires.may;
  gave = (c.in-Err.ensures.pool, c.in-Err.ensures.roomier, refl, refl);
  fared = fared-same (signs_of g.K.Keeper.tells g.K.Keeper.doubt g.K.Keeper.faults) c.args.self.now c.reserve_marks.new.self (ap (λ (a : HouseLogView). keeper_faults (past_in a)) c.in-Err.ensures.house_log) c.in-Err.ensures.keeper;
  counts = same-faults g.K.Keeper.faults c.args.self.now c.reserve_marks.new.self c.in-Err.ensures.keeper;
}

pub returns-in-Ok : goal.returns-in-Ok
returns-in-Ok g c = record {
  turn = turn-over c.reserve_marks.new.self.house_log c.args.self.now.house_log c.store_claim.new.self.house_log c.args.client (claim_event c.args.client c.args.ticket.request (Fetched.Whole c.args.payload)) (stopped_by c.store_claim.result) c.in-Ok.ensures.house_log c.store_claim.ensures.turn;
  gave = gave-after c.args.client c.args.ticket (Fetched.Whole c.args.payload) c.store_claim.result c.args.self.now c.reserve_marks.new.self c.store_claim.new.self c.in-Ok.ensures.roomier c.in-Ok.ensures.pool c.store_claim.ensures.gave;
  fared = faults-after (signs_of g.K.Keeper.tells g.K.Keeper.doubt g.K.Keeper.faults) c.args.self.now c.reserve_marks.new.self c.store_claim.new.self (ap (λ (a : HouseLogView). keeper_faults (past_in a)) c.in-Ok.ensures.house_log) c.in-Ok.ensures.keeper c.store_claim.ensures.counts c.store_claim.ensures.fared;
  counts = subst (λ (k : g.row.K.Denot). g.K.Keeper.faults k ≤ g.K.Keeper.faults c.store_claim.new.self.keeper) c.in-Ok.ensures.keeper c.store_claim.ensures.counts;
}
