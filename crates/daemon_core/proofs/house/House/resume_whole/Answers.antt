use Rattle.std.proofs.Common.{◌≤◌, ◌∙◌, ℕ, ap, subst, refl}
use Rattle.std.specs.Prelude.{Option, Some, unwrap_or}
use Rattle.history_keeper.specs.Signs.{signs_of}
use Rattle.daemon_core.specs.declared.fetched.Fetched.{Fetched}
use Rattle.daemon_core.specs.Fetches.{whole_note}
use Rattle.daemon_core.specs.Housed.{HouseLogView, past_in}
use Rattle.daemon_core.specs.Keeping.{keeper_faults}
use Rattle.daemon_core.proofs.ClaimAnswers.{faults-after}
use Rattle.daemon_core.proofs.ClaimExits.{same-faults}
use Rattle.daemon_core.proofs.ResumeExits.{gave-after, resume-plan, resumed-over, resuming, turn-left}
use Rattle.daemon_core.proofs.house.House.resume_whole.Goals as goal
use Rattle.daemon_core.proofs.Fared.{fared-same}

pub reserve_marks-requires-clause-within : goal.reserve_marks-requires-clause-within
reserve_marks-requires-clause-within g c =
    (resume-plan (signs_of g.K.Keeper.tells g.K.Keeper.doubt g.K.Keeper.faults) c.args.entry c.args.ticket c.args.payload c.unwrap_or-number.result (record { house_log = c.self.inside.house_log; places = c.self.inside.places.items; pool = c.self.inside.pool; keeper = c.self.inside.keeper }) c.args.self.now c.self.view_is c.self.invariant c.known.ensures (record { may = c.requires.may; held = c.requires.held; accepted = c.requires.accepted }) (c.unwrap_or-number.ensures ∙ ap (λ (o : Option ℕ). unwrap_or o 0) c.board_of.ensures)).within

pub reserve_marks-requires-clause-home : goal.reserve_marks-requires-clause-home
reserve_marks-requires-clause-home g c =
    (resume-plan (signs_of g.K.Keeper.tells g.K.Keeper.doubt g.K.Keeper.faults) c.args.entry c.args.ticket c.args.payload c.unwrap_or-number.result (record { house_log = c.self.inside.house_log; places = c.self.inside.places.items; pool = c.self.inside.pool; keeper = c.self.inside.keeper }) c.args.self.now c.self.view_is c.self.invariant c.known.ensures (record { may = c.requires.may; held = c.requires.held; accepted = c.requires.accepted }) (c.unwrap_or-number.ensures ∙ ap (λ (o : Option ℕ). unwrap_or o 0) c.board_of.ensures)).home

pub store_begin-requires-clause-begins : goal.store_begin-requires-clause-begins
store_begin-requires-clause-begins g c =
    resuming c.reserve_marks.new.self.house_log c.args.self.now.house_log c.args.entry c.args.ticket c.args.payload c.unwrap_or-number.result c.in-Ok.ensures.house_log (resume-plan (signs_of g.K.Keeper.tells g.K.Keeper.doubt g.K.Keeper.faults) c.args.entry c.args.ticket c.args.payload c.unwrap_or-number.result (record { house_log = c.self.inside.house_log; places = c.self.inside.places.items; pool = c.self.inside.pool; keeper = c.self.inside.keeper }) c.args.self.now c.self.view_is c.self.invariant c.known.ensures (record { may = c.requires.may; held = c.requires.held; accepted = c.requires.accepted }) (c.unwrap_or-number.ensures ∙ ap (λ (o : Option ℕ). unwrap_or o 0) c.board_of.ensures)).begins_so

pub returns-in-Err : goal.returns-in-Err
returns-in-Err g c = record {
  turn = turn-left c.reserve_marks.new.self.house_log c.args.self.now.house_log c.args.entry (Some (whole_note c.args.payload)) (Some (c.args.ticket, (Fetched.Whole c.args.payload))) c.in-Err.ensures.house_log c.requires.may;
  gave = (c.in-Err.ensures.pool, c.in-Err.ensures.roomier, refl);
  fared = fared-same (signs_of g.K.Keeper.tells g.K.Keeper.doubt g.K.Keeper.faults) c.args.self.now c.reserve_marks.new.self (ap (λ (a : HouseLogView). keeper_faults (past_in a)) c.in-Err.ensures.house_log) c.in-Err.ensures.keeper;
  counts = same-faults g.K.Keeper.faults c.args.self.now c.reserve_marks.new.self c.in-Err.ensures.keeper;
}

pub returns-in-Ok : goal.returns-in-Ok
returns-in-Ok g c = record {
  turn = resumed-over c.args.entry (Some (whole_note c.args.payload)) c.store_begin.result c.reserve_marks.new.self.house_log c.args.self.now.house_log c.store_begin.new.self.house_log c.in-Ok.ensures.house_log c.store_begin.ensures.turn;
  gave = gave-after c.args.entry (Some (c.args.ticket, (Fetched.Whole c.args.payload))) c.store_begin.result c.args.self.now c.reserve_marks.new.self c.store_begin.new.self c.in-Ok.ensures.roomier c.in-Ok.ensures.pool c.store_begin.ensures.gave;
  fared = faults-after (signs_of g.K.Keeper.tells g.K.Keeper.doubt g.K.Keeper.faults) c.args.self.now c.reserve_marks.new.self c.store_begin.new.self (ap (λ (a : HouseLogView). keeper_faults (past_in a)) c.in-Ok.ensures.house_log) c.in-Ok.ensures.keeper c.store_begin.ensures.counts c.store_begin.ensures.fared;
  counts = subst (λ (k : g.row.K.Denot). g.K.Keeper.faults k ≤ g.K.Keeper.faults c.store_begin.new.self.keeper) c.in-Ok.ensures.keeper c.store_begin.ensures.counts;
}
