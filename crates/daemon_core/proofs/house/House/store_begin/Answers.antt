use Rattle.std.proofs.Common.{◌≤◌, ◌∙◌, ◌+◌, ℕ, ap, sym, subst, refl, arith, inl, inr}
use Rattle.std.specs.Prelude.{Err, IfSome, None, Some, Ok}
use Rattle.history_keeper.specs.Signs.{signs_of}
use Rattle.update_log.specs.Pasts.{is_boot}
use Rattle.update_log.specs.declared.answer.ResumeAnswer.{ResumeAnswer}
use Rattle.update_log.specs.declared.event.Event.{Event}
use Rattle.update_log.specs.declared.event.Stored.{Stored}
use Rattle.update_log.specs.declared.refusal.Refusal.{Refusal}
use Rattle.daemon_core.specs.declared.claimed.Claimed.{Claimed}
use Rattle.daemon_core.specs.declared.fetched.Fetched.{Fetched}
use Rattle.daemon_core.specs.HouseLog.{IsMadeBy}
use Rattle.daemon_core.specs.Fetches.{whole_note}
use Rattle.daemon_core.specs.Housed.{Housed}
use Rattle.daemon_core.specs.Resumes.{ResumeGave}
use Rattle.daemon_core.specs.Returns.{place_at}
use Rattle.daemon_core.specs.Turns.{KeeperFared}
use Rattle.daemon_core.proofs.ClaimRoom.{places-same, places-themselves}
use Rattle.daemon_core.proofs.ResumeExits.{begin-event, begin-home, begin-live, begin-ready, begin-sheet, doubt-fits, doubt-ready, doubtful-event, fail-clear, fail-suits, faults-resumed, gave-taken, house-doubts, house-left, house-took, resuming, turn-doubts, turn-left, turn-took}
use Rattle.daemon_core.proofs.ResumeTurns.{resume-within}
use Rattle.daemon_core.proofs.house.House.store_begin.Goals as goal
use Rattle.daemon_core.proofs.Fared.{calm-memory, calm-ok, fared-quiet, told-left, told-with}

pub commit-requires-clause-no_doubt : goal.commit-requires-clause-no_doubt
commit-requires-clause-no_doubt g c =
    fail-clear (signs_of g.K.Keeper.tells g.K.Keeper.doubt g.K.Keeper.faults) c.args.entry (record { house_log = c.self.inside.house_log; places = c.self.inside.places.items; pool = c.self.inside.pool; keeper = c.self.inside.keeper }) c.self.invariant c.known.ensures (resuming c.self.inside.house_log c.args.self.now.house_log c.args.entry c.args.ticket c.args.payload c.args.number (ap (λ (h : Housed g.row.K.Denot). h.house_log) c.self.view_is) c.requires.begins).may

pub commit-requires-clause-suits : goal.commit-requires-clause-suits
commit-requires-clause-suits g c =
    fail-suits (signs_of g.K.Keeper.tells g.K.Keeper.doubt g.K.Keeper.faults) c.args.entry ResumeAnswer.Begun c.resumption-change.result (record { house_log = c.self.inside.house_log; places = c.self.inside.places.items; pool = c.self.inside.pool; keeper = c.self.inside.keeper }) c.self.invariant c.known.ensures (resuming c.self.inside.house_log c.args.self.now.house_log c.args.entry c.args.ticket c.args.payload c.args.number (ap (λ (h : Housed g.row.K.Denot). h.house_log) c.self.view_is) c.requires.begins).may c.resumption-change.ensures.is

pub note-requires : goal.note-requires
note-requires g c =
    let resumes = resuming c.self.inside.house_log c.args.self.now.house_log c.args.entry c.args.ticket c.args.payload c.args.number (ap (λ (h : Housed g.row.K.Denot). h.house_log) c.self.view_is) c.requires.begins in
    let ready = begin-ready c.self.inside.house_log c.args.entry c.args.ticket c.args.payload c.args.number c.begun.result c.known.ensures resumes (begin-event c.args.entry c.args.payload c.whole_note-note.result c.begun.result c.begun.ensures c.whole_note-note.ensures) in
    record {
      no_boot = ap is_boot c.begun.ensures;
      loaded = resumes.may.loaded;
      takes = ready.takes;
      allowed = ready.allowed;
      made = subst (λ (x : Event). IsMadeBy x 0) (sym c.begun.ensures) refl;
      room = ready.room;
      row = ready.row;
    }

pub note-requires-in-Err-Fault : goal.note-requires-in-Err-Fault
note-requires-in-Err-Fault g c =
    let resumes = resuming c.self.inside.house_log c.args.self.now.house_log c.args.entry c.args.ticket c.args.payload c.args.number (ap (λ (h : Housed g.row.K.Denot). h.house_log) c.self.view_is) c.requires.begins in
    let ready = doubt-ready c.self.inside.house_log c.args.entry c.args.ticket c.args.payload c.args.number c.begin_in_doubt.result c.known.ensures resumes (doubtful-event c.args.entry c.args.payload c.whole_note-note.result c.begin_in_doubt.result c.begin_in_doubt.ensures c.whole_note-note.ensures) in
    record {
      no_boot = ap is_boot c.begin_in_doubt.ensures;
      loaded = resumes.may.loaded;
      takes = ready.takes;
      allowed = ready.allowed;
      made = subst (λ (x : Event). IsMadeBy x 0) (sym c.begin_in_doubt.ensures) refl;
      room = ready.room;
      row = ready.row;
    }

pub take_out-board-requires-clause-within : goal.take_out-board-requires-clause-within
take_out-board-requires-clause-within g c =
    resume-within (signs_of g.K.Keeper.tells g.K.Keeper.doubt g.K.Keeper.faults) c.args.entry c.args.ticket c.args.payload c.args.number (record { house_log = c.self.inside.house_log; places = c.self.inside.places.items; pool = c.self.inside.pool; keeper = c.self.inside.keeper }) c.self.invariant (resuming c.self.inside.house_log c.args.self.now.house_log c.args.entry c.args.ticket c.args.payload c.args.number (ap (λ (h : Housed g.row.K.Denot). h.house_log) c.self.view_is) c.requires.begins)

pub take_out-board-requires-clause-home : goal.take_out-board-requires-clause-home
take_out-board-requires-clause-home g c =
    begin-home (signs_of g.K.Keeper.tells g.K.Keeper.doubt g.K.Keeper.faults) c.args.entry c.args.ticket c.args.payload c.args.number (record { house_log = c.self.inside.house_log; places = c.self.inside.places.items; pool = c.self.inside.pool; keeper = c.self.inside.keeper }) c.self.invariant c.known.ensures (resuming c.self.inside.house_log c.args.self.now.house_log c.args.entry c.args.ticket c.args.payload c.args.number (ap (λ (h : Housed g.row.K.Denot). h.house_log) c.self.view_is) c.requires.begins)

pub taken-requires-clause-live : goal.taken-requires-clause-live
taken-requires-clause-live g c =
    begin-live c.self.inside.house_log c.note.new.self c.args.entry c.args.ticket c.args.payload c.args.number c.begun.result c.known.ensures (resuming c.self.inside.house_log c.args.self.now.house_log c.args.entry c.args.ticket c.args.payload c.args.number (ap (λ (h : Housed g.row.K.Denot). h.house_log) c.self.view_is) c.requires.begins) (begin-event c.args.entry c.args.payload c.whole_note-note.result c.begun.result c.begun.ensures c.whole_note-note.ensures) c.note.ensures.appended

pub taken-requires-clause-within : goal.taken-requires-clause-within
taken-requires-clause-within g c =
    begin-sheet c.self.inside.house_log c.note.new.self c.args.entry c.args.ticket c.args.payload c.args.number c.begun.result (resuming c.self.inside.house_log c.args.self.now.house_log c.args.entry c.args.ticket c.args.payload c.args.number (ap (λ (h : Housed g.row.K.Denot). h.house_log) c.self.view_is) c.requires.begins) c.note.ensures.appended

pub give-requires : goal.give-requires
give-requires g c =
    (let f = doubt-fits (signs_of g.K.Keeper.tells g.K.Keeper.doubt g.K.Keeper.faults) c.args.entry c.args.ticket c.args.payload c.args.number (record { house_log = c.self.inside.house_log; places = c.self.inside.places.items; pool = c.self.inside.pool; keeper = c.self.inside.keeper }) c.self.invariant c.known.ensures (resuming c.self.inside.house_log c.args.self.now.house_log c.args.entry c.args.ticket c.args.payload c.args.number (ap (λ (h : Housed g.row.K.Denot). h.house_log) c.self.view_is) c.requires.begins) in let e = c.into_blocks.ensures.count in omega (arith, f, e))

pub invariant_of-self : goal.invariant_of-self
invariant_of-self g c =
    house-took (signs_of g.K.Keeper.tells g.K.Keeper.doubt g.K.Keeper.faults) c.args.entry c.args.ticket c.args.payload c.args.number c.resumption-change.result c.begun.result (record { house_log = c.self.inside.house_log; places = c.self.inside.places.items; pool = c.self.inside.pool; keeper = c.self.inside.keeper }) c.note.new.self c.commit.new.self c.take_out-board.new.places.items c.self.invariant c.known.ensures c.note.ensures.known (resuming c.self.inside.house_log c.args.self.now.house_log c.args.entry c.args.ticket c.args.payload c.args.number (ap (λ (h : Housed g.row.K.Denot). h.house_log) c.self.view_is) c.requires.begins)
    (begin-event c.args.entry c.args.payload c.whole_note-note.result c.begun.result c.begun.ensures c.whole_note-note.ensures) c.note.ensures.appended c.resumption-change.ensures.is c.in-Ok.ensures.committed c.take_out-board.ensures.places

pub invariant_of-self-in-Err-Fault : goal.invariant_of-self-in-Err-Fault
invariant_of-self-in-Err-Fault g c =
    house-doubts (signs_of g.K.Keeper.tells g.K.Keeper.doubt g.K.Keeper.faults) c.args.entry c.args.ticket c.args.payload c.args.number c.resumption-change.result c.begin_in_doubt.result (record { house_log = c.self.inside.house_log; places = c.self.inside.places.items; pool = c.self.inside.pool; keeper = c.self.inside.keeper }) c.note-in-Err-Fault.new.self c.give.new.self c.commit.new.self c.self.invariant c.known.ensures c.note-in-Err-Fault.ensures.known (resuming c.self.inside.house_log c.args.self.now.house_log c.args.entry c.args.ticket c.args.payload c.args.number (ap (λ (h : Housed g.row.K.Denot). h.house_log) c.self.view_is) c.requires.begins)
    (doubtful-event c.args.entry c.args.payload c.whole_note-note.result c.begin_in_doubt.result c.begin_in_doubt.ensures c.whole_note-note.ensures) c.note-in-Err-Fault.ensures.appended c.resumption-change.ensures.is (rw c.in-Err-Fault.field-0-is at c.in-Err-Fault.ensures.committed)
    c.give.ensures.capacity (c.give.ensures.conserved ∙ ap (λ (n : ℕ). c.self.inside.pool.free + n) c.into_blocks.ensures.count)

pub invariant_of-self-in-Err-NoMemory : goal.invariant_of-self-in-Err-NoMemory
invariant_of-self-in-Err-NoMemory g c =
    house-left (signs_of g.K.Keeper.tells g.K.Keeper.doubt g.K.Keeper.faults) c.args.entry (record { house_log = c.self.inside.house_log; places = c.self.inside.places.items; pool = c.self.inside.pool; keeper = c.self.inside.keeper }) c.commit.new.self c.self.invariant c.known.ensures (resuming c.self.inside.house_log c.args.self.now.house_log c.args.entry c.args.ticket c.args.payload c.args.number (ap (λ (h : Housed g.row.K.Denot). h.house_log) c.self.view_is) c.requires.begins).may (rw c.in-Err-NoMemory.field-0-is at c.in-Err-NoMemory.ensures.committed)

pub returns-in-Ok : goal.returns-in-Ok
returns-in-Ok g c = record {
  turn = turn-took c.self.inside.house_log c.args.self.now.house_log c.note.new.self c.args.entry c.args.payload c.taken.result c.begun.result (ap (λ (h : Housed g.row.K.Denot). h.house_log) c.self.view_is) (resuming c.self.inside.house_log c.args.self.now.house_log c.args.entry c.args.ticket c.args.payload c.args.number (ap (λ (h : Housed g.row.K.Denot). h.house_log) c.self.view_is) c.requires.begins).may (begin-event c.args.entry c.args.payload c.whole_note-note.result c.begun.result c.begun.ensures c.whole_note-note.ensures) c.note.ensures.appended;
  gave =
      subst (λ (h : Housed g.row.K.Denot). ResumeGave c.args.entry (Some (c.args.ticket, (Fetched.Whole c.args.payload))) (Ok (Claimed.Taken c.taken.result)) h (record { house_log = c.note.new.self; places = c.take_out-board.new.places.items; pool = c.self.inside.pool; keeper = c.commit.new.self })) c.self.view_is
      (gave-taken (signs_of g.K.Keeper.tells g.K.Keeper.doubt g.K.Keeper.faults) c.args.entry c.args.ticket c.args.payload c.args.number c.taken.result c.begun.result (record { house_log = c.self.inside.house_log; places = c.self.inside.places.items; pool = c.self.inside.pool; keeper = c.self.inside.keeper }) (record { house_log = c.note.new.self; places = c.take_out-board.new.places.items; pool = c.self.inside.pool; keeper = c.commit.new.self }) c.self.invariant c.known.ensures (resuming c.self.inside.house_log c.args.self.now.house_log c.args.entry c.args.ticket c.args.payload c.args.number (ap (λ (h : Housed g.row.K.Denot). h.house_log) c.self.view_is) c.requires.begins)
      (subst (λ (h : Housed g.row.K.Denot). IfSome (place_at h.places c.args.number).board (λ b. 8 ≤ b.room)) (sym c.self.view_is) c.requires.marks) (begin-event c.args.entry c.args.payload c.whole_note-note.result c.begun.result c.begun.ensures c.whole_note-note.ensures) c.note.ensures.appended refl
      c.take_out-board.ensures.places (c.take_out-board.ensures.board ∙ ap Some (sym c.taken.ensures.board)) c.taken.ensures.entry c.taken.ensures.payload c.taken.ensures.plugin c.taken.ensures.traced);
  fared =
      subst (λ (h : Housed g.row.K.Denot). KeeperFared (signs_of g.K.Keeper.tells g.K.Keeper.doubt g.K.Keeper.faults) h (record { house_log = c.note.new.self; places = c.take_out-board.new.places.items; pool = c.self.inside.pool; keeper = c.commit.new.self })) c.self.view_is
      (faults-resumed (signs_of g.K.Keeper.tells g.K.Keeper.doubt g.K.Keeper.faults) c.args.entry (Some (whole_note c.args.payload)) ResumeAnswer.Begun Stored.Yes c.begun.result (record { house_log = c.self.inside.house_log; places = c.self.inside.places.items; pool = c.self.inside.pool; keeper = c.self.inside.keeper }) (record { house_log = c.note.new.self; places = c.take_out-board.new.places.items; pool = c.self.inside.pool; keeper = c.commit.new.self }) (begin-event c.args.entry c.args.payload c.whole_note-note.result c.begun.result c.begun.ensures c.whole_note-note.ensures) refl c.note.ensures.appended (λ e. cc)
      (inr (calm-ok _ _ refl c.in-Ok.ensures.quiet)) (told-with g.K.Keeper.tells c.self.inside.keeper c.commit.new.self _ c.in-Ok.ensures.committed.0));
  counts = subst (λ (h : Housed g.row.K.Denot). g.K.Keeper.faults h.keeper ≤ g.K.Keeper.faults c.commit.new.self) c.self.view_is c.in-Ok.ensures.counts;
}

pub returns-in-Err-Fault : goal.returns-in-Err-Fault
returns-in-Err-Fault g c = record {
  turn = turn-doubts c.self.inside.house_log c.args.self.now.house_log c.note-in-Err-Fault.new.self c.args.entry c.args.payload c.begin_in_doubt.result (ap (λ (h : Housed g.row.K.Denot). h.house_log) c.self.view_is) (resuming c.self.inside.house_log c.args.self.now.house_log c.args.entry c.args.ticket c.args.payload c.args.number (ap (λ (h : Housed g.row.K.Denot). h.house_log) c.self.view_is) c.requires.begins).may (doubtful-event c.args.entry c.args.payload c.whole_note-note.result c.begin_in_doubt.result c.begin_in_doubt.ensures c.whole_note-note.ensures) c.note-in-Err-Fault.ensures.appended;
  gave =
      subst (λ (h : Housed g.row.K.Denot). ResumeGave c.args.entry (Some (c.args.ticket, (Fetched.Whole c.args.payload))) (Ok (Claimed.Refused Refusal.KeeperFault)) h (record { house_log = c.note-in-Err-Fault.new.self; places = c.self.inside.places.items; pool = c.give.new.self; keeper = c.commit.new.self })) c.self.view_is
      (c.give.ensures.conserved ∙ ap (λ (n : ℕ). c.self.inside.pool.free + n) c.into_blocks.ensures.count, places-themselves c.self.inside.places.items);
  fared =
      subst (λ (h : Housed g.row.K.Denot). KeeperFared (signs_of g.K.Keeper.tells g.K.Keeper.doubt g.K.Keeper.faults) h (record { house_log = c.note-in-Err-Fault.new.self; places = c.self.inside.places.items; pool = c.give.new.self; keeper = c.commit.new.self })) c.self.view_is
      (faults-resumed (signs_of g.K.Keeper.tells g.K.Keeper.doubt g.K.Keeper.faults) c.args.entry (Some (whole_note c.args.payload)) (ResumeAnswer.Refused Refusal.KeeperFault) Stored.Fault c.begin_in_doubt.result (record { house_log = c.self.inside.house_log; places = c.self.inside.places.items; pool = c.self.inside.pool; keeper = c.self.inside.keeper }) (record { house_log = c.note-in-Err-Fault.new.self; places = c.self.inside.places.items; pool = c.give.new.self; keeper = c.commit.new.self }) (doubtful-event c.args.entry c.args.payload c.whole_note-note.result c.begin_in_doubt.result c.begin_in_doubt.ensures c.whole_note-note.ensures) refl c.note-in-Err-Fault.ensures.appended (λ e. c.in-Err-Fault.ensures.cause (ap Err c.in-Err-Fault.field-0-is)) (inl refl)
      (told-left (signs_of g.K.Keeper.tells g.K.Keeper.doubt g.K.Keeper.faults) c.self.inside.keeper c.commit.new.self _ (rw c.in-Err-Fault.field-0-is at c.in-Err-Fault.ensures.committed)));
  counts = subst (λ (h : Housed g.row.K.Denot). g.K.Keeper.faults h.keeper ≤ g.K.Keeper.faults c.commit.new.self) c.self.view_is c.in-Err-Fault.ensures.counts;
}

pub returns-in-Err-NoMemory : goal.returns-in-Err-NoMemory
returns-in-Err-NoMemory g c = record {
  turn = turn-left c.self.inside.house_log c.args.self.now.house_log c.args.entry (Some (whole_note c.args.payload)) (Some (c.args.ticket, (Fetched.Whole c.args.payload))) (ap (λ (h : Housed g.row.K.Denot). h.house_log) c.self.view_is) c.requires.begins.may;
  gave = (ap (λ (h : Housed g.row.K.Denot). h.pool) c.self.view_is, places-same c.args.self.now.places c.self.inside.places.items (ap (λ (h : Housed g.row.K.Denot). h.places) c.self.view_is), refl);
  fared =
      subst (λ (h : Housed g.row.K.Denot). KeeperFared (signs_of g.K.Keeper.tells g.K.Keeper.doubt g.K.Keeper.faults) h (record { house_log = c.self.inside.house_log; places = c.self.inside.places.items; pool = c.self.inside.pool; keeper = c.commit.new.self })) c.self.view_is
      (fared-quiet (signs_of g.K.Keeper.tells g.K.Keeper.doubt g.K.Keeper.faults) (record { house_log = c.self.inside.house_log; places = c.self.inside.places.items; pool = c.self.inside.pool; keeper = c.self.inside.keeper }) (record { house_log = c.self.inside.house_log; places = c.self.inside.places.items; pool = c.self.inside.pool; keeper = c.commit.new.self }) refl
      (calm-memory _ (ap Err c.in-Err-NoMemory.field-0-is) c.in-Err-NoMemory.ensures.quiet)
      (told-left (signs_of g.K.Keeper.tells g.K.Keeper.doubt g.K.Keeper.faults) c.self.inside.keeper c.commit.new.self None (rw c.in-Err-NoMemory.field-0-is at c.in-Err-NoMemory.ensures.committed)));
  counts = subst (λ (h : Housed g.row.K.Denot). g.K.Keeper.faults h.keeper ≤ g.K.Keeper.faults c.commit.new.self) c.self.view_is c.in-Err-NoMemory.ensures.counts;
}
