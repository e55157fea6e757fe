use Rattle.std.proofs.Common.{◌≤◌, ◌∙◌, ◌+◌, ℕ, ap, sym, subst, refl}
use Rattle.std.specs.Prelude.{Err, IfSome, None, Some, Ok, is_some}
use Rattle.history_keeper.specs.declared.change.Change.{Change}
use Rattle.history_keeper.specs.Signs.{signs_of}
use Rattle.update_log.specs.declared.event.Event.{Event}
use Rattle.update_log.specs.declared.refusal.Refusal.{Refusal}
use Rattle.daemon_core.specs.declared.claimed.Claimed.{Claimed}
use Rattle.daemon_core.specs.declared.fetched.Fetched.{Fetched}
use Rattle.daemon_core.specs.HouseLog.{Appended, IsMadeBy}
use Rattle.update_log.specs.Pasts.{is_boot}
use Rattle.daemon_core.specs.Claims.{ClaimGave, claim_event}
use Rattle.daemon_core.specs.Housed.{Housed}
use Rattle.daemon_core.specs.Returns.{place_at}
use Rattle.daemon_core.specs.Turns.{KeeperFared}
use Rattle.daemon_core.proofs.ClaimAnswers.{gave-taken}
use Rattle.daemon_core.proofs.ClaimExits.{end-fits, fault-event, fault-ready, faults-failed, faults-took, house-failed, house-left, house-took, made-event, store-plain, store-suits, storing, take-ready, took-live, took-within, turn-failed, turn-left, turn-took}
use Rattle.daemon_core.proofs.ClaimRoom.{places-same, places-themselves}
use Rattle.daemon_core.proofs.ClaimTurns.{claim-board, store-within}
use Rattle.daemon_core.proofs.PuttingOff.{keeps-left, keeps-made}
use Rattle.daemon_core.proofs.house.House.store_claim.Goals as goal
use Rattle.daemon_core.proofs.Fared.{calm-memory, calm-ok, fared-quiet, told-left, told-with}

pub commit-requires : goal.commit-requires
commit-requires g c = record {
  no_doubt = (store-plain (signs_of g.K.Keeper.tells g.K.Keeper.doubt g.K.Keeper.faults) c.args.client c.args.ticket c.args.payload c.args.row c.args.number (record { house_log = c.self.inside.house_log; places = c.self.inside.places.items; pool = c.self.inside.pool; keeper = c.self.inside.keeper }) c.self.invariant c.known.ensures (storing c.self.inside.house_log c.args.self.now.house_log c.args.client c.args.ticket c.args.payload c.args.row c.args.number (ap (λ (h : Housed g.row.K.Denot). h.house_log) c.self.view_is) c.requires.may c.requires.whole c.requires.store)).doubt_is;
  suits = store-suits (signs_of g.K.Keeper.tells g.K.Keeper.doubt g.K.Keeper.faults) c.args.client c.args.ticket c.args.payload c.args.row c.args.number (record { house_log = c.self.inside.house_log; places = c.self.inside.places.items; pool = c.self.inside.pool; keeper = c.self.inside.keeper }) c.self.invariant c.known.ensures (storing c.self.inside.house_log c.args.self.now.house_log c.args.client c.args.ticket c.args.payload c.args.row c.args.number (ap (λ (h : Housed g.row.K.Denot). h.house_log) c.self.view_is) c.requires.may c.requires.whole c.requires.store);
  timely = c.requires.store.timely;
}

pub note-requires : goal.note-requires
note-requires g c =
    let ready = take-ready c.self.inside.house_log c.args.client c.args.ticket c.args.payload c.args.row c.args.number c.claimed.result c.known.ensures (storing c.self.inside.house_log c.args.self.now.house_log c.args.client c.args.ticket c.args.payload c.args.row c.args.number (ap (λ (h : Housed g.row.K.Denot). h.house_log) c.self.view_is) c.requires.may c.requires.whole c.requires.store) (made-event c.args.client c.args.row.entry c.args.ticket c.args.payload c.args.row c.whole_note-note.result c.claimed.result c.claimed.ensures c.whole_note-note.ensures refl) in
    record {
      no_boot = ap is_boot c.claimed.ensures;
      loaded = (storing c.self.inside.house_log c.args.self.now.house_log c.args.client c.args.ticket c.args.payload c.args.row c.args.number (ap (λ (h : Housed g.row.K.Denot). h.house_log) c.self.view_is) c.requires.may c.requires.whole c.requires.store).may.loaded;
      takes = ready.takes;
      allowed = ready.allowed;
      made = subst (λ (x : Event). IsMadeBy x c.args.client) (sym c.claimed.ensures) refl;
      room = ready.room;
      row = ready.row;
    }

pub note-requires-in-Err-Fault : goal.note-requires-in-Err-Fault
note-requires-in-Err-Fault g c =
    let ready = fault-ready c.self.inside.house_log c.args.client c.args.ticket c.args.payload c.args.row c.args.number c.claimed-in-Err-Fault.result c.known.ensures (storing c.self.inside.house_log c.args.self.now.house_log c.args.client c.args.ticket c.args.payload c.args.row c.args.number (ap (λ (h : Housed g.row.K.Denot). h.house_log) c.self.view_is) c.requires.may c.requires.whole c.requires.store) (fault-event c.args.client c.args.ticket c.args.payload c.whole_note-note.result c.claimed-in-Err-Fault.result c.claimed-in-Err-Fault.ensures c.whole_note-note.ensures) in
    record {
      no_boot = ap is_boot c.claimed-in-Err-Fault.ensures;
      loaded = (storing c.self.inside.house_log c.args.self.now.house_log c.args.client c.args.ticket c.args.payload c.args.row c.args.number (ap (λ (h : Housed g.row.K.Denot). h.house_log) c.self.view_is) c.requires.may c.requires.whole c.requires.store).may.loaded;
      takes = ready.takes;
      allowed = ready.allowed;
      made = subst (λ (x : Event). IsMadeBy x c.args.client) (sym c.claimed-in-Err-Fault.ensures) refl;
      room = ready.room;
      row = ready.row;
    }

pub take_out-board-requires-clause-within : goal.take_out-board-requires-clause-within
take_out-board-requires-clause-within g c =
    (store-within (signs_of g.K.Keeper.tells g.K.Keeper.doubt g.K.Keeper.faults) c.args.client c.args.ticket c.args.row c.args.number (record { house_log = c.self.inside.house_log; places = c.self.inside.places.items; pool = c.self.inside.pool; keeper = c.self.inside.keeper }) c.self.invariant (storing c.self.inside.house_log c.args.self.now.house_log c.args.client c.args.ticket c.args.payload c.args.row c.args.number (ap (λ (h : Housed g.row.K.Denot). h.house_log) c.self.view_is) c.requires.may c.requires.whole c.requires.store).store)

pub take_out-board-requires-clause-home : goal.take_out-board-requires-clause-home
take_out-board-requires-clause-home g c =
    ap is_some (claim-board (signs_of g.K.Keeper.tells g.K.Keeper.doubt g.K.Keeper.faults) c.args.client c.args.payload.count c.args.ticket c.args.row c.args.number (record { house_log = c.self.inside.house_log; places = c.self.inside.places.items; pool = c.self.inside.pool; keeper = c.self.inside.keeper }) c.self.invariant c.known.ensures (storing c.self.inside.house_log c.args.self.now.house_log c.args.client c.args.ticket c.args.payload c.args.row c.args.number (ap (λ (h : Housed g.row.K.Denot). h.house_log) c.self.view_is) c.requires.may c.requires.whole c.requires.store).may (storing c.self.inside.house_log c.args.self.now.house_log c.args.client c.args.ticket c.args.payload c.args.row c.args.number (ap (λ (h : Housed g.row.K.Denot). h.house_log) c.self.view_is) c.requires.may c.requires.whole c.requires.store).store (store-within (signs_of g.K.Keeper.tells g.K.Keeper.doubt g.K.Keeper.faults) c.args.client c.args.ticket c.args.row c.args.number (record { house_log = c.self.inside.house_log; places = c.self.inside.places.items; pool = c.self.inside.pool; keeper = c.self.inside.keeper }) c.self.invariant (storing c.self.inside.house_log c.args.self.now.house_log c.args.client c.args.ticket c.args.payload c.args.row c.args.number (ap (λ (h : Housed g.row.K.Denot). h.house_log) c.self.view_is) c.requires.may c.requires.whole c.requires.store).store)).1

pub taken-requires-clause-live : goal.taken-requires-clause-live
taken-requires-clause-live g c =
    took-live c.self.inside.house_log c.note.new.self c.args.client c.args.row.entry c.args.ticket c.args.payload c.args.row c.args.number c.claimed.result c.known.ensures (storing c.self.inside.house_log c.args.self.now.house_log c.args.client c.args.ticket c.args.payload c.args.row c.args.number (ap (λ (h : Housed g.row.K.Denot). h.house_log) c.self.view_is) c.requires.may c.requires.whole c.requires.store) (made-event c.args.client c.args.row.entry c.args.ticket c.args.payload c.args.row c.whole_note-note.result c.claimed.result c.claimed.ensures c.whole_note-note.ensures refl) c.note.ensures.appended refl

pub taken-requires-clause-within : goal.taken-requires-clause-within
taken-requires-clause-within g c =
    took-within c.self.inside.house_log c.note.new.self c.args.client c.args.ticket c.args.payload c.args.row c.args.number c.claimed.result (storing c.self.inside.house_log c.args.self.now.house_log c.args.client c.args.ticket c.args.payload c.args.row c.args.number (ap (λ (h : Housed g.row.K.Denot). h.house_log) c.self.view_is) c.requires.may c.requires.whole c.requires.store) c.note.ensures.appended

pub give-requires : goal.give-requires
give-requires g c =
    end-fits (signs_of g.K.Keeper.tells g.K.Keeper.doubt g.K.Keeper.faults) c.args.client c.args.payload.count _ c.args.ticket (record { house_log = c.self.inside.house_log; places = c.self.inside.places.items; pool = c.self.inside.pool; keeper = c.self.inside.keeper }) c.args.self.now.house_log (ap (λ (h : Housed g.row.K.Denot). h.house_log) c.self.view_is) c.self.invariant c.known.ensures c.requires.may c.into_blocks.ensures.count

pub invariant_of-self : goal.invariant_of-self
invariant_of-self g c =
    house-took (signs_of g.K.Keeper.tells g.K.Keeper.doubt g.K.Keeper.faults) c.args.client c.args.ticket c.args.payload c.args.row c.args.number c.claimed.result (record { house_log = c.self.inside.house_log; places = c.self.inside.places.items; pool = c.self.inside.pool; keeper = c.self.inside.keeper }) c.note.new.self c.commit.new.self c.take_out-board.new.places.items c.self.invariant c.known.ensures c.note.ensures.known (storing c.self.inside.house_log c.args.self.now.house_log c.args.client c.args.ticket c.args.payload c.args.row c.args.number (ap (λ (h : Housed g.row.K.Denot). h.house_log) c.self.view_is) c.requires.may c.requires.whole c.requires.store)
    (made-event c.args.client c.args.row.entry c.args.ticket c.args.payload c.args.row c.whole_note-note.result c.claimed.result c.claimed.ensures c.whole_note-note.ensures refl) c.note.ensures.appended
    (keeps-made (signs_of g.K.Keeper.tells g.K.Keeper.doubt g.K.Keeper.faults) c.self.inside.keeper c.commit.new.self c.self.inside.house_log.core.rows (Change.Add c.args.row) (store-plain (signs_of g.K.Keeper.tells g.K.Keeper.doubt g.K.Keeper.faults) c.args.client c.args.ticket c.args.payload c.args.row c.args.number (record { house_log = c.self.inside.house_log; places = c.self.inside.places.items; pool = c.self.inside.pool; keeper = c.self.inside.keeper }) c.self.invariant c.known.ensures (storing c.self.inside.house_log c.args.self.now.house_log c.args.client c.args.ticket c.args.payload c.args.row c.args.number (ap (λ (h : Housed g.row.K.Denot). h.house_log) c.self.view_is) c.requires.may c.requires.whole c.requires.store)) c.in-Ok.ensures.committed)
    c.take_out-board.ensures.places

pub invariant_of-self-in-Err-Fault : goal.invariant_of-self-in-Err-Fault
invariant_of-self-in-Err-Fault g c =
    house-failed (signs_of g.K.Keeper.tells g.K.Keeper.doubt g.K.Keeper.faults) c.args.client c.args.ticket c.args.payload c.args.row c.args.number c.claimed-in-Err-Fault.result (record { house_log = c.self.inside.house_log; places = c.self.inside.places.items; pool = c.self.inside.pool; keeper = c.self.inside.keeper }) c.note-in-Err-Fault.new.self c.commit.new.self c.give.new.self c.self.invariant c.known.ensures c.note-in-Err-Fault.ensures.known (storing c.self.inside.house_log c.args.self.now.house_log c.args.client c.args.ticket c.args.payload c.args.row c.args.number (ap (λ (h : Housed g.row.K.Denot). h.house_log) c.self.view_is) c.requires.may c.requires.whole c.requires.store)
    (fault-event c.args.client c.args.ticket c.args.payload c.whole_note-note.result c.claimed-in-Err-Fault.result c.claimed-in-Err-Fault.ensures c.whole_note-note.ensures) c.note-in-Err-Fault.ensures.appended
    (keeps-left (signs_of g.K.Keeper.tells g.K.Keeper.doubt g.K.Keeper.faults) c.self.inside.keeper c.commit.new.self c.self.inside.house_log.core.rows (Some (Change.Add c.args.row)) (store-plain (signs_of g.K.Keeper.tells g.K.Keeper.doubt g.K.Keeper.faults) c.args.client c.args.ticket c.args.payload c.args.row c.args.number (record { house_log = c.self.inside.house_log; places = c.self.inside.places.items; pool = c.self.inside.pool; keeper = c.self.inside.keeper }) c.self.invariant c.known.ensures (storing c.self.inside.house_log c.args.self.now.house_log c.args.client c.args.ticket c.args.payload c.args.row c.args.number (ap (λ (h : Housed g.row.K.Denot). h.house_log) c.self.view_is) c.requires.may c.requires.whole c.requires.store)) (rw c.in-Err-Fault.field-0-is at c.in-Err-Fault.ensures.committed))
    c.give.ensures.capacity (c.give.ensures.conserved ∙ ap (λ (n : ℕ). c.self.inside.pool.free + n) c.into_blocks.ensures.count)

pub returns-in-Ok : goal.returns-in-Ok
returns-in-Ok g c = record {
  turn = turn-took c.self.inside.house_log c.args.self.now.house_log c.note.new.self c.args.client c.args.ticket c.args.payload c.args.row c.args.number c.taken.result c.claimed.result (ap (λ (h : Housed g.row.K.Denot). h.house_log) c.self.view_is) (storing c.self.inside.house_log c.args.self.now.house_log c.args.client c.args.ticket c.args.payload c.args.row c.args.number (ap (λ (h : Housed g.row.K.Denot). h.house_log) c.self.view_is) c.requires.may c.requires.whole c.requires.store) (made-event c.args.client c.args.row.entry c.args.ticket c.args.payload c.args.row c.whole_note-note.result c.claimed.result c.claimed.ensures c.whole_note-note.ensures refl) c.note.ensures.appended c.taken.ensures.entry;
  gave =
      subst (λ (h : Housed g.row.K.Denot). ClaimGave c.args.client c.args.ticket (Fetched.Whole c.args.payload) (Ok (Claimed.Taken c.taken.result)) h (record { house_log = c.note.new.self; places = c.take_out-board.new.places.items; pool = c.self.inside.pool; keeper = c.commit.new.self })) c.self.view_is
      (gave-taken (signs_of g.K.Keeper.tells g.K.Keeper.doubt g.K.Keeper.faults) c.args.client c.args.ticket c.args.payload c.args.row c.args.number c.taken.result (record { house_log = c.self.inside.house_log; places = c.self.inside.places.items; pool = c.self.inside.pool; keeper = c.self.inside.keeper }) (record { house_log = c.note.new.self; places = c.take_out-board.new.places.items; pool = c.self.inside.pool; keeper = c.commit.new.self }) c.self.invariant c.known.ensures (storing c.self.inside.house_log c.args.self.now.house_log c.args.client c.args.ticket c.args.payload c.args.row c.args.number (ap (λ (h : Housed g.row.K.Denot). h.house_log) c.self.view_is) c.requires.may c.requires.whole c.requires.store).may (storing c.self.inside.house_log c.args.self.now.house_log c.args.client c.args.ticket c.args.payload c.args.row c.args.number (ap (λ (h : Housed g.row.K.Denot). h.house_log) c.self.view_is) c.requires.may c.requires.whole c.requires.store).whole (storing c.self.inside.house_log c.args.self.now.house_log c.args.client c.args.ticket c.args.payload c.args.row c.args.number (ap (λ (h : Housed g.row.K.Denot). h.house_log) c.self.view_is) c.requires.may c.requires.whole c.requires.store).store (store-within (signs_of g.K.Keeper.tells g.K.Keeper.doubt g.K.Keeper.faults) c.args.client c.args.ticket c.args.row c.args.number (record { house_log = c.self.inside.house_log; places = c.self.inside.places.items; pool = c.self.inside.pool; keeper = c.self.inside.keeper }) c.self.invariant (storing c.self.inside.house_log c.args.self.now.house_log c.args.client c.args.ticket c.args.payload c.args.row c.args.number (ap (λ (h : Housed g.row.K.Denot). h.house_log) c.self.view_is) c.requires.may c.requires.whole c.requires.store).store) (subst (λ (h : Housed g.row.K.Denot). IfSome (place_at h.places c.args.number).board (λ b. 8 ≤ b.room)) (sym c.self.view_is) c.requires.marks) (subst (λ (x : Event). Appended c.args.client x c.self.inside.house_log c.note.new.self) (sym (made-event c.args.client c.args.row.entry c.args.ticket c.args.payload c.args.row c.whole_note-note.result c.claimed.result c.claimed.ensures c.whole_note-note.ensures refl)) c.note.ensures.appended) refl
      c.take_out-board.ensures.places (c.take_out-board.ensures.board ∙ ap Some (sym c.taken.ensures.board)) c.taken.ensures.entry c.taken.ensures.payload c.taken.ensures.plugin c.taken.ensures.traced);
  fared =
      subst (λ (h : Housed g.row.K.Denot). KeeperFared (signs_of g.K.Keeper.tells g.K.Keeper.doubt g.K.Keeper.faults) h (record { house_log = c.note.new.self; places = c.take_out-board.new.places.items; pool = c.self.inside.pool; keeper = c.commit.new.self })) c.self.view_is
      (faults-took (signs_of g.K.Keeper.tells g.K.Keeper.doubt g.K.Keeper.faults) c.args.client c.args.ticket c.args.payload c.args.row c.claimed.result (record { house_log = c.self.inside.house_log; places = c.self.inside.places.items; pool = c.self.inside.pool; keeper = c.self.inside.keeper }) (record { house_log = c.note.new.self; places = c.take_out-board.new.places.items; pool = c.self.inside.pool; keeper = c.commit.new.self }) (made-event c.args.client c.args.row.entry c.args.ticket c.args.payload c.args.row c.whole_note-note.result c.claimed.result c.claimed.ensures c.whole_note-note.ensures refl) c.note.ensures.appended
      (calm-ok _ _ refl c.in-Ok.ensures.quiet) (told-with g.K.Keeper.tells c.self.inside.keeper c.commit.new.self (Change.Add c.args.row) c.in-Ok.ensures.committed.0));
  counts = subst (λ (h : Housed g.row.K.Denot). g.K.Keeper.faults h.keeper ≤ g.K.Keeper.faults c.commit.new.self) c.self.view_is c.in-Ok.ensures.counts;
}

pub returns-in-Err-Fault : goal.returns-in-Err-Fault
returns-in-Err-Fault g c = record {
  turn = turn-failed c.self.inside.house_log c.args.self.now.house_log c.note-in-Err-Fault.new.self c.args.client c.args.ticket c.args.payload c.args.row c.args.number c.claimed-in-Err-Fault.result (ap (λ (h : Housed g.row.K.Denot). h.house_log) c.self.view_is) (storing c.self.inside.house_log c.args.self.now.house_log c.args.client c.args.ticket c.args.payload c.args.row c.args.number (ap (λ (h : Housed g.row.K.Denot). h.house_log) c.self.view_is) c.requires.may c.requires.whole c.requires.store) (fault-event c.args.client c.args.ticket c.args.payload c.whole_note-note.result c.claimed-in-Err-Fault.result c.claimed-in-Err-Fault.ensures c.whole_note-note.ensures) c.note-in-Err-Fault.ensures.appended;
  gave =
      subst (λ (h : Housed g.row.K.Denot). ClaimGave c.args.client c.args.ticket (Fetched.Whole c.args.payload) (Ok (Claimed.Refused Refusal.KeeperFault)) h (record { house_log = c.note-in-Err-Fault.new.self; places = c.self.inside.places.items; pool = c.give.new.self; keeper = c.commit.new.self })) c.self.view_is
      (c.give.ensures.conserved ∙ ap (λ (n : ℕ). c.self.inside.pool.free + n) c.into_blocks.ensures.count, places-themselves c.self.inside.places.items);
  fared =
      subst (λ (h : Housed g.row.K.Denot). KeeperFared (signs_of g.K.Keeper.tells g.K.Keeper.doubt g.K.Keeper.faults) h (record { house_log = c.note-in-Err-Fault.new.self; places = c.self.inside.places.items; pool = c.give.new.self; keeper = c.commit.new.self })) c.self.view_is
      (faults-failed (signs_of g.K.Keeper.tells g.K.Keeper.doubt g.K.Keeper.faults) c.args.client c.args.ticket c.args.payload c.claimed-in-Err-Fault.result (record { house_log = c.self.inside.house_log; places = c.self.inside.places.items; pool = c.self.inside.pool; keeper = c.self.inside.keeper }) (record { house_log = c.note-in-Err-Fault.new.self; places = c.self.inside.places.items; pool = c.give.new.self; keeper = c.commit.new.self }) (fault-event c.args.client c.args.ticket c.args.payload c.whole_note-note.result c.claimed-in-Err-Fault.result c.claimed-in-Err-Fault.ensures c.whole_note-note.ensures) c.note-in-Err-Fault.ensures.appended (c.in-Err-Fault.ensures.cause (ap Err c.in-Err-Fault.field-0-is))
      (told-left (signs_of g.K.Keeper.tells g.K.Keeper.doubt g.K.Keeper.faults) c.self.inside.keeper c.commit.new.self (Some (Change.Add c.args.row)) (rw c.in-Err-Fault.field-0-is at c.in-Err-Fault.ensures.committed)));
  counts = subst (λ (h : Housed g.row.K.Denot). g.K.Keeper.faults h.keeper ≤ g.K.Keeper.faults c.commit.new.self) c.self.view_is c.in-Err-Fault.ensures.counts;
}

pub returns-in-Err-NoMemory : goal.returns-in-Err-NoMemory
returns-in-Err-NoMemory g c = record {
  turn = turn-left c.self.inside.house_log c.args.self.now.house_log c.args.client c.args.payload.count c.args.ticket (claim_event c.args.client c.args.ticket.request (Fetched.Whole c.args.payload)) (ap (λ (h : Housed g.row.K.Denot). h.house_log) c.self.view_is) c.requires.may;
  gave = (ap (λ (h : Housed g.row.K.Denot). h.pool) c.self.view_is, places-same c.args.self.now.places c.self.inside.places.items (ap (λ (h : Housed g.row.K.Denot). h.places) c.self.view_is), refl, refl);
  fared =
      subst (λ (h : Housed g.row.K.Denot). KeeperFared (signs_of g.K.Keeper.tells g.K.Keeper.doubt g.K.Keeper.faults) h (record { house_log = c.self.inside.house_log; places = c.self.inside.places.items; pool = c.self.inside.pool; keeper = c.commit.new.self })) c.self.view_is
      (fared-quiet (signs_of g.K.Keeper.tells g.K.Keeper.doubt g.K.Keeper.faults) (record { house_log = c.self.inside.house_log; places = c.self.inside.places.items; pool = c.self.inside.pool; keeper = c.self.inside.keeper }) (record { house_log = c.self.inside.house_log; places = c.self.inside.places.items; pool = c.self.inside.pool; keeper = c.commit.new.self }) refl
      (calm-memory _ (ap Err c.in-Err-NoMemory.field-0-is) c.in-Err-NoMemory.ensures.quiet)
      (told-left (signs_of g.K.Keeper.tells g.K.Keeper.doubt g.K.Keeper.faults) c.self.inside.keeper c.commit.new.self None (rw c.in-Err-NoMemory.field-0-is at c.in-Err-NoMemory.ensures.committed)));
  counts = subst (λ (h : Housed g.row.K.Denot). g.K.Keeper.faults h.keeper ≤ g.K.Keeper.faults c.commit.new.self) c.self.view_is c.in-Err-NoMemory.ensures.counts;
}

pub invariant_of-self-in-Err-NoMemory : goal.invariant_of-self-in-Err-NoMemory
invariant_of-self-in-Err-NoMemory g c =
    house-left (signs_of g.K.Keeper.tells g.K.Keeper.doubt g.K.Keeper.faults) c.args.client c.args.ticket c.args.payload c.args.row c.args.number (record { house_log = c.self.inside.house_log; places = c.self.inside.places.items; pool = c.self.inside.pool; keeper = c.self.inside.keeper }) c.commit.new.self c.self.invariant c.known.ensures (storing c.self.inside.house_log c.args.self.now.house_log c.args.client c.args.ticket c.args.payload c.args.row c.args.number (ap (λ (h : Housed g.row.K.Denot). h.house_log) c.self.view_is) c.requires.may c.requires.whole c.requires.store) (rw c.in-Err-NoMemory.field-0-is at c.in-Err-NoMemory.ensures.committed)
