use Rattle.std.proofs.Common.{◌≤◌, ap, sym, subst, refl}
use Rattle.std.specs.Prelude.{Ok}
use Rattle.history_keeper.specs.Signs.{signs_of}
use Rattle.update_log.specs.Pasts.{is_boot, is_fault}
use Rattle.update_log.specs.declared.answer.ResumeAnswer.{ResumeAnswer}
use Rattle.update_log.specs.declared.event.Event.{Event}
use Rattle.daemon_core.specs.declared.claimed.Claimed.{Claimed}
use Rattle.daemon_core.specs.HouseLog.{IsMadeBy}
use Rattle.daemon_core.specs.Housed.{Housed}
use Rattle.daemon_core.specs.Resumes.{ResumeGave, note_in}
use Rattle.daemon_core.specs.Turns.{KeeperFared}
use Rattle.daemon_core.proofs.ClaimRoom.{places-same, places-themselves}
use Rattle.daemon_core.proofs.CommitKept.{stored-before}
use Rattle.daemon_core.proofs.JudgeKept.{done-stored}
use Rattle.daemon_core.proofs.ResumeExits.{fail-clear, fail-fits, fail-ready, fail-suits, failing, faults-resumed, house-failed, house-left, left-as, other-met, turn-failed, turn-left}
use Rattle.daemon_core.proofs.house.House.fail.Goals as goal
use Rattle.daemon_core.proofs.Fared.{calm-stored, fared-quiet}

pub commit-stored-requires-clause-no_doubt : goal.commit-stored-requires-clause-no_doubt
commit-stored-requires-clause-no_doubt g c =
    fail-clear (signs_of g.K.Keeper.tells g.K.Keeper.doubt g.K.Keeper.faults) c.args.entry (record { house_log = c.self.inside.house_log; places = c.self.inside.places.items; pool = c.self.inside.pool; keeper = c.self.inside.keeper }) c.self.invariant c.known.ensures (failing c.self.inside.house_log c.args.self.now.house_log c.args.entry c.args.held c.args.refusal (ap (λ (h : Housed g.row.K.Denot). h.house_log) c.self.view_is) c.requires.may c.requires.fails).may

pub commit-stored-requires-clause-suits : goal.commit-stored-requires-clause-suits
commit-stored-requires-clause-suits g c =
    fail-suits (signs_of g.K.Keeper.tells g.K.Keeper.doubt g.K.Keeper.faults) c.args.entry (ResumeAnswer.Refused c.args.refusal) c.resumption-change.result (record { house_log = c.self.inside.house_log; places = c.self.inside.places.items; pool = c.self.inside.pool; keeper = c.self.inside.keeper }) c.self.invariant c.known.ensures (failing c.self.inside.house_log c.args.self.now.house_log c.args.entry c.args.held c.args.refusal (ap (λ (h : Housed g.row.K.Denot). h.house_log) c.self.view_is) c.requires.may c.requires.fails).may c.resumption-change.ensures.is

pub note-requires : goal.note-requires
note-requires g c =
    let ready = fail-ready c.self.inside.house_log c.args.entry c.args.held c.note_in-note.result c.args.refusal c.commit-stored.result c.failed.result c.known.ensures (failing c.self.inside.house_log c.args.self.now.house_log c.args.entry c.args.held c.args.refusal (ap (λ (h : Housed g.row.K.Denot). h.house_log) c.self.view_is) c.requires.may c.requires.fails) (done-stored c.resumption-change.result c.commit-stored.result _ _ _ c.commit-stored.ensures.stored c.in_default.not-NoMemory) c.note_in-note.ensures c.failed.ensures in
    record {
      no_boot = ap is_boot c.failed.ensures;
      loaded = (failing c.self.inside.house_log c.args.self.now.house_log c.args.entry c.args.held c.args.refusal (ap (λ (h : Housed g.row.K.Denot). h.house_log) c.self.view_is) c.requires.may c.requires.fails).may.loaded;
      takes = ready.takes;
      allowed = ready.allowed;
      made = subst (λ (x : Event). IsMadeBy x 0) (sym c.failed.ensures) refl;
      room = ready.room;
      row = ready.row;
    }

pub give_in-requires : goal.give_in-requires
give_in-requires g c =
    fail-fits (signs_of g.K.Keeper.tells g.K.Keeper.doubt g.K.Keeper.faults) c.args.entry c.args.held c.args.refusal (record { house_log = c.self.inside.house_log; places = c.self.inside.places.items; pool = c.self.inside.pool; keeper = c.self.inside.keeper }) c.self.invariant c.known.ensures (failing c.self.inside.house_log c.args.self.now.house_log c.args.entry c.args.held c.args.refusal (ap (λ (h : Housed g.row.K.Denot). h.house_log) c.self.view_is) c.requires.may c.requires.fails)

pub invariant_of-self : goal.invariant_of-self
invariant_of-self g c =
    house-left (signs_of g.K.Keeper.tells g.K.Keeper.doubt g.K.Keeper.faults) c.args.entry (record { house_log = c.self.inside.house_log; places = c.self.inside.places.items; pool = c.self.inside.pool; keeper = c.self.inside.keeper }) c.commit-stored.new.keeper c.self.invariant c.known.ensures (failing c.self.inside.house_log c.args.self.now.house_log c.args.entry c.args.held c.args.refusal (ap (λ (h : Housed g.row.K.Denot). h.house_log) c.self.view_is) c.requires.may c.requires.fails).may (left-as c.resumption-change.result c.commit-stored.result _ _ _ c.in-NoMemory.is c.commit-stored.ensures.stored)

pub invariant_of-self-2 : goal.invariant_of-self-2
invariant_of-self-2 g c =
    house-failed (signs_of g.K.Keeper.tells g.K.Keeper.doubt g.K.Keeper.faults) c.args.entry c.args.held c.note_in-note.result c.args.refusal c.commit-stored.result c.resumption-change.result c.failed.result (record { house_log = c.self.inside.house_log; places = c.self.inside.places.items; pool = c.self.inside.pool; keeper = c.self.inside.keeper }) c.note.new.self c.give_in.new.pool c.commit-stored.new.keeper c.self.invariant c.known.ensures c.note.ensures.known (failing c.self.inside.house_log c.args.self.now.house_log c.args.entry c.args.held c.args.refusal (ap (λ (h : Housed g.row.K.Denot). h.house_log) c.self.view_is) c.requires.may c.requires.fails)
    c.note_in-note.ensures c.failed.ensures c.note.ensures.appended c.resumption-change.ensures.is c.commit-stored.ensures.stored c.give_in.ensures.capacity c.give_in.ensures.free

pub returns : goal.returns
returns g c = record {
  turn = turn-failed c.self.inside.house_log c.args.self.now.house_log c.note.new.self c.args.entry c.args.held c.note_in-note.result c.args.refusal c.commit-stored.result c.failed.result (ap (λ (h : Housed g.row.K.Denot). h.house_log) c.self.view_is) (failing c.self.inside.house_log c.args.self.now.house_log c.args.entry c.args.held c.args.refusal (ap (λ (h : Housed g.row.K.Denot). h.house_log) c.self.view_is) c.requires.may c.requires.fails) (done-stored c.resumption-change.result c.commit-stored.result _ _ _ c.commit-stored.ensures.stored c.in_default.not-NoMemory) c.note_in-note.ensures c.failed.ensures c.note.ensures.appended;
  gave =
      subst (λ (h : Housed g.row.K.Denot). ResumeGave c.args.entry c.args.held (Ok (Claimed.Refused c.args.refusal)) h (record { house_log = c.note.new.self; places = c.self.inside.places.items; pool = c.give_in.new.pool; keeper = c.commit-stored.new.keeper })) c.self.view_is
      (c.give_in.ensures.free, places-themselves c.self.inside.places.items);
  fared =
      subst (λ (h : Housed g.row.K.Denot). KeeperFared (signs_of g.K.Keeper.tells g.K.Keeper.doubt g.K.Keeper.faults) h (record { house_log = c.note.new.self; places = c.self.inside.places.items; pool = c.give_in.new.pool; keeper = c.commit-stored.new.keeper })) c.self.view_is
      (faults-resumed (signs_of g.K.Keeper.tells g.K.Keeper.doubt g.K.Keeper.faults) c.args.entry c.note_in-note.result (ResumeAnswer.Refused c.args.refusal) c.commit-stored.result c.failed.result (record { house_log = c.self.inside.house_log; places = c.self.inside.places.items; pool = c.self.inside.pool; keeper = c.self.inside.keeper }) (record { house_log = c.note.new.self; places = c.self.inside.places.items; pool = c.give_in.new.pool; keeper = c.commit-stored.new.keeper }) c.failed.ensures (other-met c.args.refusal c.commit-stored.result c.requires.fails.other) c.note.ensures.appended c.commit-stored.ensures.cause c.commit-stored.ensures.quiet
      (stored-before g.K.Keeper.tells c.self.inside.keeper c.commit-stored.new.keeper c.resumption-change.result c.commit-stored.result _ c.commit-stored.ensures.stored));
  counts = subst (λ (h : Housed g.row.K.Denot). g.K.Keeper.faults h.keeper ≤ g.K.Keeper.faults c.commit-stored.new.keeper) c.self.view_is c.commit-stored.ensures.counts;
}

pub returns-in-NoMemory : goal.returns-in-NoMemory
returns-in-NoMemory g c = record {
  turn = turn-left c.self.inside.house_log c.args.self.now.house_log c.args.entry (note_in c.args.held) c.args.held (ap (λ (h : Housed g.row.K.Denot). h.house_log) c.self.view_is) c.requires.may;
  gave = (ap (λ (h : Housed g.row.K.Denot). h.pool) c.self.view_is, places-same c.args.self.now.places c.self.inside.places.items (ap (λ (h : Housed g.row.K.Denot). h.places) c.self.view_is), refl);
  fared =
      subst (λ (h : Housed g.row.K.Denot). KeeperFared (signs_of g.K.Keeper.tells g.K.Keeper.doubt g.K.Keeper.faults) h (record { house_log = c.self.inside.house_log; places = c.self.inside.places.items; pool = c.self.inside.pool; keeper = c.commit-stored.new.keeper })) c.self.view_is
      (fared-quiet (signs_of g.K.Keeper.tells g.K.Keeper.doubt g.K.Keeper.faults) (record { house_log = c.self.inside.house_log; places = c.self.inside.places.items; pool = c.self.inside.pool; keeper = c.self.inside.keeper }) (record { house_log = c.self.inside.house_log; places = c.self.inside.places.items; pool = c.self.inside.pool; keeper = c.commit-stored.new.keeper }) refl
      (calm-stored c.commit-stored.result (ap is_fault c.in-NoMemory.is) c.commit-stored.ensures.quiet)
      (stored-before g.K.Keeper.tells c.self.inside.keeper c.commit-stored.new.keeper c.resumption-change.result c.commit-stored.result _ c.commit-stored.ensures.stored));
  counts = subst (λ (h : Housed g.row.K.Denot). g.K.Keeper.faults h.keeper ≤ g.K.Keeper.faults c.commit-stored.new.keeper) c.self.view_is c.commit-stored.ensures.counts;
}
