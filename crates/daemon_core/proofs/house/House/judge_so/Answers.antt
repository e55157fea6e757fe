use Rattle.std.proofs.Common.{ap, refl, subst, ◌∙◌}
use Rattle.history_keeper.specs.Signs.{signs_of}
use Rattle.core_state.specs.Core.{Core}
use Rattle.core_state.specs.CoreSteps.{advance_on}
use Rattle.update_log.specs.Pasts.{is_fault, past_of, time_of}
use Rattle.update_log.specs.declared.event.Event.{Event}
use Rattle.daemon_core.specs.Housed.{Housed}
use Rattle.daemon_core.specs.Turns.{KeeperFared}
use Rattle.daemon_core.proofs.HouseLogKept.{appended-past}
use Rattle.daemon_core.proofs.Fared.{calm-stored, fared-quiet}
use Rattle.daemon_core.proofs.ClaimHouse.{IsReady}
use Rattle.daemon_core.proofs.CommitKept.{house-unstored, stored-before}
use Rattle.daemon_core.proofs.JudgeKept.{clear-over, done-stored, house-judged, judge-fared, ready-over, suits-over}
use Rattle.daemon_core.proofs.house.House.judge_so.Goals as goal
use Rattle.daemon_core.proofs.house.House.judge_so.Given.{Over}

pub commit-stored-requires-clause-no_doubt : goal.commit-stored-requires-clause-no_doubt
commit-stored-requires-clause-no_doubt g c =
    (clear-over _ (record { house_log = c.self.inside.house_log; places = c.self.inside.places.items; pool = c.self.inside.pool; keeper = c.self.inside.keeper })
    c.args.self.now.house_log (ap (λ (h : Housed g.row.K.Denot). h.house_log) c.self.view_is) c.self.invariant c.known.ensures c.requires.loaded c.requires.runs).doubt_is

pub commit-stored-requires-clause-suits : goal.commit-stored-requires-clause-suits
commit-stored-requires-clause-suits g c =
    suits-over (g.K.Keeper.tells c.self.inside.keeper) c.self.inside.house_log c.args.self.now.house_log c.args.entry c.args.version c.args.state c.advance-change.result
    (ap (λ (h : Housed g.row.K.Denot). h.house_log) c.self.view_is)
    (clear-over _ (record { house_log = c.self.inside.house_log; places = c.self.inside.places.items; pool = c.self.inside.pool; keeper = c.self.inside.keeper })
    c.args.self.now.house_log (ap (λ (h : Housed g.row.K.Denot). h.house_log) c.self.view_is) c.self.invariant c.known.ensures c.requires.loaded c.requires.runs).rows_are
    c.requires.stands
    (c.advance-change.ensures ∙ ap (λ (k : Core). advance_on (time_of (past_of k.log)) k.rows c.args.entry c.args.state) c.core.ensures)

ready : (g : Over) (c : goal.After-note-arg-1 g) → IsReady c.self.inside.house_log (Event.Judge c.args.client c.args.entry c.args.version c.args.state c.commit-stored.result)
ready g c =
    ready-over c.self.inside.house_log c.args.self.now.house_log c.args.client c.args.entry c.args.version c.args.state c.commit-stored.result
    (ap (λ (h : Housed g.row.K.Denot). h.house_log) c.self.view_is) c.known.ensures c.requires.runs c.requires.booted c.requires.room c.requires.stands
    (done-stored c.advance-change.result c.commit-stored.result _ _ _ c.commit-stored.ensures.stored c.in_default.not-NoMemory)

pub note-requires-clause-takes : goal.note-requires-clause-takes
note-requires-clause-takes g c = (ready g c).takes

pub note-requires-clause-allowed : goal.note-requires-clause-allowed
note-requires-clause-allowed g c = (ready g c).allowed

pub note-requires-clause-room : goal.note-requires-clause-room
note-requires-clause-room g c = (ready g c).room

pub note-requires-clause-row : goal.note-requires-clause-row
note-requires-clause-row g c = (ready g c).row

pub invariant_of-self : goal.invariant_of-self
invariant_of-self g c =
    house-unstored _ (record { house_log = c.self.inside.house_log; places = c.self.inside.places.items; pool = c.self.inside.pool; keeper = c.self.inside.keeper })
    c.args.self.now.house_log c.commit-stored.new.keeper (ap (λ (h : Housed g.row.K.Denot). h.house_log) c.self.view_is) c.self.invariant c.known.ensures c.requires.loaded c.requires.runs.on c.in-NoMemory.ensures.stored

pub invariant_of-self-2 : goal.invariant_of-self-2
invariant_of-self-2 g c =
    house-judged _ c.args.client c.args.entry c.args.version c.args.state c.commit-stored.result c.advance-change.result
    (record { house_log = c.self.inside.house_log; places = c.self.inside.places.items; pool = c.self.inside.pool; keeper = c.self.inside.keeper })
    c.args.self.now.house_log c.note.new.self c.commit-stored.new.keeper
    (ap (λ (h : Housed g.row.K.Denot). h.house_log) c.self.view_is) c.self.invariant c.known.ensures c.note.ensures.known c.note.ensures.appended
    c.requires.loaded c.requires.runs
    (c.advance-change.ensures ∙ ap (λ (k : Core). advance_on (time_of (past_of k.log)) k.rows c.args.entry c.args.state) c.core.ensures) c.commit-stored.ensures.stored

pub returns-clause-fared : goal.returns-clause-fared
returns-clause-fared g c =
    subst (λ (h : Housed g.row.K.Denot). KeeperFared (signs_of g.K.Keeper.tells g.K.Keeper.doubt g.K.Keeper.faults) h (record { house_log = c.note.new.self; places = c.self.inside.places.items; pool = c.self.inside.pool; keeper = c.commit-stored.new.keeper })) c.self.view_is
    (judge-fared (signs_of g.K.Keeper.tells g.K.Keeper.doubt g.K.Keeper.faults) c.args.client c.args.entry c.args.version c.args.state c.advance-change.result c.commit-stored.result _ (record { house_log = c.self.inside.house_log; places = c.self.inside.places.items; pool = c.self.inside.pool; keeper = c.self.inside.keeper }) (record { house_log = c.note.new.self; places = c.self.inside.places.items; pool = c.self.inside.pool; keeper = c.commit-stored.new.keeper })
    (appended-past c.args.client (Event.Judge c.args.client c.args.entry c.args.version c.args.state c.commit-stored.result) c.self.inside.house_log c.note.new.self c.note.ensures.appended)
    c.commit-stored.ensures.stored c.commit-stored.ensures.cause c.commit-stored.ensures.quiet)

pub returns-in-NoMemory-clause-fared : goal.returns-in-NoMemory-clause-fared
returns-in-NoMemory-clause-fared g c =
    subst (λ (h : Housed g.row.K.Denot). KeeperFared (signs_of g.K.Keeper.tells g.K.Keeper.doubt g.K.Keeper.faults) h (record { house_log = c.self.inside.house_log; places = c.self.inside.places.items; pool = c.self.inside.pool; keeper = c.commit-stored.new.keeper })) c.self.view_is
    (fared-quiet (signs_of g.K.Keeper.tells g.K.Keeper.doubt g.K.Keeper.faults) (record { house_log = c.self.inside.house_log; places = c.self.inside.places.items; pool = c.self.inside.pool; keeper = c.self.inside.keeper }) (record { house_log = c.self.inside.house_log; places = c.self.inside.places.items; pool = c.self.inside.pool; keeper = c.commit-stored.new.keeper }) refl
    (calm-stored c.commit-stored.result (ap is_fault c.in-NoMemory.is) c.commit-stored.ensures.quiet)
    (stored-before g.K.Keeper.tells c.self.inside.keeper c.commit-stored.new.keeper c.advance-change.result c.commit-stored.result _ c.commit-stored.ensures.stored))
