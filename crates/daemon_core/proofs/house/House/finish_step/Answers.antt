use Rattle.std.proofs.Common.{◌≡◌, ◌<◌, ◌≤◌, List, length, map, drop, true, ap, sym, ◌∙◌, subst}
use Rattle.std.specs.Prelude.{Option, slice_set, unwrap_or}
use Rattle.emulated_boards.specs.Boards.{BoardState}
use Rattle.emulated_boards.specs.declared.mark.Mark.{Mark}
use Rattle.history_keeper.specs.Signs.{signs_of}
use Rattle.update_log.specs.declared.event.Event.{Event}
use Rattle.update_log.specs.Pasts.{boots}
use Rattle.daemon_core.specs.HouseLog.{Appended, Runs}
use Rattle.daemon_core.specs.House.{IsHouse}
use Rattle.daemon_core.specs.Housed.{HouseLogView, Housed, Place, past_in}
use Rattle.daemon_core.specs.Returns.{place_at}
use Rattle.daemon_core.proofs.ClaimEnds.{EndPlan, EndsIn, boards-told, end-event_is, end-plan, end-ready, end_event, house-ended}
use Rattle.daemon_core.proofs.ClaimHouse.{IsReady}
use Rattle.daemon_core.proofs.house.House.finish_step.Goals as goal
use Rattle.daemon_core.proofs.house.House.finish_step.Given.{Over}

-- before the marks are told
plan : (g : Over) (c : goal.After-marks g) → EndPlan c.self.inside.house_log c.self.inside.places.items c.args.entry c.requires.ends.0 c.unwrap_or-number.result c.args.board.now
plan g c =
    let same : c.self.inside.house_log ≡ c.args.self.now.house_log = ap (λ (h : Housed g.row.K.Denot). h.house_log) c.self.view_is in
    end-plan _ c.args.client c.args.entry c.args.op c.args.outcome c.requires.ends.0 c.unwrap_or-number.result c.args.board.now
    (record { house_log = c.self.inside.house_log; places = c.self.inside.places.items; pool = c.self.inside.pool; keeper = c.self.inside.keeper })
    c.self.invariant c.known.ensures
    (subst (λ (a : HouseLogView). EndsIn a c.args.client c.args.entry c.args.op c.args.outcome c.requires.ends.0 c.args.board.now) (sym same) c.requires.ends.1)
    (c.unwrap_or-number.ensures ∙ ap (λ o. unwrap_or o 0) c.board_of.ensures)

pub tell-told-requires-clause-within : goal.tell-told-requires-clause-within
tell-told-requires-clause-within g c = (plan g c).within

pub tell-told-requires-clause-behind : goal.tell-told-requires-clause-behind
tell-told-requires-clause-behind g c = subst (λ (ms : List Mark). (place_at c.self.inside.places.items c.unwrap_or-number.result).told ≤ length ms) (sym c.marks.ensures) (plan g c).behind

pub tell-told-requires-clause-few : goal.tell-told-requires-clause-few
tell-told-requires-clause-few g c = subst (λ (ms : List Mark). length (drop (place_at c.self.inside.places.items c.unwrap_or-number.result).told ms) ≤ 2) (sym c.marks.ensures) (plan g c).few

-- what is put behind the log
record Told (g : Over) (c : goal.After-note-arg-1 g) : Type 0 where
  same : c.self.inside.house_log ≡ c.args.self.now.house_log
  ends : EndsIn c.self.inside.house_log c.args.client c.args.entry c.args.op c.args.outcome c.requires.ends.0 c.args.board.now
  event : Event.End c.args.client c.args.entry c.args.op c.args.outcome c.tell-told.result c.view-seen.result ≡ end_event c.self.inside.house_log c.args.client c.args.entry c.args.op c.args.outcome c.args.board.now
  ready : IsReady c.self.inside.house_log (Event.End c.args.client c.args.entry c.args.op c.args.outcome c.tell-told.result c.view-seen.result)
  loaded : c.self.inside.house_log.loaded ≡ true
  runs : Runs c.self.inside.house_log
  places : c.tell-told.new.places.items ≡ slice_set c.self.inside.places.items c.requires.ends.0 (record (place_at c.self.inside.places.items c.requires.ends.0) { told = length c.args.board.now.journal })

told : (g : Over) (c : goal.After-note-arg-1 g) → Told g c
told g c =
    let same : c.self.inside.house_log ≡ c.args.self.now.house_log = ap (λ (h : Housed g.row.K.Denot). h.house_log) c.self.view_is in
    let ends : EndsIn c.self.inside.house_log c.args.client c.args.entry c.args.op c.args.outcome c.requires.ends.0 c.args.board.now =
    subst (λ (a : HouseLogView). EndsIn a c.args.client c.args.entry c.args.op c.args.outcome c.requires.ends.0 c.args.board.now) (sym same) c.requires.ends.1 in
    let p : EndPlan c.self.inside.house_log c.self.inside.places.items c.args.entry c.requires.ends.0 c.unwrap_or-number.result c.args.board.now =
    end-plan _ c.args.client c.args.entry c.args.op c.args.outcome c.requires.ends.0 c.unwrap_or-number.result c.args.board.now
    (record { house_log = c.self.inside.house_log; places = c.self.inside.places.items; pool = c.self.inside.pool; keeper = c.self.inside.keeper })
    c.self.invariant c.known.ensures ends (c.unwrap_or-number.ensures ∙ ap (λ o. unwrap_or o 0) c.board_of.ensures) in
    let event : Event.End c.args.client c.args.entry c.args.op c.args.outcome c.tell-told.result c.view-seen.result ≡ end_event c.self.inside.house_log c.args.client c.args.entry c.args.op c.args.outcome c.args.board.now =
    end-event_is c.self.inside.house_log c.args.client c.args.entry c.args.op c.args.outcome c.args.board.now c.tell-told.result c.view-seen.result
    (c.tell-told.ensures.told ∙ ap (λ (ms : List Mark). drop (place_at c.self.inside.places.items c.unwrap_or-number.result).told ms) c.marks.ensures ∙ p.marks_are)
    c.view-seen.ensures.shown in
    let runs : Runs c.self.inside.house_log = subst Runs (sym same) c.requires.runs in
    record {
      same = same;
      ends = ends;
      event = event;
      ready = subst (IsReady c.self.inside.house_log) (sym event)
          (end-ready c.self.inside.house_log c.args.client c.args.entry c.args.op c.args.outcome c.requires.ends.0 c.args.board.now c.known.ensures runs
          (subst (λ (a : HouseLogView). 0 < boots (past_in a)) (sym same) c.requires.booted) ends);
      loaded = subst (λ (a : HouseLogView). a.loaded ≡ true) (sym same) c.requires.loaded;
      runs = runs;
      places =
          c.tell-told.ensures.places
          ∙ ap (λ (ms : List Mark). slice_set c.self.inside.places.items c.unwrap_or-number.result (record (place_at c.self.inside.places.items c.unwrap_or-number.result) { told = length ms })) c.marks.ensures
          ∙ ap (λ n. slice_set c.self.inside.places.items n (record (place_at c.self.inside.places.items n) { told = length c.args.board.now.journal })) p.number_is;
    }

pub note-requires-clause-takes : goal.note-requires-clause-takes
note-requires-clause-takes g c = (told g c).ready.takes

pub note-requires-clause-allowed : goal.note-requires-clause-allowed
note-requires-clause-allowed g c = (told g c).ready.allowed

pub note-requires-clause-room : goal.note-requires-clause-room
note-requires-clause-room g c = (told g c).ready.room

pub note-requires-clause-row : goal.note-requires-clause-row
note-requires-clause-row g c = (told g c).ready.row

pub invariant_of-self : goal.invariant_of-self
invariant_of-self g c =
    let t : Told g c.before = told g c.before in
    let house = house-ended _ c.args.client c.args.entry c.args.op c.args.outcome c.requires.ends.0 c.args.board.now
    (record { house_log = c.self.inside.house_log; places = c.self.inside.places.items; pool = c.self.inside.pool; keeper = c.self.inside.keeper })
    c.note.new.self c.self.invariant c.known.ensures c.note.ensures.known
    (subst (λ (e : Event). Appended c.args.client e c.self.inside.house_log c.note.new.self) t.event c.note.ensures.appended)
    t.loaded t.runs t.ends in
    subst (λ (ps : List Place). IsHouse (signs_of g.K.Keeper.tells g.K.Keeper.doubt g.K.Keeper.faults) (record { house_log = c.note.new.self; places = ps; pool = c.self.inside.pool; keeper = c.self.inside.keeper })) (sym t.places) house

pub returns-clause-appended : goal.returns-clause-appended
returns-clause-appended g c =
    let t : Told g c.before = told g c.before in
    subst (λ (a : HouseLogView). Appended c.args.client (end_event a c.args.client c.args.entry c.args.op c.args.outcome c.args.board.now) a c.note.new.self) t.same
    (subst (λ (e : Event). Appended c.args.client e c.self.inside.house_log c.note.new.self) t.event c.note.ensures.appended)

pub returns-clause-places : goal.returns-clause-places
returns-clause-places g c =
    let boards : List Place → List (Option BoardState) = λ ps. map (λ (p : Place). p.board) ps in
    ap boards (told g c.before).places
    ∙ boards-told c.self.inside.places.items c.requires.ends.0 (length c.args.board.now.journal)
    ∙ ap (λ (h : Housed g.row.K.Denot). boards h.places) c.self.view_is
