use Rattle.std.proofs.Common.{◌≡◌, ◌<◌, ◌+◌, ℕ, List, [], true, ap, sym, ◌∙◌, subst, arith}
use Rattle.std.specs.Prelude.{Option, unwrap_or}
use Rattle.history_keeper.specs.declared.row.Row.{Row}
use Rattle.history_keeper.specs.declared.row.RowState.{RowState}
use Rattle.history_keeper.specs.Signs.{signs_of}
use Rattle.update_log.specs.declared.event.Event.{Event}
use Rattle.update_log.specs.Known.{board_of}
use Rattle.update_log.specs.Legal.{UnchangedExactly, closing_stored}
use Rattle.update_log.specs.Pasts.{boots}
use Rattle.daemon_core.specs.HouseLog.{Appended, Runs}
use Rattle.daemon_core.specs.House.{IsHouse}
use Rattle.daemon_core.specs.Housed.{basis_in, HouseLogView, Housed, Place, past, past_in}
use Rattle.daemon_core.specs.Returns.{number_of, places_with}
use Rattle.daemon_core.specs.Turns.{KeeperFared}
use Rattle.daemon_core.proofs.HouseLogKept.{appended-past}
use Rattle.daemon_core.proofs.ClaimFinish.{DoneIn, close-suits, closed-unchanged, closing_change, finish-fared, finish-ready, house-finished}
use Rattle.daemon_core.proofs.ClaimHome.{HomePlan, HomeTo, home-plan, back-fits}
use Rattle.daemon_core.proofs.ClaimHouse.{IsReady}
use Rattle.daemon_core.proofs.CommitKept.{house-clear}
use Rattle.daemon_core.proofs.house.House.close.Goals as goal
use Rattle.daemon_core.proofs.house.House.close.Given.{Over}

pub store-stored-requires-clause-no_doubt : goal.store-stored-requires-clause-no_doubt
store-stored-requires-clause-no_doubt g c =
    let same : c.self.inside.house_log ≡ c.args.self.now.house_log = ap (λ (h : Housed g.row.K.Denot). h.house_log) c.self.view_is in
    (house-clear _ (record { house_log = c.self.inside.house_log; places = c.self.inside.places.items; pool = c.self.inside.pool; keeper = c.self.inside.keeper })
    c.self.invariant c.known.ensures
    (subst (λ (a : HouseLogView). a.loaded ≡ true) (sym same) c.requires.loaded)
    (subst Runs (sym same) c.requires.runs).on).doubt_is

pub store-stored-requires-clause-suits : goal.store-stored-requires-clause-suits
store-stored-requires-clause-suits g c =
    let same : c.self.inside.house_log ≡ c.args.self.now.house_log = ap (λ (h : Housed g.row.K.Denot). h.house_log) c.self.view_is in
    let h : Housed g.row.K.Denot = record { house_log = c.self.inside.house_log; places = c.self.inside.places.items; pool = c.self.inside.pool; keeper = c.self.inside.keeper } in
    close-suits _ c.args.client c.args.entry c.requires.comes.0 c.requires.comes.1 [] c.args.board c.args.payload.count h
    (house-clear _ h c.self.invariant c.known.ensures
    (subst (λ (a : HouseLogView). a.loaded ≡ true) (sym same) c.requires.loaded)
    (subst Runs (sym same) c.requires.runs).on)
    c.known.ensures
    (subst (λ (a : HouseLogView). HomeTo a c.args.client c.args.entry c.requires.comes.0 c.requires.comes.1 [] c.args.board c.args.payload.count) (sym same) c.requires.comes.2)

-- what is known before the board is put home
record Plan (g : Over) (c : goal.After-put-arg-1 g) : Type 0 where
  same : c.self.inside.house_log ≡ c.args.self.now.house_log
  comes : HomeTo c.self.inside.house_log c.args.client c.args.entry c.requires.comes.0 c.requires.comes.1 [] c.args.board c.args.payload.count
  home : HomePlan c.self.inside.places.items c.requires.comes.0 c.unwrap_or-number.result
  booted : 0 < boots (past_in c.self.inside.house_log)
  runs : Runs c.self.inside.house_log
  loaded : c.self.inside.house_log.loaded ≡ true
  done : DoneIn c.self.inside.house_log c.args.entry c.unwrap_or-closed.result
  state_is : c.closing_stored-state.result ≡ closing_stored c.unwrap_or-closed.result c.store-stored.result
  unchanged : UnchangedExactly c.unwrap_or-closed.result c.store-stored.result

plan : (g : Over) (c : goal.After-put-arg-1 g) → Plan g c
plan g c =
    let same : c.self.inside.house_log ≡ c.args.self.now.house_log = ap (λ (h : Housed g.row.K.Denot). h.house_log) c.self.view_is in
    let comes : HomeTo c.self.inside.house_log c.args.client c.args.entry c.requires.comes.0 c.requires.comes.1 [] c.args.board c.args.payload.count =
    subst (λ (a : HouseLogView). HomeTo a c.args.client c.args.entry c.requires.comes.0 c.requires.comes.1 [] c.args.board c.args.payload.count) (sym same) c.requires.comes.2 in
    let done : DoneIn c.self.inside.house_log c.args.entry c.requires.done.0 = subst (λ (a : HouseLogView). DoneIn a c.args.entry c.requires.done.0) (sym same) c.requires.done.1 in
    let closed : c.unwrap_or-closed.result ≡ c.requires.done.0 = c.unwrap_or-closed.ensures ∙ ap (λ (o : Option RowState). unwrap_or o RowState.Begun) (c.closing.ensures ∙ done.closing) in
    record {
      same = same;
      comes = comes;
      home = home-plan _ c.args.client c.args.entry c.requires.comes.0 c.unwrap_or-number.result c.requires.comes.1 [] c.args.board c.args.payload.count
          (record { house_log = c.self.inside.house_log; places = c.self.inside.places.items; pool = c.self.inside.pool; keeper = c.self.inside.keeper })
          c.self.invariant c.known.ensures comes (c.unwrap_or-number.ensures ∙ ap (λ (o : Option ℕ). unwrap_or o 0) c.board_of.ensures);
      booted = subst (λ (a : HouseLogView). 0 < boots (past_in a)) (sym same) c.requires.booted;
      runs = subst Runs (sym same) c.requires.runs;
      loaded = subst (λ (a : HouseLogView). a.loaded ≡ true) (sym same) c.requires.loaded;
      done = subst (λ (s : RowState). DoneIn c.self.inside.house_log c.args.entry s) (sym closed) done;
      state_is = c.closing_stored-state.ensures;
      unchanged = closed-unchanged (signs_of g.K.Keeper.tells g.K.Keeper.doubt g.K.Keeper.faults) c.unwrap_or-closed.result (closing_change c.self.inside.house_log c.args.entry c.unwrap_or-closed.result) c.store-stored.result c.self.inside.keeper c.store-stored.new.keeper c.store-stored.ensures.stored;
    }

pub put-requires : goal.put-requires
put-requires g c = (plan g c).home.within

pub give-requires : goal.give-requires
give-requires g c =
    let fits = back-fits _ c.args.client c.args.entry c.requires.comes.0 c.requires.comes.1 [] c.args.board c.args.payload.count
    (record { house_log = c.self.inside.house_log; places = c.self.inside.places.items; pool = c.self.inside.pool; keeper = c.self.inside.keeper })
    c.self.invariant c.known.ensures (plan g c.before.before.before).comes in
    let e = c.into_blocks.ensures.count in omega (arith, fits, e)

ready : (g : Over) (c : goal.After-note-arg-1 g) → IsReady c.self.inside.house_log (Event.Finish c.args.client c.args.entry c.closing_stored-state.result c.store-stored.result)
ready g c =
    let p : Plan g c.before.before.before.before.before = plan g c.before.before.before.before.before in
    subst (λ (s : RowState). IsReady c.self.inside.house_log (Event.Finish c.args.client c.args.entry s c.store-stored.result)) (sym p.state_is)
    (finish-ready c.self.inside.house_log c.args.client c.args.entry c.requires.comes.0 c.requires.comes.1 [] c.args.board c.args.payload.count c.unwrap_or-closed.result c.store-stored.result c.known.ensures p.runs p.booted p.comes p.done p.unchanged)

pub note-requires-clause-takes : goal.note-requires-clause-takes
note-requires-clause-takes g c = (ready g c).takes

pub note-requires-clause-allowed : goal.note-requires-clause-allowed
note-requires-clause-allowed g c = (ready g c).allowed

pub note-requires-clause-room : goal.note-requires-clause-room
note-requires-clause-room g c = (ready g c).room

pub note-requires-clause-row : goal.note-requires-clause-row
note-requires-clause-row g c = (ready g c).row

pub invariant_of-self : goal.invariant_of-self
invariant_of-self g c =
    let p : Plan g c.before.before.before.before.before.before = plan g c.before.before.before.before.before.before in
    let house = house-finished _ c.args.client c.args.entry c.requires.comes.0 c.requires.comes.1 [] c.args.board c.args.payload.count c.unwrap_or-closed.result c.store-stored.result
    (record { house_log = c.self.inside.house_log; places = c.self.inside.places.items; pool = c.self.inside.pool; keeper = c.self.inside.keeper })
    c.note.new.self c.give.new.self c.store-stored.new.keeper c.self.invariant c.known.ensures c.note.ensures.known
    (subst (λ (s : RowState). Appended c.args.client (Event.Finish c.args.client c.args.entry s c.store-stored.result) c.self.inside.house_log c.note.new.self) p.state_is c.note.ensures.appended)
    p.loaded p.runs.on p.comes c.store-stored.ensures.stored c.give.ensures.capacity
    (c.give.ensures.conserved ∙ ap (λ (n : ℕ). c.self.inside.pool.free + n) c.into_blocks.ensures.count) in
    let e : c.put.new.places.items ≡ places_with c.self.inside.places.items c.requires.comes.0 c.args.board =
    c.put.ensures ∙ ap (λ (n : ℕ). places_with c.self.inside.places.items n c.args.board) p.home.number_is in
    subst (λ (ps : List Place). IsHouse (signs_of g.K.Keeper.tells g.K.Keeper.doubt g.K.Keeper.faults) (record { house_log = c.note.new.self; places = ps; pool = c.give.new.self; keeper = c.store-stored.new.keeper })) (sym e) house

pub returns-clause-places : goal.returns-clause-places
returns-clause-places g c =
    let n : c.unwrap_or-number.result ≡ number_of (basis_in c.self.inside.house_log) (past_in c.self.inside.house_log) c.args.entry =
    c.unwrap_or-number.ensures ∙ ap (λ (o : Option ℕ). unwrap_or o 0) (c.board_of.ensures ∙ ap (λ (rs : List Row). board_of c.self.inside.house_log.facts rs c.args.entry) c.known.ensures.stands.rows) in
    c.put.ensures
    ∙ ap (λ (m : ℕ). places_with c.self.inside.places.items m c.args.board) n
    ∙ ap (λ (h : Housed g.row.K.Denot). places_with h.places (number_of (basis_in h.house_log) (past h) c.args.entry) c.args.board) c.self.view_is

pub returns-clause-fared : goal.returns-clause-fared
returns-clause-fared g c =
    let q = appended-past c.args.client (Event.Finish c.args.client c.args.entry c.closing_stored-state.result c.store-stored.result) c.self.inside.house_log c.note.new.self c.note.ensures.appended in
    let new : Housed g.row.K.Denot = record { house_log = c.note.new.self; places = c.put.new.places.items; pool = c.give.new.self; keeper = c.store-stored.new.keeper } in
    subst (λ (h : Housed g.row.K.Denot). KeeperFared (signs_of g.K.Keeper.tells g.K.Keeper.doubt g.K.Keeper.faults) h new) c.self.view_is
    (finish-fared (signs_of g.K.Keeper.tells g.K.Keeper.doubt g.K.Keeper.faults) c.args.client c.args.entry c.unwrap_or-closed.result c.closing_stored-state.result _ c.store-stored.result (record { house_log = c.self.inside.house_log; places = c.self.inside.places.items; pool = c.self.inside.pool; keeper = c.self.inside.keeper }) new q
    c.store-stored.ensures.stored c.store-stored.ensures.cause c.store-stored.ensures.quiet)
