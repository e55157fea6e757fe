use Rattle.std.proofs.Common.{◌≡◌, ◌<◌, ◌+◌, ℕ, List, true, ap, sym, ◌∙◌, subst, arith}
use Rattle.std.specs.Prelude.{Option, unwrap_or}
use Rattle.history_keeper.specs.declared.row.Row.{Row}
use Rattle.history_keeper.specs.Signs.{signs_of}
use Rattle.update_log.specs.Known.{board_of}
use Rattle.update_log.specs.Pasts.{boots, off}
use Rattle.daemon_core.specs.House.{IsHouse}
use Rattle.daemon_core.specs.Housed.{basis_in, HouseLogView, Housed, Place, past, past_in}
use Rattle.daemon_core.specs.Returns.{number_of, places_with}
use Rattle.daemon_core.proofs.ClaimHome.{HomePlan, HomeTo, back-fits, back-ready, back_event, home-plan, house-back, loaded-live}
use Rattle.daemon_core.proofs.ClaimHouse.{IsReady}
use Rattle.daemon_core.proofs.house.House.give_back.Goals as goal
use Rattle.daemon_core.proofs.house.House.give_back.Given.{Over}

-- the board's number
record Plan (g : Over) (c : goal.After-put-arg-1 g) : Type 0 where
  same : c.self.inside.house_log ≡ c.args.self.now.house_log
  comes : HomeTo c.self.inside.house_log c.args.client c.args.entry c.requires.comes.0 c.requires.comes.1 c.requires.comes.2 c.args.board c.args.payload.count
  home : HomePlan c.self.inside.places.items c.requires.comes.0 c.unwrap_or-number.result
  booted : 0 < boots (past_in c.self.inside.house_log)
  is_off : off (past_in c.self.inside.house_log) ≡ true
  loaded : c.self.inside.house_log.loaded ≡ true

plan : (g : Over) (c : goal.After-put-arg-1 g) → Plan g c
plan g c =
    let same : c.self.inside.house_log ≡ c.args.self.now.house_log = ap (λ (h : Housed g.row.K.Denot). h.house_log) c.self.view_is in
    let comes : HomeTo c.self.inside.house_log c.args.client c.args.entry c.requires.comes.0 c.requires.comes.1 c.requires.comes.2 c.args.board c.args.payload.count =
    subst (λ (a : HouseLogView). HomeTo a c.args.client c.args.entry c.requires.comes.0 c.requires.comes.1 c.requires.comes.2 c.args.board c.args.payload.count) (sym same) c.requires.comes.3 in
    record {
      same = same;
      comes = comes;
      home = home-plan _ c.args.client c.args.entry c.requires.comes.0 c.unwrap_or-number.result c.requires.comes.1 c.requires.comes.2 c.args.board c.args.payload.count
          (record { house_log = c.self.inside.house_log; places = c.self.inside.places.items; pool = c.self.inside.pool; keeper = c.self.inside.keeper })
          c.self.invariant c.known.ensures comes (c.unwrap_or-number.ensures ∙ ap (λ (o : Option ℕ). unwrap_or o 0) c.board_of.ensures);
      booted = subst (λ (a : HouseLogView). 0 < boots (past_in a)) (sym same) c.requires.booted;
      is_off = subst (λ (a : HouseLogView). off (past_in a) ≡ true) (sym same) c.requires.off;
      loaded = loaded-live c.self.inside.house_log.loaded (past_in c.self.inside.house_log) c.args.entry c.requires.comes.1 c.known.ensures.unloaded comes.live;
    }

pub put-requires : goal.put-requires
put-requires g c = (plan g c).home.within

pub give-requires : goal.give-requires
give-requires g c =
    let fits = back-fits _ c.args.client c.args.entry c.requires.comes.0 c.requires.comes.1 c.requires.comes.2 c.args.board c.args.payload.count
    (record { house_log = c.self.inside.house_log; places = c.self.inside.places.items; pool = c.self.inside.pool; keeper = c.self.inside.keeper })
    c.self.invariant c.known.ensures (plan g c.before.before.before).comes in
    let e = c.into_blocks.ensures.count in omega (arith, fits, e)

ready : (g : Over) (c : goal.After-note-arg-1 g) → IsReady c.self.inside.house_log (back_event c.args.client c.args.entry)
ready g c =
    let p : Plan g c.before.before.before.before.before = plan g c.before.before.before.before.before in
    back-ready c.self.inside.house_log c.args.client c.args.entry c.requires.comes.0 c.requires.comes.1 c.requires.comes.2 c.args.board c.args.payload.count c.known.ensures p.booted p.is_off p.comes

pub note-requires-clause-loaded : goal.note-requires-clause-loaded
note-requires-clause-loaded g c = (plan g c.before.before.before.before.before).loaded

pub note-requires-clause-takes : goal.note-requires-clause-takes
note-requires-clause-takes g c = (ready g c).takes

pub note-requires-clause-allowed : goal.note-requires-clause-allowed
note-requires-clause-allowed g c = (ready g c).allowed

pub note-requires-clause-room : goal.note-requires-clause-room
note-requires-clause-room g c = (ready g c).room

pub note-requires-clause-row : goal.note-requires-clause-row
note-requires-clause-row g c = (ready g c).row

pub invariant_of-self : goal.invariant_of-self
invariant_of-self g c =
    let p : Plan g c.before.before.before.before.before.before = plan g c.before.before.before.before.before.before in
    let house = house-back _ c.args.client c.args.entry c.requires.comes.0 c.requires.comes.1 c.requires.comes.2 c.args.board c.args.payload.count
    (record { house_log = c.self.inside.house_log; places = c.self.inside.places.items; pool = c.self.inside.pool; keeper = c.self.inside.keeper })
    c.note.new.self c.give.new.self c.self.invariant c.known.ensures c.note.ensures.known c.note.ensures.appended p.loaded p.comes c.give.ensures.capacity
    (c.give.ensures.conserved ∙ ap (λ (n : ℕ). c.self.inside.pool.free + n) c.into_blocks.ensures.count) in
    let e : c.put.new.places.items ≡ places_with c.self.inside.places.items c.requires.comes.0 c.args.board =
    c.put.ensures ∙ ap (λ (n : ℕ). places_with c.self.inside.places.items n c.args.board) p.home.number_is in
    subst (λ (ps : List Place). IsHouse (signs_of g.K.Keeper.tells g.K.Keeper.doubt g.K.Keeper.faults) (record { house_log = c.note.new.self; places = ps; pool = c.give.new.self; keeper = c.self.inside.keeper })) (sym e) house

pub returns-clause-places : goal.returns-clause-places
returns-clause-places g c =
    let n : c.unwrap_or-number.result ≡ number_of (basis_in c.self.inside.house_log) (past_in c.self.inside.house_log) c.args.entry =
    c.unwrap_or-number.ensures ∙ ap (λ (o : Option ℕ). unwrap_or o 0) (c.board_of.ensures ∙ ap (λ (rs : List Row). board_of c.self.inside.house_log.facts rs c.args.entry) c.known.ensures.stands.rows) in
    c.put.ensures
    ∙ ap (λ (m : ℕ). places_with c.self.inside.places.items m c.args.board) n
    ∙ ap (λ (h : Housed g.row.K.Denot). places_with h.places (number_of (basis_in h.house_log) (past h) c.args.entry) c.args.board) c.self.view_is
