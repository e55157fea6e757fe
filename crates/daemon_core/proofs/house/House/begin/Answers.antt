use Rattle.std.proofs.Common.{◌≡◌, true, ap, sym, subst}
use Rattle.update_log.specs.declared.event.Event.{Event}
use Rattle.update_log.specs.Legal.{StartAllowed}
use Rattle.daemon_core.specs.Housed.{basis_in, HouseLogView, Housed, past_in}
use Rattle.daemon_core.proofs.ClaimHouse.{IsReady, house-started, start-ready}
use Rattle.daemon_core.proofs.house.House.begin.Goals as goal
use Rattle.daemon_core.proofs.house.House.begin.Given.{Over}

ready : (g : Over) (c : goal.After-note-arg-1 g) → IsReady c.self.inside.house_log (Event.Start c.args.client c.args.entry c.args.op)
ready g c =
    start-ready c.self.inside.house_log c.args.self.now.house_log c.args.client c.args.entry c.args.op c.requires.next.0
    (ap (λ (h : Housed g.row.K.Denot). h.house_log) c.self.view_is) c.known.ensures c.requires.runs c.requires.booted c.requires.next.1

pub note-requires-clause-takes : goal.note-requires-clause-takes
note-requires-clause-takes g c = (ready g c).takes

pub note-requires-clause-allowed : goal.note-requires-clause-allowed
note-requires-clause-allowed g c = (ready g c).allowed

pub note-requires-clause-room : goal.note-requires-clause-room
note-requires-clause-room g c = (ready g c).room

pub note-requires-clause-row : goal.note-requires-clause-row
note-requires-clause-row g c = (ready g c).row

pub invariant_of-self : goal.invariant_of-self
invariant_of-self g c =
    let same : c.self.inside.house_log ≡ c.args.self.now.house_log = ap (λ (h : Housed g.row.K.Denot). h.house_log) c.self.view_is in
    house-started _ c.args.client c.args.entry c.args.op c.requires.next.0
    (record { house_log = c.self.inside.house_log; places = c.self.inside.places.items; pool = c.self.inside.pool; keeper = c.self.inside.keeper })
    c.note.new.self c.self.invariant c.known.ensures c.note.ensures.known c.note.ensures.appended
    (subst (λ (a : HouseLogView). a.loaded ≡ true) (sym same) c.requires.loaded)
    (subst (λ (a : HouseLogView). StartAllowed (basis_in a) (past_in a) c.args.client c.args.entry c.args.op c.requires.next.0) (sym same) c.requires.next.1)
