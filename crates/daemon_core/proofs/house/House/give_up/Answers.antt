use Rattle.std.proofs.Common.{◌≡◌, ◌≤◌, ◌+◌, ◌∷◌, ap, sym, subst, arith}
use Rattle.update_log.specs.declared.event.Back.{Back}
use Rattle.update_log.specs.declared.event.Event.{Event}
use Rattle.daemon_core.specs.HouseLog.{Appended, IsAllowedSo}
use Rattle.daemon_core.specs.Holds.{held_by}
use Rattle.daemon_core.specs.Housed.{basis_in, Housed, past_in}
use Rattle.daemon_core.specs.Owed.{owed}
use Rattle.daemon_core.proofs.GivenUp.{house-given, may-give}
use Rattle.daemon_core.proofs.house.House.give_up.Goals as goal

pub give-requires : goal.give-requires
give-requires g c =
    let e : c.self.inside.house_log ≡ c.args.self.now.house_log = ap (λ (h : Housed g.row.K.Denot). h.house_log) c.self.view_is in
    let m = may-give c.self.inside.house_log c.args.self.now.house_log c.args.client (held_by c.args.ticket c.args.blocks.count) e c.known.ensures c.requires.booted c.requires.held in
    let o = m.blocks_out in
    let f = c.self.invariant.free in
    let k = c.self.invariant.capacity in
    omega (arith, o, f, k)

pub note-requires-clause-loaded : goal.note-requires-clause-loaded
note-requires-clause-loaded g c =
    let e : c.self.inside.house_log ≡ c.args.self.now.house_log = ap (λ (h : Housed g.row.K.Denot). h.house_log) c.self.view_is in
    let m = may-give c.self.inside.house_log c.args.self.now.house_log c.args.client (held_by c.args.ticket c.args.blocks.count) e c.known.ensures c.requires.booted c.requires.held in
    m.loaded

pub note-requires-clause-allowed : goal.note-requires-clause-allowed
note-requires-clause-allowed g c =
    let e : c.self.inside.house_log ≡ c.args.self.now.house_log = ap (λ (h : Housed g.row.K.Denot). h.house_log) c.self.view_is in
    let m = may-give c.self.inside.house_log c.args.self.now.house_log c.args.client (held_by c.args.ticket c.args.blocks.count) e c.known.ensures c.requires.booted c.requires.held in
    subst (λ (w : Back). IsAllowedSo (basis_in c.self.inside.house_log) c.self.inside.house_log.first (past_in c.self.inside.house_log) (Event.GiveBack c.args.client w)) (sym c.back_of.ensures) m.allowed

pub note-requires-clause-room : goal.note-requires-clause-room
note-requires-clause-room g c =
    let e : c.self.inside.house_log ≡ c.args.self.now.house_log = ap (λ (h : Housed g.row.K.Denot). h.house_log) c.self.view_is in
    let m = may-give c.self.inside.house_log c.args.self.now.house_log c.args.client (held_by c.args.ticket c.args.blocks.count) e c.known.ensures c.requires.booted c.requires.held in
    subst (λ (w : Back). owed (Event.GiveBack c.args.client w ∷ past_in c.self.inside.house_log) + 1 ≤ c.self.inside.house_log.room) (sym c.back_of.ensures) m.room

pub invariant_of-self : goal.invariant_of-self
invariant_of-self g c =
    let e : c.self.inside.house_log ≡ c.args.self.now.house_log = ap (λ (h : Housed g.row.K.Denot). h.house_log) c.self.view_is in
    let m = may-give c.self.inside.house_log c.args.self.now.house_log c.args.client (held_by c.args.ticket c.args.blocks.count) e c.known.ensures c.requires.booted c.requires.held in
    house-given _ c.args.client c.args.ticket.pending c.args.ticket.request c.args.blocks.count
    (record { house_log = c.self.inside.house_log; places = c.self.inside.places.items; pool = c.self.inside.pool; keeper = c.self.inside.keeper })
    c.note.new.self c.give.new.self c.self.invariant c.known.ensures c.note.ensures.known
    (subst (λ (w : Back). Appended c.args.client (Event.GiveBack c.args.client w) c.self.inside.house_log c.note.new.self) c.back_of.ensures c.note.ensures.appended)
    m c.give.ensures.capacity c.give.ensures.conserved
