use Rattle.std.proofs.Common.{◌≡◌, ◌≤◌, ◌+◌, true, length, ap, sym, subst, arith}
use Rattle.update_log.specs.Known.{Known}
use Rattle.daemon_core.specs.HouseLog.{IsAllowedSo}
use Rattle.daemon_core.specs.Housed.{basis_in, HouseLogView, Housed, past_in}
use Rattle.daemon_core.specs.Owed.{owed}
use Rattle.daemon_core.proofs.HouseKept.{house-quiet}
use Rattle.daemon_core.proofs.Quiet.{quiet-still}
use Rattle.daemon_core.proofs.house.House.note.Goals as goal

pub note-requires-clause-allowed : goal.note-requires-clause-allowed
note-requires-clause-allowed g c =
    subst (λ (a : HouseLogView). IsAllowedSo (basis_in a) a.first (past_in a) c.args.event) (sym (ap (λ (h : Housed g.row.K.Denot). h.house_log) c.self.view_is)) c.requires.allowed

pub note-requires-clause-room : goal.note-requires-clause-room
note-requires-clause-room g c =
    let a : HouseLogView = c.self.inside.house_log in
    let s = (quiet-still (basis_in a) a.first (past_in a) c.args.event c.requires.quiet).owes in
    let r = subst (λ (x : HouseLogView). owed (past_in x) + 1 ≤ x.room) (sym (ap (λ (h : Housed g.row.K.Denot). h.house_log) c.self.view_is)) c.requires.room in
    omega (arith, s, r)

pub note-requires-clause-row : goal.note-requires-clause-row
note-requires-clause-row g c =
    let a : HouseLogView = c.self.inside.house_log in
    let s = ap (λ (k : Known). length k.rows) (quiet-still (basis_in a) a.first (past_in a) c.args.event c.requires.quiet).same_known in
    let r = ap length c.known.ensures.stands.rows in
    omega (arith, s, r)

pub invariant_of-self : goal.invariant_of-self
invariant_of-self g c =
    house-quiet _ c.args.client c.args.event
    (record { house_log = c.self.inside.house_log; places = c.self.inside.places.items; pool = c.self.inside.pool; keeper = c.self.inside.keeper })
    c.note.new.self c.self.invariant c.known.ensures c.note.ensures.known c.note.ensures.appended
    (subst (λ (a : HouseLogView). a.loaded ≡ true) (sym (ap (λ (h : Housed g.row.K.Denot). h.house_log) c.self.view_is)) c.requires.loaded)
    c.requires.quiet
