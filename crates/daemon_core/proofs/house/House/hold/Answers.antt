use Rattle.std.proofs.Common.{◌≡◌, ◌≤◌, ◌+◌, true, refl, ap, sym, ◌∙◌, subst, arith}
use Rattle.std.specs.Prelude.{None}
use Rattle.fw_facts.specs.declared.release.Release.{Release}
use Rattle.update_log.specs.Holding.{blocks_of, hold}
use Rattle.daemon_core.specs.Holds.{IsReleaseAt}
use Rattle.daemon_core.specs.Housed.{HouseLogView, Housed, past_in}
use Rattle.daemon_core.specs.Owed.{owed}
use Rattle.daemon_core.proofs.Asking.{found-over, house-held, owed-held, release-same}
use Rattle.daemon_core.proofs.house.House.hold.Goals as goal

pub unreachable-requires : goal.unreachable-requires
unreachable-requires g c =
    let e : c.self.inside.house_log ≡ c.args.self.now.house_log = ap (λ (h : Housed g.row.K.Denot). h.house_log) c.self.view_is in
    let f = (found-over c.args.self.now.house_log c.self.inside.house_log c.args.client c.args.request.now c.args.pending c.args.release c.args.blocks e c.requires.accepted).fits in
    let i = c.self.invariant.free in
    let n = c.in-Err.ensures.no_room.0 refl in
    omega (arith, f, i, n)

pub release-found-requires : goal.release-found-requires
release-found-requires g c =
    let e : c.self.inside.house_log ≡ c.args.self.now.house_log = ap (λ (h : Housed g.row.K.Denot). h.house_log) c.self.view_is in
    let f = found-over c.args.self.now.house_log c.self.inside.house_log c.args.client c.args.request.now c.args.pending c.args.release c.args.blocks e c.requires.accepted in
    (f.release, f.there)

pub note-requires-clause-room : goal.note-requires-clause-room
note-requires-clause-room g c =
    let e : c.self.inside.house_log ≡ c.args.self.now.house_log = ap (λ (h : Housed g.row.K.Denot). h.house_log) c.self.view_is in
    let none = subst (λ (a : HouseLogView). hold (past_in a) c.args.client ≡ None) (sym e) c.requires.free.hold in
    let o = owed-held (past_in c.self.inside.house_log) c.args.client c.args.request.now c.args.pending c.args.blocks c.args.release none in
    let r = subst (λ (a : HouseLogView). owed (past_in a) + 3 ≤ a.room) (sym e) c.requires.room in
    omega (arith, o, r)

pub invariant_of-self : goal.invariant_of-self
invariant_of-self g c =
    let e : c.self.inside.house_log ≡ c.args.self.now.house_log = ap (λ (h : Housed g.row.K.Denot). h.house_log) c.self.view_is in
    let t = c.in-Ok.ensures.taken in
    let n = c.in-Ok.ensures.conserved in
    house-held _ c.args.client c.args.request.now c.args.pending c.args.blocks c.args.release
    (record { house_log = c.self.inside.house_log; places = c.self.inside.places.items; pool = c.self.inside.pool; keeper = c.self.inside.keeper })
    c.note.new.self c.take.new.self c.self.invariant c.known.ensures c.note.ensures.known c.note.ensures.appended
    (subst (λ (a : HouseLogView). a.loaded ≡ true) (sym e) c.requires.loaded)
    (subst (λ (a : HouseLogView). hold (past_in a) c.args.client ≡ None) (sym e) c.requires.free.hold)
    c.take.ensures.capacity (omega (arith, t, n))

pub returns-clause-holds : goal.returns-clause-holds
returns-clause-holds g c =
    let e : c.self.inside.house_log ≡ c.args.self.now.house_log = ap (λ (h : Housed g.row.K.Denot). h.house_log) c.self.view_is in
    let f = found-over c.args.self.now.house_log c.self.inside.house_log c.args.client c.args.request.now c.args.pending c.args.release c.args.blocks e c.requires.accepted in
    let same : f.release ≡ c.release-found.result.now = release-same c.self.inside.house_log.facts.catalogue c.args.release f.release c.release-found.result.now f.there c.release-found.ensures in
    record {
      client_is = refl;
      request_is = refl;
      pending_is = refl;
      blocks_are = c.in-Ok.ensures.taken ∙ f.blocks_are ∙ ap (λ (r : Release). blocks_of r.size) same;
      release = c.release-found.result.now;
      release_at = subst (λ (a : HouseLogView). IsReleaseAt a.facts.catalogue c.args.release c.release-found.result.now) e c.release-found.ensures;
      digest_is = refl;
      size_is = refl;
    }
