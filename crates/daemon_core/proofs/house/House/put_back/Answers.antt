use Rattle.std.proofs.Common.{ℕ, ap, refl, ◌∙◌, subst}
use Rattle.std.specs.Prelude.{Option, unwrap_or}
use Rattle.emulated_boards.specs.Conditions.{plugged}
use Rattle.daemon_core.specs.Housed.{Housed}
use Rattle.daemon_core.specs.Plugging.{BoardMoved}
use Rattle.daemon_core.proofs.MovesBack.{board-back, house-plugged, plug-plan, plug-ready}
use Rattle.daemon_core.proofs.house.House.put_back.Goals as goal

pub move_back-seen-requires : goal.move_back-seen-requires
move_back-seen-requires g c =
    let plan = plug-plan _ (record { house_log = c.self.inside.house_log; places = c.self.inside.places.items; pool = c.self.inside.pool; keeper = c.self.inside.keeper })
    c.args.self.now.house_log c.args.device.now c.unwrap_or-number.result (ap (λ (h : Housed g.row.K.Denot). h.house_log) c.self.view_is) c.self.invariant c.known.ensures c.requires.free
    (c.unwrap_or-number.ensures ∙ ap (λ (o : Option ℕ). unwrap_or o 0) c.board_found.ensures) in
    record { within = plan.within; home = plan.home }

pub note-requires : goal.note-requires
note-requires g c =
    let plan = plug-plan _ (record { house_log = c.self.inside.house_log; places = c.self.inside.places.items; pool = c.self.inside.pool; keeper = c.self.inside.keeper })
    c.args.self.now.house_log c.args.device.now c.unwrap_or-number.result (ap (λ (h : Housed g.row.K.Denot). h.house_log) c.self.view_is) c.self.invariant c.known.ensures c.requires.free
    (c.unwrap_or-number.ensures ∙ ap (λ (o : Option ℕ). unwrap_or o 0) c.board_found.ensures) in
    let ready = plug-ready c.self.inside.house_log c.args.self.now.house_log c.args.client c.args.device.now c.unwrap_or-number.result c.self.inside.places.items c.move_back-seen.new.places.items c.move_back-seen.result
    (ap (λ (h : Housed g.row.K.Denot). h.house_log) c.self.view_is) c.known.ensures c.requires.runs c.requires.booted c.requires.room c.requires.free plan c.move_back-seen.ensures in
    record {
      no_boot = refl;
      loaded = ap (λ (h : Housed g.row.K.Denot). h.house_log.loaded) c.self.view_is ∙ c.requires.loaded;
      takes = ready.takes;
      allowed = ready.allowed;
      made = refl;
      room = ready.room;
      row = ready.row;
    }

pub invariant_of-self : goal.invariant_of-self
invariant_of-self g c =
    house-plugged _ c.args.client c.args.device.now c.unwrap_or-number.result c.move_back-seen.result
    (record { house_log = c.self.inside.house_log; places = c.self.inside.places.items; pool = c.self.inside.pool; keeper = c.self.inside.keeper })
    c.args.self.now.house_log c.note.new.self c.move_back-seen.new.places.items
    (ap (λ (h : Housed g.row.K.Denot). h.house_log) c.self.view_is) c.self.invariant c.known.ensures c.note.ensures.known c.note.ensures.appended c.requires.loaded c.requires.runs
    (plug-plan _ (record { house_log = c.self.inside.house_log; places = c.self.inside.places.items; pool = c.self.inside.pool; keeper = c.self.inside.keeper })
    c.args.self.now.house_log c.args.device.now c.unwrap_or-number.result (ap (λ (h : Housed g.row.K.Denot). h.house_log) c.self.view_is) c.self.invariant c.known.ensures c.requires.free
    (c.unwrap_or-number.ensures ∙ ap (λ (o : Option ℕ). unwrap_or o 0) c.board_found.ensures))
    c.move_back-seen.ensures

pub returns-clause-moved : goal.returns-clause-moved
returns-clause-moved g c =
    subst (λ (h : Housed g.row.K.Denot). BoardMoved plugged h.house_log c.args.device.now h.places c.move_back-seen.new.places.items) c.self.view_is
    (board-back c.self.inside.house_log c.args.device.now c.unwrap_or-number.result c.self.inside.places.items c.move_back-seen.new.places.items c.move_back-seen.result
    (plug-plan _ (record { house_log = c.self.inside.house_log; places = c.self.inside.places.items; pool = c.self.inside.pool; keeper = c.self.inside.keeper })
    c.args.self.now.house_log c.args.device.now c.unwrap_or-number.result (ap (λ (h : Housed g.row.K.Denot). h.house_log) c.self.view_is) c.self.invariant c.known.ensures c.requires.free
    (c.unwrap_or-number.ensures ∙ ap (λ (o : Option ℕ). unwrap_or o 0) c.board_found.ensures))
    c.move_back-seen.ensures)
