use Rattle.std.proofs.Common.{ℕ, ap, refl, ◌∙◌, subst}
use Rattle.std.specs.Prelude.{Option, unwrap_or}
use Rattle.emulated_boards.specs.Conditions.{unplugged}
use Rattle.daemon_core.specs.Housed.{Housed}
use Rattle.daemon_core.specs.Plugging.{BoardMoved}
use Rattle.daemon_core.proofs.Moves.{board-moved, house-unplugged, unplug-plan, unplug-ready}
use Rattle.daemon_core.proofs.house.House.take_out.Goals as goal

pub move_out-requires : goal.move_out-requires
move_out-requires g c =
    let plan = unplug-plan _ (record { house_log = c.self.inside.house_log; places = c.self.inside.places.items; pool = c.self.inside.pool; keeper = c.self.inside.keeper })
    c.args.self.now.house_log c.args.device.now c.unwrap_or-number.result (ap (λ (h : Housed g.row.K.Denot). h.house_log) c.self.view_is) c.self.invariant c.known.ensures c.requires.free
    (c.unwrap_or-number.ensures ∙ ap (λ (o : Option ℕ). unwrap_or o 0) c.board_found.ensures) in
    record { within = plan.within; home = plan.home }

pub note-requires : goal.note-requires
note-requires g c =
    let ready = unplug-ready c.self.inside.house_log c.args.self.now.house_log c.args.client c.args.device.now (ap (λ (h : Housed g.row.K.Denot). h.house_log) c.self.view_is) c.known.ensures c.requires.runs c.requires.booted c.requires.room c.requires.free in
    record {
      no_boot = refl;
      loaded = ap (λ (h : Housed g.row.K.Denot). h.house_log.loaded) c.self.view_is ∙ c.requires.loaded;
      takes = ready.takes;
      allowed = ready.allowed;
      made = refl;
      room = ready.room;
      row = ready.row;
    }

pub invariant_of-self : goal.invariant_of-self
invariant_of-self g c =
    house-unplugged _ c.args.client c.args.device.now c.unwrap_or-number.result
    (record { house_log = c.self.inside.house_log; places = c.self.inside.places.items; pool = c.self.inside.pool; keeper = c.self.inside.keeper })
    c.args.self.now.house_log c.note.new.self c.move_out.new.places.items
    (ap (λ (h : Housed g.row.K.Denot). h.house_log) c.self.view_is) c.self.invariant c.known.ensures c.note.ensures.known c.note.ensures.appended c.requires.loaded
    (unplug-plan _ (record { house_log = c.self.inside.house_log; places = c.self.inside.places.items; pool = c.self.inside.pool; keeper = c.self.inside.keeper })
    c.args.self.now.house_log c.args.device.now c.unwrap_or-number.result (ap (λ (h : Housed g.row.K.Denot). h.house_log) c.self.view_is) c.self.invariant c.known.ensures c.requires.free
    (c.unwrap_or-number.ensures ∙ ap (λ (o : Option ℕ). unwrap_or o 0) c.board_found.ensures))
    c.move_out.ensures

pub returns-clause-moved : goal.returns-clause-moved
returns-clause-moved g c =
    subst (λ (h : Housed g.row.K.Denot). BoardMoved unplugged h.house_log c.args.device.now h.places c.move_out.new.places.items) c.self.view_is
    (board-moved unplugged c.self.inside.house_log c.args.device.now c.unwrap_or-number.result c.self.inside.places.items c.move_out.new.places.items
    (unplug-plan _ (record { house_log = c.self.inside.house_log; places = c.self.inside.places.items; pool = c.self.inside.pool; keeper = c.self.inside.keeper })
    c.args.self.now.house_log c.args.device.now c.unwrap_or-number.result (ap (λ (h : Housed g.row.K.Denot). h.house_log) c.self.view_is) c.self.invariant c.known.ensures c.requires.free
    (c.unwrap_or-number.ensures ∙ ap (λ (o : Option ℕ). unwrap_or o 0) c.board_found.ensures))
    c.move_out.ensures)
