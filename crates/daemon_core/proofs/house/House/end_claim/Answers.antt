use Rattle.std.proofs.Common.{◌∙◌, ◌+◌, ℕ, ap, sym, subst, refl}
use Rattle.update_log.specs.Pasts.{is_boot}
use Rattle.update_log.specs.declared.event.Event.{Event}
use Rattle.daemon_core.specs.HouseLog.{IsMadeBy}
use Rattle.daemon_core.specs.Fetches.{block_count}
use Rattle.daemon_core.specs.Housed.{Housed}
use Rattle.daemon_core.proofs.ClaimExits.{end-fits, end-house, end-ready, may-over}
use Rattle.daemon_core.proofs.house.House.end_claim.Goals as goal

pub give-requires : goal.give-requires
give-requires g c =
    end-fits _ c.args.client (block_count c.args.fetched) _ c.args.ticket
    (record { house_log = c.self.inside.house_log; places = c.self.inside.places.items; pool = c.self.inside.pool; keeper = c.self.inside.keeper })
    c.args.self.now.house_log (ap (λ (h : Housed g.row.K.Denot). h.house_log) c.self.view_is) c.self.invariant c.known.ensures c.requires.may c.into_blocks.ensures

pub note-requires : goal.note-requires
note-requires g c =
    let may = may-over c.self.inside.house_log c.args.self.now.house_log c.args.client (block_count c.args.fetched) c.args.ticket (ap (λ (h : Housed g.row.K.Denot). h.house_log) c.self.view_is) c.requires.may in
    let ready = end-ready c.self.inside.house_log c.args.self.now.house_log c.args.client (block_count c.args.fetched) c.args.ticket _ c.note-note.result c.args.answer.now c.claimed.result
    (ap (λ (h : Housed g.row.K.Denot). h.house_log) c.self.view_is) c.known.ensures c.requires.may c.requires.answered c.claimed.ensures c.note-note.ensures in
    record {
      no_boot = ap is_boot c.claimed.ensures;
      loaded = may.loaded;
      takes = ready.takes;
      allowed = ready.allowed;
      made = subst (λ (x : Event). IsMadeBy x c.args.client) (sym c.claimed.ensures) refl;
      room = ready.room;
      row = ready.row;
    }

pub invariant_of-self : goal.invariant_of-self
invariant_of-self g c =
    end-house _ c.args.client (block_count c.args.fetched) c.args.ticket _ c.note-note.result c.args.answer.now c.claimed.result
    (record { house_log = c.self.inside.house_log; places = c.self.inside.places.items; pool = c.self.inside.pool; keeper = c.self.inside.keeper })
    c.args.self.now.house_log c.note.new.self c.give.new.self (ap (λ (h : Housed g.row.K.Denot). h.house_log) c.self.view_is) c.self.invariant c.known.ensures c.note.ensures.known
    c.requires.may c.requires.answered c.requires.none c.claimed.ensures c.note-note.ensures c.note.ensures.appended c.give.ensures.capacity
    (c.give.ensures.conserved ∙ ap (λ (n : ℕ). c.self.inside.pool.free + n) c.into_blocks.ensures)
