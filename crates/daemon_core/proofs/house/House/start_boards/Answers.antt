use Rattle.std.proofs.Common.{◌≡◌, List, [], sym, ◌∙◌, subst, length}
use Rattle.history_keeper.specs.Signs.{signs_of}
use Rattle.update_log.specs.Crashes.{next_boot}
use Rattle.update_log.specs.Holding.{holds, live}
use Rattle.daemon_core.specs.Booting.{AllCanStart, AllStarted, PlacesStand}
use Rattle.daemon_core.specs.Reading.{CanBoot}
use Rattle.daemon_core.specs.Housed.{HouseLogView, Housed, Place, past, past_in}
use Rattle.daemon_core.proofs.BootHouseLog.{boot-noted, house_log-found}
use Rattle.daemon_core.proofs.BootHouse.{all-can_start, all-listed, house-booted, take-front}
use Rattle.daemon_core.proofs.house.House.start_boards.Goals as goal

pub start_all-requires-clause-each : goal.start_all-requires-clause-each
start_all-requires-clause-each g c =
    let a : HouseLogView = c.self.inside.house_log in
    let p : PlacesStand a c.self.inside.places.items = record { count = c.self.invariant.count; each = c.self.invariant.places } in
    let r = subst (λ (h : Housed g.row.K.Denot). live (past h) ≡ []) (sym c.self.view_is) c.requires.live in
    subst AllCanStart (sym c.deref_mut.ensures.value) (all-can_start a c.self.inside.places.items [] c.args.plan.now [] c.known.ensures.legal p r)

pub note_boot-requires-clause-listed : goal.note_boot-requires-clause-listed
note_boot-requires-clause-listed g c =
    let a : HouseLogView = c.self.inside.house_log in
    let p : PlacesStand a c.self.inside.places.items = record { count = c.self.invariant.count; each = c.self.invariant.places } in
    let r = subst (λ (h : Housed g.row.K.Denot). live (past h) ≡ []) (sym c.self.view_is) c.requires.live in
    all-listed a c.self.inside.places.items c.start_all.new.places c.args.plan.now c.start_all.new.listed.items c.known.ensures.legal p r
    (subst (λ (ps : List Place). AllStarted c.args.plan.now ps c.start_all.new.places c.start_all.new.listed.items) c.deref_mut.ensures.value c.start_all.ensures)

pub invariant_of-self : goal.invariant_of-self
invariant_of-self g c =
    let a : HouseLogView = c.self.inside.house_log in
    let p : PlacesStand a c.self.inside.places.items = record { count = c.self.invariant.count; each = c.self.invariant.places } in
    let r = subst (λ (h : Housed g.row.K.Denot). live (past h) ≡ []) (sym c.self.view_is) c.requires.live in
    let q = subst (λ (h : Housed g.row.K.Denot). holds (past h) ≡ []) (sym c.self.view_is) c.requires.holds in
    let n = subst (λ (h : Housed g.row.K.Denot). CanBoot (signs_of g.K.Keeper.tells g.K.Keeper.doubt g.K.Keeper.faults) c.args.found h) (sym c.self.view_is) c.requires.can in
    let w = boot-noted (next_boot (past_in a) c.args.plan.now c.args.found c.start_all.new.listed.items) c.args.found a c.note_boot.new.self c.note_found.new.self c.note_boot.ensures.appended c.note_found.ensures in
    let kept = house_log-found c.args.found c.note_boot.new.self c.note_found.new.self c.note_found.ensures c.note_boot.ensures.known in
    let n_is : c.self.inside.places.len ≡ length c.start_all.new.places = sym (c.start_all.ensures.places ∙ c.deref_mut.ensures.len) in
    rw take-front
    (house-booted _ a c.note_found.new.self c.self.inside.places.items c.start_all.new.places c.self.inside.pool c.self.inside.keeper c.args.plan.now c.args.found
    c.known.ensures kept p r q (record { listed = c.start_all.new.listed.items; started = subst (λ (ps : List Place). AllStarted c.args.plan.now ps c.start_all.new.places c.start_all.new.listed.items) c.deref_mut.ensures.value c.start_all.ensures; appended = w.0; reopened = w.1 })
    c.self.invariant.capacity c.self.invariant.free c.self.invariant.unloaded n.keeps)
