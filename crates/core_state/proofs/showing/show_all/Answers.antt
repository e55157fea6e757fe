use Rattle.std.proofs.Common.{◌∙◌, ap, sym, refl, arith, add-one, take, length, get_or}
use Rattle.std.specs.Prelude.{option_map, slice_get}
use Rattle.core_state.proofs.CoreViews.{length-told, told-step, untold-next}
use Rattle.core_state.proofs.showing.show_all.Goals as goal
use Rattle.core_state.proofs.showing.show_all.Goals.{in-Some, in_default}

pub set_seen-requires : goal.set_seen-requires
set_seen-requires c =
    let n = ap length c.loop-at.invariant ∙ length-told (λ number. option_map (λ b. b.seen) (slice_get c.args.seen.now number)) (take c.loop-at.at c.args.boards.now) c.args.devices.now in
    omega (arith, n)

pub loop-at-preserved : goal.loop-at-preserved
loop-at-preserved c =
    elim c.match-seen_of.branch [
      | in-Some w ↦ rw add-one (w.devices-is ∙ told-step (λ number. option_map (λ b. b.seen) (slice_get c.args.seen.now number)) c.args.boards.now c.args.devices.now c.loop-at.devices w.set_seen.new.self c.loop-at.at (get_or c.args.boards.now c.loop-at.at 0) 0 w.in-Some.seen c.loop-at.invariant c.loop-at-test.true c.requires refl (sym w.in-Some.ensures) w.set_seen.ensures)
      | in_default w ↦ rw add-one (w.devices-is ∙ c.loop-at.invariant ∙ untold-next (λ number. option_map (λ b. b.seen) (slice_get c.args.seen.now number)) c.args.boards.now c.args.devices.now c.loop-at.at (get_or c.args.boards.now c.loop-at.at 0) 0 c.loop-at-test.true refl (sym w.in_default.ensures))
    ]
