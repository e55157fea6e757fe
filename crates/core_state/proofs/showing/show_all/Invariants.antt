use Rattle.std.proofs.Common.{◌≡◌, take}
use Rattle.std.specs.Prelude.{option_map, slice_get}
use Rattle.core_state.specs.CoreViews.{told_on}
use Rattle.core_state.proofs.showing.show_all.Given as goal

abbrev pub invariant-loop-at : goal.invariant-loop-at
invariant-loop-at l = l.devices ≡ told_on (λ number. option_map (λ b. b.seen) (slice_get l.seen number)) (take l.at l.boards) l.initial.devices
