use Rattle.std.proofs.Common.{◌≡◌, ◌≤◌, ◌<◌, ℕ, length, vec_capacity}
use Rattle.std.specs.Prelude.{Some, slice_get}
use Rattle.daemon_core.specs.Housed.{Place}
use Rattle.daemon_core.specs.Booting.{StartedAt}
use Rattle.daemon_core.proofs.starting.start_all.Given as goal

abbrev pub invariant-loop-place : goal.invariant-loop-place
invariant-loop-place l = record {
  count : length l.listed.items ≡ l.place-index;
  room : length l.places ≤ vec_capacity l.listed;
  done : (n : ℕ) (p : Place) → n < l.place-index → slice_get l.initial.places n ≡ Some p → StartedAt l.plan n p l.places l.listed.items;
  rest : (n : ℕ) → l.place-index ≤ n → slice_get l.places n ≡ slice_get l.initial.places n;
}
