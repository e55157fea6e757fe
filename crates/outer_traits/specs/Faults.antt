-- Counts of faults. A count never falls, and ends at 2^64 - 1.
use Rattle.std.specs.Prelude.{ℕ, ◌+◌, ◌-◌, ◌^◌, ◌≤◌, min}

-- The count rose by this many, or stands at its end.
abbrev pub RoseBy : ℕ → ℕ → ℕ → Type 0
RoseBy more old new = min (old + more) (2 ^ 64 - 1) ≤ new

-- The count rose, or stands at its end.
abbrev pub Rose : ℕ → ℕ → Type 0
Rose old new = RoseBy 1 old new
