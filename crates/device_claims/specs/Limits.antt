-- What is known of the claims in each state.
use Rattle.std.specs.Prelude.{ℕ}

-- The most steps that were made, the room for marks that is left, and the numbers of the earliest and
-- the latest step that may come next, where 7 stands for none.
pub record Limits : Type 0 where
  pub most : ℕ
  pub room : ℕ
  pub earliest : ℕ
  pub latest : ℕ

-- Begun: prepare comes next.
abbrev pub begun : Limits
begun = record { most = 0; room = 4; earliest = 1; latest = 1 }

-- Ready: a detach, a write, an attach or the reload.
abbrev pub ready : Limits
ready = record { most = 1; room = 4; earliest = 2; latest = 5 }

-- Loose: a write, an attach or the reload.
abbrev pub loose : Limits
loose = record { most = 2; room = 3; earliest = 3; latest = 5 }

-- Flashed: an attach or the reload.
abbrev pub flashed : Limits
flashed = record { most = 3; room = 1; earliest = 4; latest = 5 }

-- Joined: the reload.
abbrev pub joined : Limits
joined = record { most = 4; room = 0; earliest = 5; latest = 5 }

-- Reloaded: the cleanup.
abbrev pub reloaded : Limits
reloaded = record { most = 5; room = 0; earliest = 6; latest = 6 }

-- Closed: none.
abbrev pub closed : Limits
closed = record { most = 6; room = 0; earliest = 7; latest = 7 }
