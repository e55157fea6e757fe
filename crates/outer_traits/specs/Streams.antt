-- What the adapters over readers and writers of std show. Std says of some streams, at any moment, which bytes they
-- have left or hold, and of others nothing.
use Rattle.std.specs.Prelude.{ℕ, List, Option, None, Some, IsSome}

-- A source over a reader: the bytes that are left, if it tells them, and how often it failed.
pub record StreamInput : Type 0 where
  pub left : Option (List ℕ)
  pub faults : ℕ

-- A sink over a writer: the bytes that it took, if it tells them, and how often it failed.
pub record StreamOutput : Type 0 where
  pub taken : Option (List ℕ)
  pub faults : ℕ

-- What is known of a stream now, if something was known of it as it was given. A stream of which nothing was known then
-- tells nothing later either.
abbrev pub known_since : Option (List ℕ) → Option (List ℕ) → Option (List ℕ)
known_since None now = None
known_since (Some given) now = now

-- Where something was known of a stream as it was given, something is known now.
abbrev pub StaysKnown : Option (List ℕ) → Option (List ℕ) → Type 0
StaysKnown given now = IsSome given → IsSome now
