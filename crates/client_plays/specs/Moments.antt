-- What a client did in the boot that runs.
use Rattle.std.specs.Prelude.{◌≡◌, ◌≢◌, ◌<◌, ℕ, false, List, [], ◌∷◌, ◌++◌, if◌then◌else◌}
use Rattle.std.specs.List.{list_any, AllByRecursion}
use Rattle.update_log.specs.declared.event.Event.{Event}
use Rattle.update_log.specs.Pasts.{is_boot, is_of}

-- An event, with the past before it.
pub record Moment : Type 0 where
  pub before : List Event
  pub event : Event

-- An event that comes after that past.
abbrev pub at : List Event → Event → Moment
at past event = record { before = past; event = event }

-- The past behind it.
abbrev pub behind : Moment → List Event
behind m = m.event ∷ m.before

-- A client's events of the boot that runs, the oldest first, each with the past before it.
abbrev pub mine_after : ℕ → List Event → Event → List Moment → List Moment
mine_after client past event before =
    if is_boot event then [] else (if is_of client event then before ++ at past event ∷ [] else before)

abbrev pub mine : ℕ → List Event → List Moment
mine client [] = []
mine client (event ∷ past) = mine_after client past event (mine client past)

-- The past as the boot that runs began: that boot, and what came before it.
abbrev pub began_after : List Event → Event → List Event → List Event
began_after past event before = if is_boot event then event ∷ past else before

abbrev pub began : List Event → List Event
began [] = []
began (event ∷ past) = began_after past event (began past)

-- A past grew within one boot: by events that start none.
pub record Grew (old new : List Event) : Type 0 where
  pub more : List Event
  pub are : new ≡ more ++ old
  pub no_boot : list_any is_boot more ≡ false

-- What was put behind a past in the same boot: these are the client's own moments, and nobody else
-- did anything.
pub record Did (client : ℕ) (moments : List Moment) (old new : List Event) : Type 0 where
  pub own : mine client new ≡ mine client old ++ moments
  pub others : (other : ℕ) → other ≢ client → mine other new ≡ mine other old
  pub grew : Grew old new

-- No client did anything in the boot that runs. The daemon itself may have.
abbrev pub NoClients : List Event → Type 0
NoClients past = (client : ℕ) → 0 < client → mine client past ≡ []

-- The daemon's own events of the boot that runs came first: before each of them no client did anything in it.
abbrev pub DaemonFirst : List Event → Type 0
DaemonFirst past = AllByRecursion (λ m. NoClients m.before) (mine 0 past)
