-- How the fields of a lock, of a pass and of a turn make what contracts see of them.
use Rattle.std.specs.Prelude.{◌≡◌, ◌≤◌, ℕ, true, false, List, [], ◌∷◌, None}
use Rattle.turn_lock.specs.declared.view.SeatView.{SeatView}
use Rattle.turn_lock.specs.declared.view.SeatView.TheVariants.{Idle, Inside}
use Rattle.turn_lock.specs.Shown.{LockId, LockView, PassView, TurnView}
use Rattle.turn_lock.specs.Views.{knows, own_of}
use Rattle.turn_lock.specs.Steps.{Seated, IsLaid}

module _ {E : Type 0} where
  -- a lock by its table, the list when it was made, and the number of its passes
  abbrev pub lock_view : LockId → List E → ℕ → LockView E
  lock_view table start seats = record { id = table; seats = seats; start = start }

  -- a pass by the views of its badge: one, of its seat, or none while the seat is with a turn
  abbrev pub pass_view : LockId → ℕ → List (SeatView E) → PassView E
  pass_view lock number [] = record { lock = lock; number = number; ready = false; base = 0; seen = []; mine = [] }
  pass_view lock number (view ∷ more) = record { lock = lock; number = number; ready = true; base = (own_of view).base; seen = (own_of view).seen; mine = (own_of view).mine }

  -- a pass that has its seat has an idle one, of its number
  abbrev pub IsPass : ℕ → List (SeatView E) → Type 0
  IsPass number [] = Unit {0}
  IsPass number (view ∷ more) = (view ≡ Idle (knows number (own_of view).base (own_of view).seen (own_of view).mine)) × (more ≡ [])

-- the rule of a lock's table speaks of as many passes as the lock has, and of one at least
abbrev pub IsLock : LockId → ℕ → ℕ → Type 0
IsLock table ruled seats = IsLaid table × (ruled ≡ seats) × (1 ≤ seats)

module _ {X E : Type 0} where
  -- a turn by the view of its seat, and the value
  abbrev pub turn_view : LockId → SeatView E → X → TurnView X E
  turn_view lock view x = record { lock = lock; number = (own_of view).number; base = (own_of view).base; seen = (own_of view).seen; mine = (own_of view).mine; value = x }

  -- the seat of a turn is inside, and the value was taken out of its slot
  abbrev pub IsTurn : Seated X E → Type 0
  IsTurn seat = (ticket : ℕ) × (seat ≡ (Inside ticket (own_of seat.0), (0, None) ∷ []))
