-- What the steps of a seat tell. Draw, look and pass on change the view of the seat, as is said here, and ring changes nothing that a seat knows. Take and put move the value between the slot and the program, and change no view. Split and join are `one_more_made`, `next_pass` and `taken_in` of Views.
use Rattle.std.specs.Prelude.{◌≡◌, ◌≢◌, ℕ, ◌%◌, ◌^◌, List, [], ◌∷◌, drop, Option, Some}
use Rattle.atomic_table.specs.Seated.{TableId}
use Rattle.atomic_table.specs.Table.{Me, Step}
use Rattle.turn_lock.specs.declared.steps.Found.{Found}
use Rattle.turn_lock.specs.declared.steps.Found.TheVariants.{OwnTurn, OtherTurn}
use Rattle.turn_lock.specs.declared.view.Knowledge.{Knowledge}
use Rattle.turn_lock.specs.declared.view.SeatView.{SeatView}
use Rattle.turn_lock.specs.declared.view.SeatView.TheVariants.{Idle, Waiting, Inside}
use Rattle.turn_lock.specs.Lists.{BeginsWith, AddsAtMostOne, made_by}
use Rattle.turn_lock.specs.Views.{own_of, saw, grown}

-- the table of a lock has two words that count, sixteen bells, and one slot
abbrev pub IsLaid : TableId → Type 0
IsLaid table = (table.words ≡ 18) × (table.slots ≡ 1)

-- the seat is one of this table, which is a lock's
abbrev pub SitsAt : TableId → TableId → Type 0
SitsAt table seat = (seat ≡ table) × IsLaid table

-- the view of a seat, and the slots that are out with it, each with its value
abbrev pub Seated : Type 0 → Type 0 → Type 0
Seated X E = Me (Option X) (SeatView E)

module _ {X E : Type 0} where
  -- the seat waits with a ticket, which is `found` modulo 2 ^ 64
  abbrev pub HasTicket : ℕ → Knowledge E → Seated X E → Type 0
  HasTicket found known seat = (ticket : ℕ) × (ticket % 2 ^ 64 ≡ found) × (seat ≡ (Waiting ticket known, []))

  -- the seat's turn lasts, and the slot is out with it, with this value
  abbrev pub HasValue : Knowledge E → X → Seated X E → Type 0
  HasValue known x seat = (ticket : ℕ) × (seat ≡ (Inside ticket known, (0, Some x) ∷ []))

  -- draw: an idle seat has the ticket whose number was found
  abbrev pub Draws : Step (Option X) → Seated X E → ℕ → Seated X E → Type 0
  Draws step before found after = (known : Knowledge E) → before ≡ (Idle known, []) → HasTicket found known after

  -- ring: the seat knows and holds what it did
  abbrev pub Rings : Step (Option X) → Seated X E → ℕ → Seated X E → Type 0
  Rings step before found after = after ≡ before

module _ {X E : Type 0} (entries : X → List E) where
  -- the seat's turn has come, and the value is out with it. Its list begins with what the seat had seen, and the pass's own entries are those of its number since the lock was made
  pub record HasTurn (by : E → ℕ) (known : Knowledge E) (x : X) (seat : Seated X E) : Type 0 where
    pub value : HasValue (saw known (entries x)) x seat
    pub begins : BeginsWith (entries x) known.seen
    pub mine : known.mine ≡ made_by by known.number (drop known.base (entries x))

  -- look: where the turns ended have come to the seat's ticket, its turn has come. Else nothing changes
  abbrev pub Looks : (E → ℕ) → Step (Option X) → Seated X E → ℕ → Seated X E → Type 0
  Looks by step before found after = (ticket : ℕ) (known : Knowledge E) → before ≡ (Waiting ticket known, [])
      → (found ≡ ticket % 2 ^ 64 → (x : X) × HasTurn by known x after) × (found ≢ ticket % 2 ^ 64 → after ≡ before)

  -- the same, by what the program makes of the number found
  abbrev pub Finds : (E → ℕ) → Seated X E → Found → Seated X E → Type 0
  Finds by before OwnTurn after = (x : X) × HasTurn by (own_of before.0) x after
  Finds by before OtherTurn after = after ≡ before

  -- the seat's turn may end: the list of its value is what the seat saw, or that and one entry of its pass
  abbrev pub MayEnd : (E → ℕ) → Seated X E → Type 0
  MayEnd by seat = (known : Knowledge E) × (x : X) × HasValue known x seat × AddsAtMostOne by known.number known.seen (entries x)

  -- the turn has ended: the seat is idle, and what the list has beyond what the seat saw is its pass's own
  abbrev pub Ends : Seated X E → Seated X E → Type 0
  Ends before after = (known : Knowledge E) (x : X) → HasValue known x before → after ≡ (Idle (grown known (entries x)), [])

  -- pass on
  abbrev pub PassesOn : Step (Option X) → Seated X E → ℕ → Seated X E → Type 0
  PassesOn step before found after = Ends before after
