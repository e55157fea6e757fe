-- What the view of a seat tells, and what it becomes.
use Rattle.std.specs.Prelude.{ℕ, ◌+◌, Bool, List, [], ◌∷◌, ◌++◌, length, Option, Some, None, is_some}
use Rattle.turn_lock.specs.declared.view.Knowledge.{Knowledge}
use Rattle.turn_lock.specs.declared.view.SeatView.{SeatView}
use Rattle.turn_lock.specs.declared.view.SeatView.TheVariants.{Opening, Idle, Waiting, Inside, Closing, Spent}
use Rattle.turn_lock.specs.Lists.{beyond}
use Rattle.turn_lock.specs.Shown.{PassView}

module _ {E : Type 0} where
  abbrev pub knows : ℕ → ℕ → List E → List E → Knowledge E
  knows number base seen mine = record { number = number; base = base; seen = seen; mine = mine }

  -- what a pass knows while it has no turn
  abbrev pub knowledge_of : PassView E → Knowledge E
  knowledge_of pass = knows pass.number pass.base pass.seen pass.mine

  -- the same once the whole list was seen
  abbrev pub saw : Knowledge E → List E → Knowledge E
  saw known list = knows known.number known.base list known.mine

  -- the same once a turn ended with this list: what it has beyond what was seen is the pass's own
  abbrev pub grown : Knowledge E → List E → Knowledge E
  grown known list = knows known.number known.base list (known.mine ++ beyond known.seen list)

  -- what the pass whose seat it is knows. The other seats know nothing
  abbrev pub own_of : SeatView E → Knowledge E
  own_of (Opening made start) = knows 0 0 [] []
  own_of (Idle known) = known
  own_of (Waiting ticket known) = known
  own_of (Inside ticket known) = known
  own_of (Closing passes) = knows 0 0 [] []
  own_of Spent = knows 0 0 [] []

  -- what the passes know that the seat answers for
  abbrev pub accounts_of : SeatView E → List (Knowledge E)
  accounts_of (Opening made start) = []
  accounts_of (Idle known) = known ∷ []
  accounts_of (Waiting ticket known) = known ∷ []
  accounts_of (Inside ticket known) = known ∷ []
  accounts_of (Closing passes) = passes
  accounts_of Spent = []

  abbrev pub account_count : SeatView E → ℕ
  account_count view = length (accounts_of view)

  -- the ticket that is out with the seat
  abbrev pub ticket_of : SeatView E → Option ℕ
  ticket_of (Opening made start) = None
  ticket_of (Idle known) = None
  ticket_of (Waiting ticket known) = Some ticket
  ticket_of (Inside ticket known) = Some ticket
  ticket_of (Closing passes) = None
  ticket_of Spent = None

  abbrev pub has_ticket : SeatView E → Bool
  has_ticket view = is_some (ticket_of view)

  -- the seat that opens the lock, once it made one more pass
  abbrev pub one_more_made : SeatView E → SeatView E
  one_more_made (Opening made start) = Opening (made + 1) start
  one_more_made view = view

  -- the seat of that pass
  abbrev pub next_pass : SeatView E → SeatView E
  next_pass (Opening made start) = Idle (knows made (length start) start [])
  next_pass view = view

  -- the seat has no ticket, and answers for passes: for its own, or for those that it took in
  abbrev pub CanTakeIn : SeatView E → Type 0
  CanTakeIn (Opening made start) = ⊥
  CanTakeIn (Idle known) = Unit {0}
  CanTakeIn (Waiting ticket known) = ⊥
  CanTakeIn (Inside ticket known) = ⊥
  CanTakeIn (Closing passes) = Unit {0}
  CanTakeIn Spent = ⊥

  -- the first seat, once it took in the second, which is an idle one
  abbrev pub taken_in : SeatView E → SeatView E → SeatView E
  taken_in view (Idle known) = Closing (known ∷ accounts_of view)
  taken_in view other = view
