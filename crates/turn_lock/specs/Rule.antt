-- The rule of a lock's table: what is true between any two steps of any seats.
-- Word 0 counts the tickets drawn and word 1 the turns ended, both modulo 2 ^ 64. The words past those are bells, which tell nothing. The one slot has the value. Seat 0 opens the lock, and the pass n sits at seat n + 1.
use Rattle.std.specs.Prelude.{◌≡◌, ◌⊎◌, ℕ, ◌+◌, ◌%◌, ◌^◌, ◌<◌, ◌≤◌, List, [], ◌∷◌, ◌++◌, All, length, sum_by, count_by, Option, Some, None, IfSome}
use mathlib.Core.Option as maybe
use mathlib.Core.Option.{some, none}
use lib.ListN.{get_elem?}
use Rattle.atomic_table.specs.Table.{State}
use Rattle.turn_lock.specs.declared.opening.Start.{Start}
use Rattle.turn_lock.specs.declared.view.Knowledge.{Knowledge}
use Rattle.turn_lock.specs.declared.view.SeatView.{SeatView}
use Rattle.turn_lock.specs.declared.view.SeatView.TheVariants.{Opening, Idle, Waiting, Inside, Closing, Spent}
use Rattle.turn_lock.specs.Lists.{BeginsWith, made_by}
use Rattle.turn_lock.specs.Views.{account_count, has_ticket, ticket_of}

-- What has happened so far: the tickets drawn, the turns ended and the passes made, each counted in all, the list when the lock was made, the entries since, and the value where it is at home
pub record Past (X E : Type 0) : Type 0 where
  pub drawn : ℕ
  pub ended : ℕ
  pub made : ℕ
  pub start : List E
  pub since : List E
  pub home : Option X

module _ {X : Type 0} where
  -- the slot as the table shows it
  abbrev pub slot_of : Option X → maybe.Option (Option X)
  slot_of None = none
  slot_of (Some x) = some (Some x)

module _ {X E : Type 0} where
  -- the one list
  abbrev pub list_of : Past X E → List E
  list_of past = past.start ++ past.since

module _ {X E : Type 0} (by : E → ℕ) where
  -- what a pass knows is true: it saw a beginning of the list, and its own entries are those of its number since the lock was made
  pub record IsTrueOf (past : Past X E) (known : Knowledge E) : Type 0 where
    pub number : known.number < past.made
    pub base : known.base ≡ length past.start
    pub seen : BeginsWith (list_of past) known.seen
    pub mine : known.mine ≡ made_by by known.number past.since

  -- the seat answers for this pass: it is the pass's own, or the pass's own is spent
  pub record AnswersFor (past : Past X E) (views : List (SeatView E)) (seat : ℕ) (known : Knowledge E) : Type 0 where
    pub is_true : IsTrueOf past known
    pub joined : (seat ≡ known.number + 1) ⊎ (get_elem? views (known.number + 1) ≡ some Spent)

  -- the view of the seat is true. A ticket out is one that was drawn and whose turn has not ended. The seat inside is the one whose turn it is: it has seen the whole list, and the value is away
  abbrev pub Fits : Past X E → List (SeatView E) → ℕ → SeatView E → Type 0
  Fits past views seat (Opening made start) = (seat ≡ 0) × (made ≡ past.made) × (start ≡ past.start)
  Fits past views seat (Idle known) = (seat ≡ known.number + 1) × IsTrueOf past known
  Fits past views seat (Waiting ticket known) = (seat ≡ known.number + 1) × IsTrueOf past known × (past.ended ≤ ticket) × (ticket < past.drawn)
  Fits past views seat (Inside ticket known) = (seat ≡ known.number + 1) × IsTrueOf past known × (ticket ≡ past.ended) × (ticket < past.drawn) × (known.seen ≡ list_of past) × (past.home ≡ None)
  Fits past views seat (Closing passes) = All (AnswersFor past views seat) passes
  Fits past views seat Spent = Unit {0}

module _ {X E : Type 0} (entries : X → List E) (by : E → ℕ) where
  -- The rule, for a lock with this many passes whose value stood for the list `start` when it was made
  pub record TakesTurns (seats : ℕ) (start : List E) (table : State (Option X) (SeatView E)) : Type 0 where
    pub past : Past X E
    pub start_is : past.start ≡ start
    -- the words of the bells, on which those who wait sleep
    pub bells : List ℕ
    pub words : table.words ≡ (past.drawn % 2 ^ 64) ∷ (past.ended % 2 ^ 64) ∷ bells
    pub slot : table.homes ≡ slot_of past.home ∷ []
    -- the value at home stands for the list
    pub value : IfSome past.home (λ x. entries x ≡ list_of past)
    -- it is away only with a seat whose turn it is
    pub away : past.home ≡ None → (seat : ℕ) × (ticket : ℕ) × (known : Knowledge E) × (get_elem? table.views seat ≡ some (Inside ticket known))
    -- as many tickets are out as were drawn and have not had their turn, and no two seats have the same
    pub out : count_by has_ticket table.views + past.ended ≡ past.drawn
    pub apart : (i j ticket : ℕ) (v w : SeatView E) → get_elem? table.views i ≡ some v → get_elem? table.views j ≡ some w → ticket_of v ≡ Some ticket → ticket_of w ≡ Some ticket → i ≡ j
    -- there is a seat for each pass made, and one that makes them
    pub sized : length table.views ≡ past.made + 1
    pub within : (past.made ≤ seats) × (seats < 2 ^ 32)
    -- each pass made is answered for once
    pub answered : sum_by account_count table.views ≡ past.made
    pub each : (seat : ℕ) (view : SeatView E) → get_elem? table.views seat ≡ some view → Fits by past table.views seat view
    -- each entry since the lock was made is of a pass that is made
    pub makers : All (λ (entry : E). by entry < past.made) past.since

  abbrev pub rule : Start X → State (Option X) (SeatView E) → Type 0
  rule start table = TakesTurns start.seats (entries start.value.value) table

module _ {X E : Type 0} (entries : X → List E) where
  -- the view of the first seat
  abbrev pub first : Start X → SeatView E
  first start = Opening 0 (entries start.value.value)
