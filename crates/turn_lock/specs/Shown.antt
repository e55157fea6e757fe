-- What contracts see of a lock, of a pass and of a turn.
use Rattle.std.specs.Prelude.{◌≡◌, ℕ, Bool, true, false, List, [], length}
use base.Stored.{Coded, coded×, coded_ℕ, coded_list, coded_bool, coded_via}
use Rattle.atomic_table.specs.Seated.{TableId, table_id_coded}
use Rattle.turn_lock.specs.Lists.{beyond, made_by}

-- which lock it is
abbrev pub LockId : Type 0
LockId = TableId

-- a lock: which it is, how many passes it has, and the list that its value stood for when it was made
pub record LockView (E : Type 0) : Type 0 where
  pub id : LockId
  pub seats : ℕ
  pub start : List E

-- a pass: of which lock, its number, whether it is ready to enter, how long the list was when the lock was made, the list as the pass saw it last, and its own entries since the lock was made. While it has a turn it is not ready, and the last three are with the turn
pub record PassView (E : Type 0) : Type 0 where
  pub lock : LockId
  pub number : ℕ
  pub ready : Bool
  pub base : ℕ
  pub seen : List E
  pub mine : List E

-- a turn: what its pass had, with the list as the turn began, and the value as it is
pub record TurnView (X E : Type 0) : Type 0 where
  pub lock : LockId
  pub number : ℕ
  pub base : ℕ
  pub seen : List E
  pub mine : List E
  pub value : X

module _ {E : Type 0} where
  -- the pass is one of this lock, and has no turn
  abbrev pub IsReady : LockId → PassView E → Type 0
  IsReady lock pass = (pass.lock ≡ lock) × (pass.ready ≡ true)

  -- the pass has seen this list, which is the list when the lock was made, and no entry is its own
  abbrev pub IsFresh : List E → PassView E → Type 0
  IsFresh list pass = (pass.seen ≡ list) × (pass.base ≡ length list) × (pass.mine ≡ [])

  -- the pass's own entries are those of its number that the list has beyond the start, in order
  abbrev pub HasItsEntries : (E → ℕ) → List E → List E → PassView E → Type 0
  HasItsEntries by start list pass = pass.mine ≡ made_by by pass.number (beyond start list)

  -- the turn is one of this lock, and this pass's
  abbrev pub IsTurnOf : {X : Type 0} → LockId → PassView E → TurnView X E → Type 0
  IsTurnOf lock pass turn = (turn.lock ≡ lock) × (turn.number ≡ pass.number) × (pass.ready ≡ false)

  -- the pass of this number as it is made
  abbrev pub new_pass : LockId → List E → ℕ → PassView E
  new_pass lock list number = record { lock = lock; number = number; ready = true; base = length list; seen = list; mine = [] }

-- how these are stored: as tuples of their fields
abbrev pub lock_code : {E : Type 0} → Coded E → Coded (LockView E)
lock_code {E} c = coded_via (coded× table_id_coded (coded× coded_ℕ (coded_list c))) (λ (l : LockView E). (l.id, (l.seats, l.start))) (λ x y e i. record { id = (e i).0; seats = (e i).1.0; start = (e i).1.1 })

abbrev pub pass_code : {E : Type 0} → Coded E → Coded (PassView E)
pass_code {E} c = coded_via (coded× table_id_coded (coded× coded_ℕ (coded× coded_bool (coded× coded_ℕ (coded× (coded_list c) (coded_list c)))))) (λ (p : PassView E). (p.lock, (p.number, (p.ready, (p.base, (p.seen, p.mine))))))
    (λ x y e i. record { lock = (e i).0; number = (e i).1.0; ready = (e i).1.1.0; base = (e i).1.1.1.0; seen = (e i).1.1.1.1.0; mine = (e i).1.1.1.1.1 })

abbrev pub turn_code : {X E : Type 0} → Coded X → Coded E → Coded (TurnView X E)
turn_code {X} {E} x c = coded_via (coded× table_id_coded (coded× coded_ℕ (coded× coded_ℕ (coded× (coded_list c) (coded× (coded_list c) x))))) (λ (t : TurnView X E). (t.lock, (t.number, (t.base, (t.seen, (t.mine, t.value))))))
    (λ x y e i. record { lock = (e i).0; number = (e i).1.0; base = (e i).1.1.0; seen = (e i).1.1.1.0; mine = (e i).1.1.1.1.0; value = (e i).1.1.1.1.1 })
