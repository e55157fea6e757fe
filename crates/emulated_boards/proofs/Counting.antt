-- How the count of the faults rises with the count of the calls.
use Rattle.std.proofs.Common.{◌≡◌, ℕ, suc, ◌+◌, ◌<◌, ◌≤◌, true, false, cond, eqb, leb, is_some, ◌⊎◌, None, List, [], ◌∷◌, map, refl, ⊎_elim, add-one, arith}
use Rattle.std.specs.List.Sorted.{IsStrictlyIncreasing}
use Rattle.std.proofs.lemmas.Bool.{cases_order, le-leb, lt-leb, eq-eqb, ne_eqb}
use Rattle.std.proofs.lemmas.List.Sums.{sum_by-cons}
use Rattle.emulated_boards.specs.declared.fault.PlannedFault.{PlannedFault}
use Rattle.emulated_boards.specs.Plans.{IsPlan, fault_count, planned}

-- the numbers of the calls rise strictly, from above this one on
abbrev RiseAbove : ℕ → List PlannedFault → Type 0
RiseAbove low plan = IsStrictlyIncreasing (low ∷ map (λ next. next.call) plan)

first_above : (low : ℕ) (next : PlannedFault) (later : List PlannedFault) → RiseAbove low (next ∷ later) → low < next.call
first_above low next later r = r 0 (omega arith)

later_above : (low : ℕ) (next : PlannedFault) (later : List PlannedFault) → RiseAbove low (next ∷ later) → RiseAbove next.call later
later_above low next later r = λ k h.
    let step = r (suc k) (omega arith) in
    rw add-one (rw add-one at step)

fault_count-cons : (next : PlannedFault) (later : List PlannedFault) (calls : ℕ) → fault_count (next ∷ later) calls ≡ cond (leb next.call calls) 1 0 + fault_count later calls
fault_count-cons next later calls = sum_by-cons (λ p. cond (leb p.call calls) 1 0) next later

-- no fault was met where all are planned for later calls
pub fault_count-none : (plan : List PlannedFault) (low calls : ℕ) → RiseAbove low plan → calls ≤ low → fault_count plan calls ≡ 0
fault_count-none [] low calls r h = refl
fault_count-none (next ∷ later) low calls r h =
    let above = first_above low next later r in
    let none = fault_count-none later next.call calls (later_above low next later r) (omega arith) in
    let test : leb next.call calls ≡ false = lt-leb next.call calls (omega arith) in
    rw (fault_count-cons next later calls, test, none) refl

-- none is planned for a call before the first
planned-none : (plan : List PlannedFault) (low call : ℕ) → RiseAbove low plan → call ≤ low → planned plan call ≡ None
planned-none [] low call r h = refl
planned-none (next ∷ later) low call r h =
    let above = first_above low next later r in
    let test : eqb next.call call ≡ false = ne_eqb next.call call (omega arith) in
    rw test (planned-none later next.call call (later_above low next later r) (omega arith))

-- a call more meets one fault more exactly where one is planned for it
pub fault_count-more : (plan : List PlannedFault) (low calls : ℕ) → RiseAbove low plan → fault_count plan (calls + 1) ≡ fault_count plan calls + cond (is_some (planned plan (calls + 1))) 1 0
fault_count-more [] low calls r = refl
fault_count-more (next ∷ later) low calls r = ⊎_elim
    (λ e.
    let now : leb next.call (calls + 1) ≡ true = le-leb next.call (calls + 1) (omega arith) in
    let before : leb next.call calls ≡ false = lt-leb next.call calls (omega arith) in
    let here : eqb next.call (calls + 1) ≡ true = eq-eqb next.call (calls + 1) e in
    let others = fault_count-none later next.call (calls + 1) above (omega arith) in
    let others_before = fault_count-none later next.call calls above (omega arith) in
    rw (fault_count-cons next later (calls + 1), fault_count-cons next later calls, now, before, here, others, others_before) refl)
    (⊎_elim
    (λ (h : next.call < calls + 1).
    let now : leb next.call (calls + 1) ≡ true = le-leb next.call (calls + 1) (omega arith) in
    let before : leb next.call calls ≡ true = le-leb next.call calls (omega arith) in
    let here : eqb next.call (calls + 1) ≡ false = ne_eqb next.call (calls + 1) (omega arith) in
    let others = fault_count-more later next.call calls above in
    rw (fault_count-cons next later (calls + 1), fault_count-cons next later calls, now, before, here) (omega arith))
    (λ (h : calls + 1 < next.call).
    let now : leb next.call (calls + 1) ≡ false = lt-leb next.call (calls + 1) (omega arith) in
    let before : leb next.call calls ≡ false = lt-leb next.call calls (omega arith) in
    let here : eqb next.call (calls + 1) ≡ false = ne_eqb next.call (calls + 1) (omega arith) in
    let none = planned-none later next.call (calls + 1) above (omega arith) in
    let others = fault_count-none later next.call (calls + 1) above (omega arith) in
    let others_before = fault_count-none later next.call calls above (omega arith) in
    rw (fault_count-cons next later (calls + 1), fault_count-cons next later calls, now, before, here, none, others, others_before) refl))
    (cases_order next.call (calls + 1))
  where
    above : RiseAbove next.call later
    above = later_above low next later r

-- the count behind a call with a fault
pub counted-fault : (plan : List PlannedFault) (faults calls now : ℕ) → IsPlan plan → faults ≡ fault_count plan calls → now ≡ calls + 1 → is_some (planned plan now) ≡ true → faults + 1 ≡ fault_count plan now
counted-fault plan faults calls now r h e fault =
    let here : is_some (planned plan (calls + 1)) ≡ true = rw e at fault in
    let more : fault_count plan (calls + 1) ≡ fault_count plan calls + 1 = rw here at (fault_count-more plan 0 calls r) in
    rw e (omega arith)

-- and behind one without
pub counted-none : (plan : List PlannedFault) (faults calls now : ℕ) → IsPlan plan → faults ≡ fault_count plan calls → (now ≡ calls + 1) ⊎ (now ≡ calls) → is_some (planned plan now) ≡ false → faults ≡ fault_count plan now
counted-none plan faults calls now r h e none = ⊎_elim
    (λ (e : now ≡ calls + 1).
    let here : is_some (planned plan (calls + 1)) ≡ false = rw e at none in
    let more : fault_count plan (calls + 1) ≡ fault_count plan calls + 0 = rw here at (fault_count-more plan 0 calls r) in
    rw e (omega arith))
    (λ (e : now ≡ calls). rw e h)
    e
