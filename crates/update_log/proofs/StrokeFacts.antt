-- The order of an entry's steps.
use Rattle.std.proofs.Common.{◌≡◌, ℕ, Bool, true, false, ◌&&◌, List, [], ◌∷◌, refl, ◌<◌, ◌≤◌, ◌+◌, arith, if◌then◌else◌}
use Rattle.std.specs.Prelude.{Some, nat_lt}
use Rattle.std.proofs.lemmas.Bool.{ltb-true, and_parts}
use Rattle.update_log.proofs.Lists.{find-passes}
use Rattle.update_log.specs.Once.{InOrder, Stroke, is_write}
use Rattle.update_log.specs.Steps.{all_ops, is_wanted, last_number, next_step, op_number}
use Rattle.update_log.specs.declared.event.Op.{Op}
use Rattle.update_log.specs.declared.trace.Trace.{Trace}

-- the number of the step that ended last
abbrev pub last_ended : List Stroke → ℕ
last_ended [] = 0
last_ended (Stroke.Started op ∷ rest) = last_ended rest
last_ended (Stroke.Ended op ∷ rest) = op_number op

-- a step is open
abbrev pub is_open : List Stroke → Bool
is_open (Stroke.Started op ∷ rest) = true
is_open _ = false

-- the next step is above the last
pub next-rises : (t : Trace) (op : Op) → next_step t ≡ Some op → last_number t.steps < op_number op
next-rises t op h =
    ltb-true (last_number t.steps) (op_number op) (and_parts (nat_lt (last_number t.steps) (op_number op)) (is_wanted t op) (find-passes (λ x. nat_lt (last_number t.steps) (op_number x) && is_wanted t x) all_ops op h)).0

-- the first step is prepare
pub next-first : (t : Trace) (op : Op) → last_number t.steps ≡ 0 → next_step t ≡ Some op → op ≡ Op.Prepare
next-first t op z h = let e : Some Op.Prepare ≡ Some op = rw z at h in cc

-- the order goes on by the next step
pub order-start : (s : List Stroke) (t : Trace) (op : Op) → InOrder s → is_open s ≡ false → last_number t.steps ≡ last_ended s → next_step t ≡ Some op → InOrder (Stroke.Started op ∷ s)
order-start [] t op i o l n = next-first t op l n
order-start (Stroke.Started last ∷ s) t op i o l n = cc
order-start (Stroke.Ended last ∷ s) t op i o l n = (rw (← l) (next-rises t op n), i)

-- how often a write was started
abbrev pub writes : List Stroke → ℕ
writes [] = 0
writes (Stroke.Started op ∷ rest) = (if is_write op then 1 else 0) + writes rest
writes (Stroke.Ended op ∷ rest) = writes rest

abbrev pub head_number : List Stroke → ℕ
head_number [] = 0
head_number (Stroke.Started op ∷ rest) = op_number op
head_number (Stroke.Ended op ∷ rest) = op_number op

-- none yet below the write's number, and at most one at all
pub record Few (s : List Stroke) : Type 0 where
  pub none : head_number s < 3 → writes s ≡ 0
  pub one : writes s ≤ 1

pub few-writes : (s : List Stroke) → InOrder s → Few s
few-writes [] i = record { none = λ _. refl; one = omega arith }
few-writes (Stroke.Started Op.Prepare ∷ []) i = record { none = λ _. refl; one = omega arith }
few-writes (Stroke.Started _ ∷ []) i = cc
few-writes (Stroke.Started op ∷ Stroke.Ended last ∷ rest) i =
    let r = few-writes (Stroke.Ended last ∷ rest) i.1 in few-above op last rest i.0 r
  where
    few-above : (op last : Op) (rest : List Stroke) → op_number last < op_number op → Few (Stroke.Ended last ∷ rest) → Few (Stroke.Started op ∷ Stroke.Ended last ∷ rest)
    few-above Op.Write last rest h r = record { none = λ k. absurd (omega arith); one = omega (arith, r.none h) }
    few-above op last rest h r = record { none = λ k. omega (arith, r.none (omega arith)); one = omega (arith, r.one) }
few-writes (Stroke.Ended op ∷ Stroke.Started last ∷ rest) i =
    let r = few-writes (Stroke.Started last ∷ rest) i.1 in
    record { none = λ k. r.none (let e : op ≡ last = i.0 in rw (← e) k); one = r.one }
few-writes _ i = absurd i
