-- What the log tells of the faults of shelves, over a boot.
use Rattle.std.proofs.Common.{◌≡◌, ℕ, ◌<◌, ◌≤◌, zero, suc, List, [], ◌∷◌, ◌++◌, map, length, get_or, set, refl, ap, ◌∙◌, subst, arith}
use Rattle.std.specs.Prelude.{Some, slice_get}
use Rattle.history_keeper.specs.Signs.{KeeperSigns}
use Rattle.update_log.specs.declared.event.Event.{Event}
use Rattle.update_log.specs.declared.facts.BootPlan.{BootPlan}
use Rattle.daemon_core.specs.Housed.{Housed, past}
use Rattle.client_plays.specs.Faults.{Counted, FaultsTold, ShelvesCount, shelf_faults}
use Rattle.client_plays.specs.Has.{shelf_told, shelves_told}
use Rattle.client_plays.specs.Moments.{Did, Moment, mine}
use Rattle.client_plays.specs.Tools.{Files, ShelfTold, ShelvesStay}
use Rattle.client_plays.proofs.ShelfCounts.{count-first, count-other, shelves-count_both, shelves-count_same, some-same}
use Rattle.client_plays.proofs.ToolLaws.{shelves-here}
use Rattle.client_threads.specs.Runs.{HasBegun, NoneBegan}

le-same : (x y : ℕ) → x ≡ y → x ≤ y
le-same x y e = omega arith

-- Of shelves that were dealt out, and came back: what holds of each that was, and of each that wasn't.
module _ {A P : Type 0} (files : P → Files) (faults : P → ℕ) (f : A → P) where
  pub count-dealt : (Q : ℕ → ℕ → ℕ → Type 0) (rest : List P) (xs ys : List A) → length ys ≡ length xs → ((i : ℕ) (d : A) → i < length xs → Q i (faults (f (get_or xs i d))) (faults (f (get_or ys i d)))) → ((i x : ℕ) → length xs ≤ i → Q i x x)
      → (place : ℕ) (was is : ShelfTold) → slice_get (shelves_told files faults (map f xs ++ rest)) place ≡ Some was → slice_get (shelves_told files faults (map f ys ++ rest)) place ≡ Some is → Q place was.faults is.faults
  count-dealt Q rest [] [] n each beyond place was is a b =
      let same : was ≡ is = some-same (slice_get (shelves_told files faults rest) place) was is a b in
      subst (λ (s : ShelfTold). Q place was.faults s.faults) same (beyond place was.faults (omega arith))
  count-dealt Q rest [] (y ∷ ys) n each beyond place was is a b = absurd (omega arith)
  count-dealt Q rest (x ∷ xs) [] n each beyond place was is a b = absurd (omega arith)
  count-dealt Q rest (x ∷ xs) (y ∷ ys) n each beyond zero was is a b =
      let first : shelf_told files faults (f x) ≡ was = some-same (Some (shelf_told files faults (f x))) (shelf_told files faults (f x)) was refl a in
      let last : shelf_told files faults (f y) ≡ is = some-same (Some (shelf_told files faults (f y))) (shelf_told files faults (f y)) is refl b in
      subst (λ (s : ShelfTold). Q 0 s.faults is.faults) first
      (subst (λ (s : ShelfTold). Q 0 (faults (f x)) s.faults) last (each 0 x (omega arith)))
  count-dealt Q rest (x ∷ xs) (y ∷ ys) n each beyond (suc place) was is a b =
      count-dealt (λ i. Q (suc i)) rest xs ys (omega arith) (λ i d low. each (suc i) d (omega arith)) (λ i k high. beyond (suc i) k (omega arith)) place was is a b

-- The first shelf, with which the daemon did its tasks.
module _ {P : Type 0} (files : P → Files) (faults : P → ℕ) (moments : List Moment) (old new : List Event) (did : Did 0 moments old new) where
  other : (n : ℕ) → mine (suc n) new ≡ mine (suc n) old
  other n = did.others (suc n) (λ e. not-none n e)
    where
      not-none : (n : ℕ) → suc n ≡ 0 → ⊥
      not-none n e = omega arith

  pub count-tasks : (items : List P) (was now : P) → 0 < length items → was ≡ get_or items 0 was → FaultsTold (mine 0 old) (mine 0 new) (faults was) (faults now) → ShelvesCount old new (shelves_told files faults items) (shelves_told files faults (set items 0 now))
  count-tasks [] was now l e t place w i a b = absurd (omega arith)
  count-tasks (x ∷ rest) was now l e t zero w i a b =
      let first : shelf_told files faults was ≡ w = ap (shelf_told files faults) e ∙ some-same (Some (shelf_told files faults x)) (shelf_told files faults x) w refl a in
      let last : shelf_told files faults now ≡ i = some-same (Some (shelf_told files faults now)) (shelf_told files faults now) i refl b in
      subst (λ (s : ShelfTold). Counted (shelf_faults 0 old) (shelf_faults 0 new) s.faults i.faults) first
      (subst (λ (s : ShelfTold). Counted (shelf_faults 0 old) (shelf_faults 0 new) (faults was) s.faults) last
      (count-first old new did.grew (faults was) (faults now) (other 0) t))
  count-tasks (x ∷ rest) was now l e t (suc n) w i a b =
      let same : w ≡ i = some-same (slice_get (shelves_told files faults rest) n) w i a b in
      count-other old new did.grew n w.faults i.faults (other (suc n)) (le-same w.faults i.faults (ap (λ (s : ShelfTold). s.faults) same))

-- The start of a boot tells of no shelf.
count-begun : {K : Type 0} (signs : KeeperSigns K) (plan : BootPlan) (old new : Housed K) (shelves : List ShelfTold) → HasBegun signs plan old new → ShelvesCount (past old) (past new) shelves shelves
count-begun signs plan old new shelves b = shelves-count_same (past old) (past new) shelves (λ place. ap (shelf_faults place) b.past_is)

count-stopped : {K : Type 0} (signs : KeeperSigns K) (old new : Housed K) (shelves : List ShelfTold) → NoneBegan signs old new → ShelvesCount (past old) (past new) shelves shelves
count-stopped signs old new shelves b = shelves-count_same (past old) (past new) shelves (λ place. ap (shelf_faults place) b.past_is)

-- One boot more was begun and played.
pub boot-counted : {K : Type 0} (signs : KeeperSigns K) (plan : BootPlan) (first old mid new : Housed K) (x y z : List ShelfTold) → ShelvesStay x y → ShelvesStay y z → HasBegun signs plan old mid → ShelvesCount (past first) (past old) x y → ShelvesCount (past mid) (past new) y z → ShelvesCount (past first) (past new) x z
boot-counted signs plan first old mid new x y z s t b p q =
    shelves-count_both (past first) (past mid) (past new) x y z s t
    (shelves-count_both (past first) (past old) (past mid) x y y s (shelves-here y) p (count-begun signs plan old mid y b)) q

-- No boot more was begun.
pub stop-counted : {K : Type 0} (signs : KeeperSigns K) (first old new : Housed K) (x y : List ShelfTold) → ShelvesStay x y → NoneBegan signs old new → ShelvesCount (past first) (past old) x y → ShelvesCount (past first) (past new) x y
stop-counted signs first old new x y s b p = shelves-count_both (past first) (past old) (past new) x y y s (shelves-here y) p (count-stopped signs old new y b)

-- What the daemon's log tells, its house's past tells.
pub count-closed : (old new old' new' : List Event) (was now : List ShelfTold) → old ≡ old' → new ≡ new' → ShelvesCount old new was now → ShelvesCount old' new' was now
count-closed old new old' new' was now e o c =
    subst (λ (p : List Event). ShelvesCount p new' was now) e (subst (λ (p : List Event). ShelvesCount old p was now) o c)
