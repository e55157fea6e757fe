-- Slots are emptied one after another.
use Rattle.std.proofs.Common.{◌≡◌, ℕ, zero, suc, ◌+◌, ◌<◌, ◌≤◌, inl, inr, Bool, true, false, Option, Some, None, List, [], ◌∷◌, ◌++◌, length, map, take, get_or, set, All, slice_get, refl, sym, ap, ◌∙◌, subst, add-one, arith}
use Rattle.std.specs.Prelude.{nat_eq}
use Rattle.std.specs.List.{IsDistinct}
use Rattle.std.proofs.Math.Seq.{take-suc}
use Rattle.std.proofs.lemmas.Bool.Decides.{eqb_tells}
use Rattle.std.proofs.lemmas.List.{map_push}
use Rattle.std.proofs.lemmas.List.Elements.{All-weaker}
use Rattle.std.proofs.lemmas.Map.Keys.{apart_from_distinct}
use Rattle.campaign_inputs.specs.Chosen.{AreAt, IsFull}

-- ---- a slot is emptied

other_slot : {A : Type 0} (xs : List A) (p q : ℕ) (y : A) → (q ≡ p → ⊥) → slice_get (set xs p y) q ≡ slice_get xs q
other_slot [] p q y n = refl
other_slot (x ∷ xs) zero zero y n = absurd (n refl)
other_slot (x ∷ xs) zero (suc q) y n = refl
other_slot (x ∷ xs) (suc p) zero y n = refl
other_slot (x ∷ xs) (suc p) (suc q) y n = other_slot xs p q y (λ e. n (ap suc e))

apart : (b : Bool) → b ≡ true → b ≡ false → ⊥
apart b t f = cc

differ : (p q : ℕ) → nat_eq p q ≡ false → q ≡ p → ⊥
differ p q h e = elim (eqb_tells p q) [
  | inl same ↦ absurd (apart (nat_eq p q) same.0 h)
  | inr other ↦ other.1 (sym e)
]

-- the slots of the places from the i-th on are as they were
abbrev pub AreLeft : {A : Type 0} → List ℕ → ℕ → List (Option A) → List (Option A) → Type 0
AreLeft places i was now = (k : ℕ) → i ≤ k → k < length places → slice_get now (get_or places k 0) ≡ slice_get was (get_or places k 0)

pub full_here : {A : Type 0} (places : List ℕ) (i p : ℕ) (was now : List (Option A)) → i < length places → p ≡ get_or places i 0
    → All (IsFull was) places → AreLeft places i was now → IsFull now p
full_here places i p was now lt is full left =
    let f : IsFull was (get_or places i 0) = full i 0 lt in
    subst (IsFull now) (sym is) (f.0, left i (omega arith) lt ∙ f.1)

pub left_turn : {A : Type 0} (places : List ℕ) (i p : ℕ) (was now after : List (Option A)) → IsDistinct nat_eq places → i < length places
    → p ≡ get_or places i 0 → AreLeft places i was now → after ≡ set now p None → AreLeft places (i + 1) was after
left_turn places i p was now after apart lt is left set_is k low high =
    let other : nat_eq (get_or places i 0) (get_or places k 0) ≡ false = apart_from_distinct nat_eq places i k 0 apart (omega arith) high in
    ap (λ (xs : List (Option _)). slice_get xs (get_or places k 0)) set_is
    ∙ other_slot now p (get_or places k 0) None (λ e. differ (get_or places i 0) (get_or places k 0) other (e ∙ is))
    ∙ left k (omega arith) high

pub taken_turn : {A : Type 0} (places : List ℕ) (i p : ℕ) (was now : List (Option A)) (old new : List A) (x : A) → i < length places
    → p ≡ get_or places i 0 → AreLeft places i was now → slice_get now p ≡ Some (Some x)
    → map Some (map Some old) ≡ map (slice_get was) (take i places) → new ≡ old ++ x ∷ []
    → map Some (map Some new) ≡ map (slice_get was) (take (i + 1) places)
taken_turn {A = A} places i p was now old new x lt is left got so_far pushed =
    let there : slice_get was (get_or places i 0) ≡ Some (Some x) =
    sym (left i (omega arith) lt) ∙ ap (slice_get now) (sym is) ∙ got in
    let more : map (slice_get was) (take (suc i) places) ≡ map (slice_get was) (take i places) ++ slice_get was (get_or places i 0) ∷ [] =
    ap (map (slice_get was)) (take-suc places i 0 lt) ∙ map_push (slice_get was) (take i places) (get_or places i 0) in
    let pushed' : map Some (map Some (old ++ x ∷ [])) ≡ map Some (map Some old) ++ Some (Some x) ∷ [] =
    ap (map Some) (map_push Some old x) ∙ map_push Some (map Some old) (Some x) in
    rw (add-one, more, there, pushed, pushed', so_far) refl

-- ---- slots of a list

pub full_at : {A : Type 0} (xs : List A) (at : ℕ) → at < length xs → IsFull (map Some xs) at
full_at [] at lt = absurd (omega arith)
full_at (x ∷ xs) zero lt = (x, refl)
full_at (x ∷ xs) (suc at) lt = full_at xs at (omega arith)

flat : {A : Type 0} → Option (Option A) → Option A
flat None = None
flat (Some o) = o

out : {A : Type 0} (ys : List A) → map flat (map Some (map Some ys)) ≡ map Some ys
unfolding flat
out [] = refl
out (y ∷ ys) = ap (λ (zs : List (Option _)). Some y ∷ zs) (out ys)

inside_at : {A : Type 0} (xs : List A) (p : ℕ) → flat (slice_get (map Some xs) p) ≡ slice_get xs p
unfolding flat
inside_at [] p = refl
inside_at (x ∷ xs) zero = refl
inside_at (x ∷ xs) (suc p) = inside_at xs p

inside : {A : Type 0} (xs : List A) (ps : List ℕ) → map flat (map (slice_get (map Some xs)) ps) ≡ map (slice_get xs) ps
inside xs [] = refl
inside xs (p ∷ ps) = rw (inside_at xs p, inside xs ps) refl

-- what was taken out of the slots of a list stood in the list
pub out_of_slots : {A : Type 0} (xs ys : List A) (ps : List ℕ) → map Some (map Some ys) ≡ map (slice_get (map Some xs)) ps → AreAt xs ps ys
out_of_slots xs ys ps h = sym (out ys) ∙ ap (map flat) h ∙ inside xs ps

pub out_of : {A : Type 0} (xs : List A) (slots : List (Option A)) (ys : List A) (ps : List ℕ) → slots ≡ map Some xs
    → map Some (map Some ys) ≡ map (slice_get slots) ps → AreAt xs ps ys
out_of xs slots ys ps is h = out_of_slots xs ys ps (h ∙ ap (λ (s : List (Option _)). map (slice_get s) ps) is)

pub full_places : {A : Type 0} (xs : List A) (slots : List (Option A)) (ps : List ℕ) → slots ≡ map Some xs
    → All (λ at. at < length xs) ps → All (IsFull slots) ps
full_places xs slots ps is within =
    subst (λ (s : List (Option _)). All (IsFull s) ps) (sym is) (All-weaker (λ at. at < length xs) (IsFull (map Some xs)) (full_at xs) ps within)
