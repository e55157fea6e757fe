-- What passes and turns show of the seats in them.
use Rattle.std.proofs.Common.{◌≡◌, ℕ, ◌+◌, List, [], ◌∷◌, ◌++◌, All, map, refl, ap, sym, ◌∙◌, subst, arith, Some}
use Rattle.std.specs.List.{range_with_len}
use Rattle.std.proofs.lemmas.List.FromFn.{map-range_with_len_more}
use Rattle.std.proofs.lemmas.List.Elements.{All-map}
use Rattle.turn_lock.specs.declared.view.Knowledge.{Knowledge}
use Rattle.turn_lock.specs.declared.view.SeatView.{SeatView}
use Rattle.turn_lock.specs.declared.view.SeatView.TheVariants.{Idle}
use Rattle.turn_lock.specs.Lists.{AddsAtMostOne, beyond}
use Rattle.turn_lock.specs.Shown.{LockId, PassView, TurnView, IsReady, IsFresh, new_pass}
use Rattle.turn_lock.specs.Views.{knows, own_of}
use Rattle.turn_lock.specs.Steps.{Seated, HasValue, MayEnd, Ends}
use Rattle.turn_lock.specs.Fields.{turn_view, IsTurn}

module _ {E : Type 0} (lock : LockId) (list : List E) where
  -- passes of these numbers, as they are made
  abbrev pub new_passes : List ℕ → List (PassView E)
  new_passes numbers = map (new_pass lock list) numbers

  pub numbers-new_passes : (numbers : List ℕ) → map (λ (p : PassView E). p.number) (new_passes numbers) ≡ numbers
  numbers-new_passes [] = refl
  numbers-new_passes (n ∷ ns) = ap (λ (l : List ℕ). n ∷ l) (numbers-new_passes ns)

  pub new_passes-ready : (numbers : List ℕ) → All (IsReady lock) (new_passes numbers)
  new_passes-ready numbers = All-map (IsReady lock) (new_pass lock list) numbers (λ k d low. (refl, refl))

  pub new_passes-fresh : (numbers : List ℕ) → All (IsFresh list) (new_passes numbers)
  new_passes-fresh numbers = All-map (IsFresh list) (new_pass lock list) numbers (λ k d low. (refl, refl, refl))

  pub new_passes_more : (before after : List (PassView E)) (p : PassView E) (n : ℕ) → after ≡ before ++ p ∷ [] → before ≡ new_passes (range_with_len 0 n) → p ≡ new_pass lock list n → after ≡ new_passes (range_with_len 0 (n + 1))
  new_passes_more before after p n more is new = more ∙ (ap (λ (ps : List (PassView E)). ps ++ p ∷ []) is
      ∙ (ap (λ (q : PassView E). new_passes (range_with_len 0 n) ++ q ∷ []) new ∙ sym (map-range_with_len_more (new_pass lock list) 0 n n (omega arith))))

module _ {X E : Type 0} where
  -- an idle seat holds no slot
  pub idle_seat : (seat : Seated X E) (h : Knowledge E) → seat ≡ (Idle h, []) → (seat.0 ≡ Idle h) × (seat.1 ≡ [])
  idle_seat seat h is = (ap (λ (m : Seated X E). m.0) is, ap (λ (m : Seated X E). m.1) is)

  -- the value was put back
  put_back : (seat filled : Seated X E) (x : X) → IsTurn seat → filled ≡ (seat.0, (0, Some x) ∷ []) → HasValue (own_of seat.0) x filled
  put_back seat filled x inside is = (inside.0, is ∙ ap (λ (v : SeatView E). (v, (0, Some x) ∷ [])) (ap (λ (m : Seated X E). m.0) inside.1))

module _ {S X E : Type 0} (value_of : S → X) (entries : X → List E) (by : E → ℕ) (lock : LockId) where
  -- a turn may end once its value was put back
  pub may_end : (seat filled : Seated S E) (x : S) (t : TurnView X E) → turn_view lock seat.0 (value_of x) ≡ t → IsTurn seat → filled ≡ (seat.0, (0, Some x) ∷ []) → AddsAtMostOne by t.number t.seen (entries t.value) → MayEnd (λ (s : S). entries (value_of s)) by filled
  may_end seat filled x t is inside full adds = let P : TurnView X E → Type 0 = λ u. AddsAtMostOne by u.number u.seen (entries u.value) in
      (own_of seat.0, x, put_back seat filled x inside full, subst P (sym is) adds)

  -- what its seat knows once it ended
  pub ended : (seat filled idle : Seated S E) (x : S) (t : TurnView X E) → turn_view lock seat.0 (value_of x) ≡ t → IsTurn seat → filled ≡ (seat.0, (0, Some x) ∷ []) → Ends (λ (s : S). entries (value_of s)) filled idle
      → idle ≡ (Idle (knows t.number t.base (entries t.value) (t.mine ++ beyond t.seen (entries t.value))), [])
  ended seat filled idle x t is inside full ends = ends (own_of seat.0) x (put_back seat filled x inside full)
      ∙ ap (λ (u : TurnView X E). (Idle (knows u.number u.base (entries u.value) (u.mine ++ beyond u.seen (entries u.value))), [])) is
