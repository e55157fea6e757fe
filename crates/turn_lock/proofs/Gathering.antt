-- A seat takes in the passes of a list, the last one first.
use Rattle.std.proofs.Common.{◌≡◌, List, [], ◌∷◌, ◌++◌, All, map, ap, sym, ◌∙◌, subst, append_assoc, Some}
use Rattle.std.proofs.lemmas.List.Elements.{All-pop}
use mathlib.Core.List.{map-append}
use Rattle.turn_lock.specs.declared.view.Knowledge.{Knowledge}
use Rattle.turn_lock.specs.declared.view.SeatView.{SeatView}
use Rattle.turn_lock.specs.declared.view.SeatView.TheVariants.{Idle, Closing}
use Rattle.turn_lock.specs.Shown.{LockId, PassView, IsReady}
use Rattle.turn_lock.specs.Views.{CanTakeIn, accounts_of, knowledge_of}

module _ {E : Type 0} where
  pub idle_can : (v : SeatView E) (h : Knowledge E) → v ≡ Idle h → CanTakeIn v
  idle_can v h is = subst CanTakeIn (sym is) tt

  pub closing_can : (v : SeatView E) (hs : List (Knowledge E)) → v ≡ Closing hs → CanTakeIn v
  closing_can v hs is = subst CanTakeIn (sym is) tt

  -- the last pass and the others are ready
  pub ready_last : (lock : LockId) (all rest : List (PassView E)) (p : PassView E) → all ≡ rest ++ p ∷ [] → All (IsReady lock) all → All (IsReady lock) rest × IsReady lock p
  ready_last lock all rest p is ready = All-pop (IsReady lock) all rest (Some p) is ready

  -- the seat is the last pass's own
  pub gathered_last : (all rest : List (PassView E)) (p : PassView E) (v : SeatView E) → all ≡ rest ++ p ∷ [] → v ≡ Idle (knowledge_of p) → map knowledge_of rest ++ accounts_of v ≡ map knowledge_of all
  gathered_last all rest p v is idle = ap (λ (w : SeatView E). map knowledge_of rest ++ accounts_of w) idle
      ∙ (sym (map-append knowledge_of rest (p ∷ [])) ∙ ap (λ (ps : List (PassView E)). map knowledge_of ps) (sym is))

  -- the seat took in one more
  pub gathered_more : (all rest : List (PassView E)) (p : PassView E) (v w : SeatView E) → all ≡ rest ++ p ∷ [] → w ≡ Closing (knowledge_of p ∷ accounts_of v) → map knowledge_of rest ++ accounts_of w ≡ map knowledge_of all ++ accounts_of v
  gathered_more all rest p v w is more =
      let h : Knowledge E = knowledge_of p in
      ap (λ (u : SeatView E). map knowledge_of rest ++ accounts_of u) more ∙ (sym (append_assoc (map knowledge_of rest) (h ∷ []) (accounts_of v))
      ∙ ap (λ (l : List (Knowledge E)). l ++ accounts_of v) (sym (map-append knowledge_of rest (p ∷ [])) ∙ ap (λ (ps : List (PassView E)). map knowledge_of ps) (sym is)))
