-- Scripts that were played, or left.
use Rattle.std.proofs.Common.{◌≡◌, ℕ, ◌<◌, Bool, true, zero, suc, List, [], ◌∷◌, length, refl, sym, subst, inr, arith}
use Rattle.std.proofs.lemmas.Bool.{eqb-true}
use Rattle.std.proofs.lemmas.Option.{slice_get_past}
use Rattle.std.specs.Prelude.{◌==◌}
use Rattle.client_scripts.specs.declared.item.Item.{Item}
use Rattle.client_plays.specs.Moments.{Moment}
use Rattle.client_plays.specs.Plays.{Leaves, Plays}
use Rattle.client_plays.specs.Scripts.{PlayedSo, PlaysAll, items_of}
use Rattle.client_plays.specs.Tools.{Means}
use Rattle.client_plays.proofs.PlayLaws.{item-unplayed}
use Rattle.client_plays.proofs.RestLaws.{so-left}
use Rattle.client_plays.proofs.ScriptLaws.{so-all, until-nothing}
use Rattle.update_log.specs.Known.{Basis}

-- Nothing to do.
pub nothing-so : {X : Type 0} (is_off wanting : Bool) (client : ℕ) (Play : X → List Moment → Type 0) (xs : List X) (moments : List Moment) → xs ≡ [] → moments ≡ [] → PlayedSo is_off wanting client Play xs moments
nothing-so is_off wanting client Play xs moments e m =
    subst (λ (ys : List _). PlayedSo is_off wanting client Play ys moments) (sym e) (so-all is_off wanting client Play [] moments m)

-- A list of no length.
pub empty-list : {X : Type 0} (xs : List X) → (length xs == 0) ≡ true → xs ≡ []
empty-list [] e = refl
empty-list (x ∷ xs) e = let z : length (x ∷ xs) ≡ 0 = eqb-true (length (x ∷ xs)) 0 e in absurd (omega arith)

pub items-beyond : (of_boot : List (List Item)) (client : ℕ) → length of_boot < client → items_of of_boot client ≡ []
items-beyond of_boot zero l = refl
items-beyond of_boot (suc n) l = rw (slice_get_past of_boot n (omega arith)) refl

-- Where nothing was done for want of memory, all was left.
all-left : {X : Type 0} (client : ℕ) (Play : X → List Moment → Type 0) (xs : List X) → ((x : X) → Leaves client (Play x) []) → PlaysAll true client Play xs []
all-left client Play [] h = refl
all-left client Play (x ∷ xs) h =
    record { first = []; rest = []; are = refl; first_is = inr (record { left = h x; untaken = refl }); rest_is = all-left client Play xs h }

module _ (basis : Basis) (means : Means) (client : ℕ) (items : List Item) (moments : List Moment) where
  pub left-wanting : (is_off : Bool) → moments ≡ [] → PlayedSo is_off true client (Plays basis means client) items moments
  left-wanting is_off m =
      let Play : Item → List Moment → Type 0 = Plays basis means client in
      subst (λ (ms : List Moment). PlayedSo is_off true client Play items ms) (sym m)
      (so-all is_off true client Play items [] (all-left client Play items (λ item. item-unplayed basis means client item)))

  -- And where nothing was done in a boot that is off.
  pub left-off : (is_off wanting : Bool) → is_off ≡ true → moments ≡ [] → PlayedSo is_off wanting client (Plays basis means client) items moments
  left-off is_off wanting o m =
      let Play : Item → List Moment → Type 0 = Plays basis means client in
      subst (λ (ms : List Moment). PlayedSo is_off wanting client Play items ms) (sym m)
      (so-left is_off wanting client Play items [] o (until-nothing wanting client Play items (λ item. item-unplayed basis means client item)))
