-- How one thing of a list was played.
use Rattle.std.proofs.Common.{◌≡◌, ◌⊎◌, ℕ, Bool, true, false, List, refl, inl, inr}
use Rattle.client_plays.specs.Moments.{Moment}
use Rattle.client_plays.specs.Plays.{Leaves}
use Rattle.client_plays.specs.Scripts.{PlaysOne}

-- It was left for want of memory.
pub record WasLeft (wanting : Bool) (client : ℕ) (Play : List Moment → Type 0) (moments : List Moment) : Type 0 where
  pub left : Leaves client Play moments
  pub cause : wanting ≡ true

-- It was played whole, or left so.
pub one-way : {X : Type 0} (wanting : Bool) (client : ℕ) (Play : X → List Moment → Type 0) (x : X) (moments : List Moment) → PlaysOne wanting client Play x moments → Play x moments ⊎ WasLeft wanting client (Play x) moments
one-way true client Play x moments p =
    elim p [ inl whole ↦ inl whole | inr left ↦ inr (record { left = left.left; cause = refl }) ]
one-way false client Play x moments p = inl p
