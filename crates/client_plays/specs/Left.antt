-- Plays that were left for want of memory.
use Rattle.std.specs.Prelude.{◌≡◌, ◌⊎◌, ℕ, Bool, true, false, MatchBool, List}
use Rattle.std.specs.List.{list_any}
use Rattle.update_log.specs.declared.answer.ClaimAnswer.{ClaimAnswer}
use Rattle.update_log.specs.declared.answer.ResumeAnswer.{ResumeAnswer}
use Rattle.update_log.specs.declared.event.Event.{Event}
use Rattle.client_plays.specs.Moments.{Moment}
use Rattle.client_plays.specs.Plays.{Leaves}

-- The event takes an entry.
abbrev pub is_taking : Event → Bool
is_taking (Event.Claim client request fetched (ClaimAnswer.Entry entry)) = true
is_taking (Event.Resume client entry fetched ResumeAnswer.Begun stored) = true
is_taking _ = false

-- A play that was left before it took an entry. Want of memory leaves no other.
pub record LeavesUntaken (client : ℕ) (Play : List Moment → Type 0) (moments : List Moment) : Type 0 where
  pub left : Leaves client Play moments
  pub untaken : list_any (λ m. is_taking m.event) moments ≡ false

-- It is played whole. Where memory was wanting it may be left so.
abbrev pub PlayedOrLeft : Bool → ℕ → (List Moment → Type 0) → List Moment → Type 0
PlayedOrLeft wanting client Play moments = MatchBool wanting (Play moments ⊎ LeavesUntaken client Play moments) (Play moments)
