-- The play of a resumption asks for another state of no other row.
use Rattle.std.proofs.Common.{◌≡◌, ℕ, Bool, true, false, ◌||◌, List, [], ◌∷◌, ◌++◌, map, refl, ap, sym, ◌∙◌, subst, inl, inr}
use Rattle.std.specs.Prelude.{◌==◌}
use Rattle.std.specs.List.{AllByRecursion, list_any}
use Rattle.block_pool.specs.Views.{SealedBytes}
use Rattle.emulated_boards.specs.Boards.{BoardState}
use Rattle.plugin_trait.specs.Steps.{PluginSteps}
use Rattle.update_log.proofs.Lists.{All-append}
use Rattle.update_log.specs.declared.answer.AskAnswer.{AskAnswer}
use Rattle.update_log.specs.declared.answer.ResumeAnswer.{ResumeAnswer}
use Rattle.update_log.specs.declared.event.Event.{Event}
use Rattle.client_plays.specs.Left.{PlayedOrLeft}
use Rattle.client_plays.specs.Moments.{Moment, behind}
use Rattle.client_plays.specs.Plays.{AfterResume, GivesBack, Leaves, ResumePlays, StepsPlay, TaskPlays, ToResume}
use Rattle.client_plays.specs.Scripts.{PlaysAll}
use Rattle.client_plays.specs.Tools.{Means}
use Rattle.shared_daemon.proofs.OthersRows.{advances}
use Rattle.update_log.specs.Known.{Basis}

-- None of these moments asks for another state of the entry's row.
abbrev pub Spares : ℕ → List Moment → Type 0
Spares other moments = AllByRecursion (λ m. advances other m.event ≡ false) moments

pub all-parts : {X : Type 0} (P : X → Type 0) (xs ys : List X) → AllByRecursion P (xs ++ ys) → AllByRecursion P xs × AllByRecursion P ys
all-parts P [] ys a = (tt, a)
all-parts P (x ∷ xs) ys a = let p = all-parts P xs ys a.1 in ((a.0, p.0), p.1)

pub or-none : (a b : Bool) → (a || b) ≡ false → (a ≡ false) × (b ≡ false)
or-none true b h = cc
or-none false b h = (refl, h)

module _ (entry other : ℕ) (n : (entry == other) ≡ false) where
  steps-spare : (steps : PluginSteps) (client : ℕ) (payload : SealedBytes) (board : BoardState) (moments : List Moment) → StepsPlay steps client entry payload board moments → Spares other moments
  steps-spare steps client payload board [] u = absurd u
  steps-spare steps client payload board (m ∷ []) u = (ap (advances other) u.2 ∙ n, tt)
  steps-spare steps client payload board (m ∷ k ∷ moments) u =
      (ap (advances other) u.1.started_is, (ap (advances other) u.1.ended_is, steps-spare steps client payload u.0 moments u.2))

  after-spares : (basis : Basis) (plugins : ℕ → PluginSteps) (past : List Event) (answer : ResumeAnswer) (moments : List Moment) → AfterResume basis plugins entry past answer moments → Spares other moments
  after-spares basis plugins past ResumeAnswer.Begun moments u = steps-spare (plugins u.place) 0 u.payload u.board moments u.plays
  after-spares basis plugins past (ResumeAnswer.Refused refusal) moments u = subst (Spares other) (sym u) tt

  resume-spares : (basis : Basis) (means : Means) (asked : AskAnswer) (moments : List Moment) → ResumePlays basis means entry asked moments → Spares other moments
  resume-spares basis means asked [] u = absurd u
  resume-spares basis means asked (m ∷ moments) u = (ap (advances other) u.3 ∙ n, after-spares basis means.plugins (behind m) u.1 moments u.5)

  task-spares : (basis : Basis) (means : Means) (moments : List Moment) → TaskPlays basis means (ToResume entry) moments → Spares other moments
  task-spares basis means [] u = absurd u
  task-spares basis means (m ∷ moments) u = (ap (advances other) u.2, resume-spares basis means u.1 moments u.3)

back-spares : (other client : ℕ) (moments : List Moment) → GivesBack client moments → Spares other moments
back-spares other client [] g = tt
back-spares other client (m ∷ []) g = (ap (advances other) g.1, tt)
back-spares other client (m ∷ k ∷ moments) g = absurd g

module _ (other client : ℕ) (Play : List Moment → Type 0) (h : (moments : List Moment) → Play moments → Spares other moments) where
  leaves-spare : (moments : List Moment) → Leaves client Play moments → Spares other moments
  leaves-spare moments l =
      let P : Moment → Type 0 = λ m. advances other m.event ≡ false in
      let front = (all-parts P l.front l.rest (h (l.front ++ l.rest) l.play)).0 in
      subst (Spares other) (sym l.are) (All-append P l.front l.back front (back-spares other client l.back l.gave))

  one-spares : (wanting : Bool) (moments : List Moment) → PlayedOrLeft wanting client Play moments → Spares other moments
  one-spares true moments p = elim p [ inl whole ↦ h moments whole | inr left ↦ leaves-spare moments left.left ]
  one-spares false moments p = h moments p

-- Entries that were resumed leave the row of each other entry alone.
pub all-spare : (basis : Basis) (means : Means) (wanting : Bool) (other : ℕ) (entries : List ℕ) (moments : List Moment) → list_any (λ e. e == other) entries ≡ false
    → PlaysAll wanting 0 (TaskPlays basis means) (map ToResume entries) moments → Spares other moments
all-spare basis means wanting other [] moments n p = subst (Spares other) (sym p) tt
all-spare basis means wanting other (entry ∷ entries) moments n p =
    let q = or-none (entry == other) (list_any (λ e. e == other) entries) n in
    subst (Spares other) (sym p.are)
    (All-append (λ m. advances other m.event ≡ false) p.first p.rest
    (one-spares other 0 (TaskPlays basis means (ToResume entry)) (task-spares entry other q.0 basis means) wanting p.first p.first_is)
    (all-spare basis means wanting other entries p.rest q.1 p.rest_is))
