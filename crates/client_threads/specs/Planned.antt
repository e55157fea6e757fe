-- Boots by their plans.
use Rattle.std.specs.Prelude.{◌≡◌, ℕ, IsTrue, List, [], ◌∷◌, Option, Some, slice_get, if◌then◌else◌}
use Rattle.fw_facts.specs.Views.{is_home}
use Rattle.update_log.specs.declared.event.Event.{Event}
use Rattle.update_log.specs.declared.event.BoardSeen.{BoardSeen}
use Rattle.update_log.specs.declared.facts.BootPlan.{BootPlan}
use Rattle.update_log.specs.Legal.{is_absent, is_gone}
use Rattle.update_log.specs.Pasts.{boots}

-- A boot has a plan's time and limit, and lists its absent boards as gone, and the others as home.
pub record IsPlanned (plan : BootPlan) (time : ℕ) (limit : Option ℕ) (boards : List BoardSeen) : Type 0 where
  pub time_is : time ≡ plan.time
  pub limit_is : limit ≡ plan.limit
  pub presence : (board : ℕ) (b : BoardSeen) → slice_get boards board ≡ Some b → IsTrue (if is_absent plan board then is_gone b.seen else is_home b.seen)

-- The boots of a past are those of the plans, in order.
abbrev pub BootsPlanned : List BootPlan → List Event → Type 0
BootsPlanned plans [] = Unit {0}
BootsPlanned plans (Event.Boot number time limit found boards ∷ past) =
    ((plan : BootPlan) × (slice_get plans (boots past) ≡ Some plan) × IsPlanned plan time limit boards) × BootsPlanned plans past
BootsPlanned plans (_ ∷ past) = BootsPlanned plans past
