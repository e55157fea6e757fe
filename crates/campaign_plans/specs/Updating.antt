-- What `update` plays: the first boot alone, with the planned installs as the one script of client 1.
use Rattle.std.specs.Prelude.{◌≡◌, ℕ, ◌+◌, List, [], ◌∷◌, ◌++◌}
use Rattle.std.specs.Option.{option_map_or}
use Rattle.update_log.specs.declared.facts.BootPlan.{BootPlan}
use Rattle.client_scripts.specs.declared.item.Item.{Item}
use Rattle.update_plans.specs.Plans.{Scene, release_at, request_of}
use Rattle.update_plans.specs.declared.plan.PlanStep.{PlanStep}
use Rattle.site_types.specs.declared.campaign.Campaign.{Campaign}

-- the install of a step
abbrev pub install_of : Scene → ℕ → PlanStep → List Item
install_of s number step = option_map_or (λ chosen. Item.Install (request_of s number step chosen) ∷ []) (release_at s step.release) []

-- the installs of steps that are numbered on from this number
abbrev pub installs_from : Scene → ℕ → List PlanStep → List Item
installs_from s number [] = []
installs_from s number (step ∷ steps) = install_of s number step ++ installs_from s (number + 1) steps

-- the first boot alone, and one script for it
abbrev pub first_alone : List BootPlan → List BootPlan
first_alone [] = []
first_alone (boot ∷ boots) = boot ∷ []

abbrev pub one_script : List BootPlan → List Item → List (List (List Item))
one_script [] items = []
one_script (boot ∷ boots) items = (items ∷ []) ∷ []

-- The campaign with that boot and that script alone; all else is as it was.
pub record Plays (items : List Item) (old new : Campaign) : Type 0 where
  pub facts : new.facts ≡ old.facts
  pub boards : new.boards.items ≡ old.boards.items
  pub boots : new.boots ≡ first_alone old.boots
  pub scripts : new.scripts ≡ one_script old.boots items
