-- What `plan` prints.
use Rattle.std.specs.Prelude.{ℕ, suc, List, [], ◌∷◌, ◌++◌, length, find, codes}
use Rattle.std.specs.Fmt.{decimal}
use Rattle.std.specs.Option.{option_map_or}
use Rattle.fw_facts.specs.declared.seen.Seen.{Seen}
use Rattle.fw_facts.specs.declared.view.DeviceView.{DeviceView}
use Rattle.history_keeper.specs.declared.row.Row.{Row}
use Rattle.update_log.specs.declared.facts.BootPlan.{BootPlan}
use Rattle.update_log.specs.declared.facts.Facts.{Facts}
use Rattle.update_log.specs.Known.{basis_of, views}
use Rattle.update_plans.specs.Choosing.{version_at}
use Rattle.update_plans.specs.Plans.{has_id}
use Rattle.update_plans.specs.declared.plan.PlanStep.{PlanStep}
use Rattle.campaign_plans.specs.FirstPlans.{first_log, first_steps}

-- the port of the device with that ID
abbrev pub port_of : List DeviceView → List ℕ → List ℕ
port_of views device = option_map_or (λ view. view.sheet.port) (find (has_id device) views) []

-- how many installs there are
unfoldable pub count_line : ℕ → List ℕ
count_line count = codes "plan " ++ decimal count ++ codes "\n"

-- an install: its number, its port and its version
unfoldable pub step_line : ℕ → List ℕ → List ℕ → List ℕ
step_line number port version = codes "  " ++ decimal number ++ codes " " ++ port ++ codes " " ++ version ++ codes "\n"

-- a line for each, numbered on from this number
abbrev pub step_lines : Facts → List DeviceView → ℕ → List PlanStep → List ℕ
step_lines facts views number [] = []
step_lines facts views number (step ∷ steps) =
    step_line number (port_of views step.device) (version_at facts step.release) ++ step_lines facts views (suc number) steps

abbrev pub plan_text : Facts → List DeviceView → List PlanStep → List ℕ
plan_text facts views steps = count_line (length steps) ++ step_lines facts views 1 steps

-- the plan of these boots' first, of boards that show this
abbrev pub plan_output : Facts → List Seen → List BootPlan → List Row → List ℕ → List ℕ
plan_output facts shown boots rows tag = plan_text facts (views (basis_of facts rows) (first_log boots shown)) (first_steps facts shown boots rows tag)
