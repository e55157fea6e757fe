-- A decision over the rows, the devices and the log of a state is the verdict over the log.
use Rattle.std.proofs.Common.{◌≡◌, ℕ, List, ap, ◌∙◌}
use Rattle.fw_facts.specs.declared.view.DeviceView.{DeviceView}
use Rattle.history_keeper.specs.declared.row.Row.{Row}
use Rattle.core_state.specs.Core.{Core, Stands}
use Rattle.update_log.specs.Known.{Basis, rows, views}
use Rattle.update_log.specs.Pasts.{past_of}
use Rattle.update_log.specs.Verdicts.{decided, verdict}
use Rattle.update_log.specs.declared.decision.Stage.{Stage}
use Rattle.update_log.specs.declared.event.Event.{Event}
use Rattle.update_log.specs.declared.request.Request.{Request}
use Rattle.log_stories.specs.Plain.{case_over}

pub plain-verdict : (basis : Basis) (core : Core) (vs : List DeviceView) (rs : List Row) (log : List Event) (client : ℕ) (request : Request) (stage : Stage)
    → vs ≡ core.views → rs ≡ core.rows → log ≡ core.log → Stands basis core
    → decided (case_over basis.facts vs rs log client request stage) ≡ verdict basis (past_of core.log) client request stage
plain-verdict basis core vs rs log client request stage v r l s =
    ap (λ (x : List DeviceView). decided (case_over basis.facts x rs log client request stage)) (v ∙ s.views)
    ∙ ap (λ (x : List Row). decided (case_over basis.facts (views basis (past_of core.log)) x log client request stage)) (r ∙ s.rows)
    ∙ ap (λ (x : List Event). decided (case_over basis.facts (views basis (past_of core.log)) (rows basis (past_of core.log)) x client request stage)) l
