use Rattle.std.proofs.Common.{◌≡◌, List, drop}
use Rattle.history_keeper.specs.declared.row.Row.{Row}
use Rattle.core_state.specs.Core.{Stands}
use Rattle.update_log.specs.Pasts.{past_of}
use Rattle.update_log.specs.Known.{basis_of}
use Rattle.update_plans.specs.Choosing.{tried}
use Rattle.update_plans.specs.Following.{IsQuiet}
use Rattle.update_plans.specs.Plans.{scene}
use Rattle.update_plans.proofs.making.first_good.Given as goal

abbrev pub invariant-loop-index : goal.invariant-loop-index
invariant-loop-index l =
    (opening : List Row) → Stands (basis_of l.asker.facts.now opening) l.state → IsQuiet (scene (basis_of l.asker.facts.now opening) l.asker.client l.asker.tag.now) (past_of l.state.log)
    → tried (scene (basis_of l.asker.facts.now opening) l.asker.client l.asker.tag.now) l.number l.view l.shown (past_of l.state.log) (drop l.index l.releases)
    ≡ tried (scene (basis_of l.asker.facts.now opening) l.asker.client l.asker.tag.now) l.number l.view l.shown (past_of l.state.log) l.releases
