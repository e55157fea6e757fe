use Rattle.std.proofs.Common.{◌≡◌, ◌+◌, [], drop}
use Rattle.core_state.specs.Core.{Stands}
use Rattle.update_log.specs.Pasts.{past_of}
use Rattle.update_log.specs.Known.{basis_of}
use Rattle.update_plans.specs.Following.{IsQuiet}
use Rattle.update_plans.specs.Plans.{Scene, first_bad, scene}
use Rattle.update_plans.proofs.making.check_all.Given as goal

abbrev pub ghost-install : goal.ghost-install
ghost-install g a = record { opening = g.opening; number = a.number; before = past_of a.state.now.log; gone = [] }

abbrev pub invariant-loop-index : goal.invariant-loop-index
invariant-loop-index g l =
    let s : Scene = scene (basis_of l.asker.facts.now g.opening) l.asker.client l.asker.tag.now in
    record {
      so_far : first_bad s (l.index + 1) (drop l.index l.steps) (past_of l.state.log) ≡ first_bad s 1 l.steps (past_of l.fn.state.log);
      stands : Stands (basis_of l.asker.facts.now g.opening) l.state;
      quiet : IsQuiet s (past_of l.state.log);
    }
