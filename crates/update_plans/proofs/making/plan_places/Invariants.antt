use Rattle.std.proofs.Common.{◌≡◌, ◌≤◌, length, map, take}
use Rattle.core_state.specs.Core.{Stands}
use Rattle.update_log.specs.Pasts.{past_of}
use Rattle.update_log.specs.Known.{basis_of}
use Rattle.update_plans.specs.Following.{IsQuiet}
use Rattle.update_plans.specs.Plans.{Scene, after, chains, device_at, scene}
use Rattle.update_plans.proofs.making.plan_places.Given as goal

abbrev pub ghost-plan_device : goal.ghost-plan_device
ghost-plan_device g a = g.opening

abbrev pub invariant-loop-at : goal.invariant-loop-at
invariant-loop-at g l =
    let s : Scene = scene (basis_of l.asker.facts.now g.opening) l.asker.client l.asker.tag.now in
    let before = past_of l.fn.state.log in
    record {
      steps_are : l.steps.items ≡ chains s (map (device_at l.fn.state.views) (take l.at-index l.places)) 8192 1 before;
      past_is : past_of l.state.log ≡ after s 1 l.steps.items before;
      few : length l.steps.items ≤ 8192;
      stands : Stands (basis_of l.asker.facts.now g.opening) l.state;
      quiet : IsQuiet s (past_of l.state.log);
    }
