use Rattle.std.proofs.Common.{◌≡◌, ◌+◌, ◌-◌, ◌++◌}
use Rattle.std.specs.Prelude.{IfSome, length, slice_get}
use Rattle.fw_facts.specs.Views.{guids_of}
use Rattle.core_state.specs.Core.{Stands}
use Rattle.update_log.specs.Pasts.{past_of}
use Rattle.update_log.specs.Known.{basis_of}
use Rattle.update_plans.specs.Choosing.{IsHighestFirst}
use Rattle.update_plans.specs.Following.{IsQuiet}
use Rattle.update_plans.specs.Plans.{Scene, after, chain, device_at, scene}
use Rattle.update_plans.proofs.Chained.{Goes}
use Rattle.update_plans.proofs.making.plan_device.Given as goal

abbrev pub ghost-take_step : goal.ghost-take_step
ghost-take_step g a = g.opening

abbrev pub invariant-loop-taken : goal.invariant-loop-taken
invariant-loop-taken g l =
    let s : Scene = scene (basis_of l.asker.facts.now g.opening) l.asker.client l.asker.tag.now in
    let device = device_at l.fn.state.views l.at in
    let own = chain s device (8192 - length l.fn.steps.items) (length l.fn.steps.items + 1) (past_of l.fn.state.log) in
    record {
      goes : Goes s device l.steps.items (l.fn.steps.items ++ own) (past_of l.state.log) (after s (length l.fn.steps.items + 1) own (past_of l.fn.state.log));
      taken : length l.steps.items ≡ l.taken;
      stands : Stands (basis_of l.asker.facts.now g.opening) l.state;
      quiet : IsQuiet s (past_of l.state.log);
      sorted : IfSome (slice_get l.state.views l.at) (λ view. IsHighestFirst l.asker.facts.now (guids_of view) l.releases.items);
    }
