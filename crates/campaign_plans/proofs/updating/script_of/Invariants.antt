use Rattle.std.proofs.Common.{◌≡◌, [], take}
use Rattle.update_plans.specs.Plans.{scene}
use Rattle.campaign_plans.specs.Updating.{installs_from}
use Rattle.campaign_plans.proofs.updating.script_of.Given as goal
use Rattle.update_log.specs.Known.{basis_of}

abbrev pub invariant-loop-index : goal.invariant-loop-index
invariant-loop-index l = l.items.items ≡ installs_from (scene (basis_of l.facts []) 1 l.plan.tag) 1 (take l.index l.plan.steps)
