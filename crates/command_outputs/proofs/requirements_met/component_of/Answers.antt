use Rattle.update_log.proofs.Placed.{component-within}
use Rattle.command_outputs.proofs.Components.{component_chosen}
use Rattle.command_outputs.proofs.requirements_met.component_of.Goals as goal

pub component-requires : goal.component-requires
component-requires c = component-within c.args.catalogue.now c.args.guids.now c.args.version.now c.in-Some.at c.in-Some.ensures

pub returns-in-Some : goal.returns-in-Some
returns-in-Some c = component_chosen c.args.catalogue.now c.args.guids.now c.args.version.now c.in-Some.at c.component.result.now c.in-Some.ensures c.component.ensures
