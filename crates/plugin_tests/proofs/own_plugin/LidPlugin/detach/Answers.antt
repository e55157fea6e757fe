use Rattle.plugin_trait.proofs.BoardSteps.{enter_is_detached}
use Rattle.plugin_tests.proofs.own_plugin.LidPlugin.detach.Goals as goal

pub returns-clause-rules : goal.returns-clause-rules
returns-clause-rules c = enter_is_detached _ _ _ c.enter_loader.ensures
