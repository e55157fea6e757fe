use Rattle.plugin_trait.proofs.BoardSteps.{leave_is_attached}
use Rattle.plugin_tests.proofs.own_plugin.LidPlugin.attach.Goals as goal

pub returns-clause-rules : goal.returns-clause-rules
returns-clause-rules c = leave_is_attached _ _ _ c.leave_loader.ensures
