use Rattle.plugin_trait.proofs.BoardSteps.{stage_is_written}
use Rattle.plugin_tests.proofs.own_plugin.LidPlugin.write.Goals as goal

pub returns-clause-rules : goal.returns-clause-rules
returns-clause-rules c = stage_is_written _ _ _ _ _ c.stage.ensures
