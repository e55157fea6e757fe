use Rattle.plugin_trait.proofs.BoardSteps.{look_is_plain}
use Rattle.plugin_tests.proofs.own_plugin.LidPlugin.prepare.Goals as goal

pub returns-clause-rules : goal.returns-clause-rules
returns-clause-rules c = look_is_plain _ _ _ c.look.ensures
