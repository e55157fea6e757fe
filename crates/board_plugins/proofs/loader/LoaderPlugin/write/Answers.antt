use Rattle.plugin_trait.proofs.BoardSteps.{program_is_written}
use Rattle.board_plugins.proofs.loader.LoaderPlugin.write.Goals as goal

pub returns-clause-rules : goal.returns-clause-rules
returns-clause-rules c = program_is_written _ _ _ _ _ c.program.ensures
