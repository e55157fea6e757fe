use Rattle.plugin_trait.proofs.BoardSteps.{program_is_written}
use Rattle.plugin_tests.proofs.claims.BenchPlugin.write.Goals as goal

pub returns-clause-rules : goal.returns-clause-rules
returns-clause-rules c = program_is_written _ _ _ _ _ c.program.ensures
