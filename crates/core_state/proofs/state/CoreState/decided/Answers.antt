use Rattle.request_verdicts.proofs.FewRequirements.{few-each}
use Rattle.core_state.proofs.state.CoreState.decided.Goals as goal

pub decided-requires-clause-few : goal.decided-requires-clause-few
decided-requires-clause-few c = few-each c.args.facts.now.catalogue c.within_limits.ensures.few_requirements
