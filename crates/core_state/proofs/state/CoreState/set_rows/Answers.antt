use Rattle.core_state.proofs.CoreOpenings.{opened-again}
use Rattle.core_state.proofs.state.CoreState.set_rows.Goals as goal

pub returns-clause-stands : goal.returns-clause-stands
returns-clause-stands c = λ facts before s. opened-again facts before _ _ _ _ c.put_rows.ensures c.requires.history c.requires.faults s
