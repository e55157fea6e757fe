use Rattle.std.proofs.Common.{◌∙◌}
use Rattle.core_state.proofs.Starts.{stands-first}
use Rattle.core_state.proofs.state.CoreState.new.Goals as goal

pub returns-clause-stands : goal.returns-clause-stands
returns-clause-stands c =
    stands-first c.args.facts.now c.of_devices.result c.of_devices.ensures.log c.of_devices.ensures.rows c.of_devices.ensures.traces c.of_devices.ensures.doubt
    (c.of_devices.ensures.views ∙ c.in_ok-devices.ensures.devices) (c.of_devices.ensures.boards ∙ c.in_ok-devices.ensures.boards)
