use Rattle.update_log.proofs.Worked.{needs-reboot, needs-bootloader, in-doubt, shared-id, are-refused, are-tried-again}
use Rattle.update_log.proofs.examples.worked_answers.Goals as goal

pub returns : goal.returns
returns c =
    record { needs_reboot = needs-reboot; needs_bootloader = needs-bootloader; in_doubt = in-doubt; shared_id = shared-id; refused = are-refused; tried_again = are-tried-again }
