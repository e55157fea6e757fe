use Rattle.std.proofs.Common.{Err, ap, sym, ◌∙◌}
use Rattle.document_commands.specs.Ends.{remotes_told}
use Rattle.document_commands.proofs.EndsSo.{ends_printed, ends_told, no_sink_told, source_told}
use Rattle.document_commands.proofs.told_remotes.remotes.Goals as goal

pub returns-in-Ok-clause-ends : goal.returns-in-Ok-clause-ends
returns-in-Ok-clause-ends g c =
    ends_printed remotes_told c.print.result c.in-Ok.site _ _ _ _ c.in-Ok.ensures.heard c.print.ensures.printed

pub returns-in-Err-clause-ends : goal.returns-in-Err-clause-ends
returns-in-Err-clause-ends g c = rw c.told_input.ensures (ends_told remotes_told c.in-Err.stop _ _ _ c.in-Err.ensures.heard)

pub returns-in-Err-clause-source_fault : goal.returns-in-Err-clause-source_fault
returns-in-Err-clause-source_fault g c = λ e. c.in-Err.ensures.fault (ap Err (source_told c.in-Err.stop (sym c.told_input.ensures ∙ e)))

pub returns-in-Err-clause-sink_fault : goal.returns-in-Err-clause-sink_fault
returns-in-Err-clause-sink_fault g c = λ e. absurd (no_sink_told c.in-Err.stop (sym c.told_input.ensures ∙ e))
