use Rattle.std.proofs.Common.{Err, ap, sym, ◌∙◌}
use Rattle.document_commands.proofs.ExplainsSo.{ends_printed, ends_stopped, no_sink_told, of_any, source_told}
use Rattle.document_commands.proofs.explained.explain.Goals as goal

pub told_stop-requires : goal.told_stop-requires
told_stop-requires g c = of_any _ c.in-Err.stop _ _ c.in-Err.ensures.stopped

pub returns-in-Ok-clause-ends : goal.returns-in-Ok-clause-ends
returns-in-Ok-clause-ends g c =
    ends_printed _ _ c.args.port c.args.version c.print.result c.in-Ok.ready.campaign _ _ _ _ c.in-Ok.ensures.opened c.print.ensures.printed

pub returns-in-Err-clause-ends : goal.returns-in-Err-clause-ends
returns-in-Err-clause-ends g c = rw c.told_stop.ensures (ends_stopped _ _ c.args.port c.args.version c.in-Err.stop _ _ _ c.in-Err.ensures.stopped)

pub returns-in-Err-clause-source_fault : goal.returns-in-Err-clause-source_fault
returns-in-Err-clause-source_fault g c = λ e. c.in-Err.ensures.fault (ap Err (source_told c.in-Err.stop (sym c.told_stop.ensures ∙ e)))

pub returns-in-Err-clause-sink_fault : goal.returns-in-Err-clause-sink_fault
returns-in-Err-clause-sink_fault g c = λ e. absurd (no_sink_told c.in-Err.stop (sym c.told_stop.ensures ∙ e))
