use Rattle.std.proofs.Common.{inl, sym, ◌∙◌}
use Rattle.report_queue.specs.declared.reporting.ReportEnd.TheVariants as ends
use Rattle.report_queue.proofs.Ends.{rows_over, untouched_over}
use Rattle.report_queue.proofs.reporting.report_history.Goals as goal

pub returns-in-Err-Fault-clause-reports : goal.returns-in-Err-Fault-clause-reports
returns-in-Err-Fault-clause-reports g c =
    rw c.nothing.ensures.end
    (untouched_over (g.M.MarkKeeper.tells c.args.marks.now) (g.M.MarkKeeper.doubt c.args.marks.now) (g.T.Sink.taken c.args.out.now) c.nothing.result.opening c.args.max ends.HistoryFault (λ old new same. same))

pub returns-in-Err-NoMemory-clause-reports : goal.returns-in-Err-NoMemory-clause-reports
returns-in-Err-NoMemory-clause-reports g c =
    rw c.nothing-in-Err-NoMemory.ensures.end
    (untouched_over (g.M.MarkKeeper.tells c.args.marks.now) (g.M.MarkKeeper.doubt c.args.marks.now) (g.T.Sink.taken c.args.out.now) c.nothing-in-Err-NoMemory.result.opening c.args.max ends.NoMemory (λ old new same. inl same))

pub returns-clause-reports : goal.returns-clause-reports
returns-clause-reports g c = rows_over _ _ _ _ _ _ c.args.max c.report_rows-end.result _ _ (c.of.ensures ∙ sym c.deref.ensures.value) c.report_rows-end.ensures.reports
