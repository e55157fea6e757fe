use Rattle.std.proofs.Common.{inl}
use Rattle.report_queue.specs.declared.reporting.ReportEnd.TheVariants as ends
use Rattle.report_queue.proofs.Ends.{reported_over, untouched_over}
use Rattle.report_queue.proofs.reporting.report_rows.Goals as goal

pub returns-in-Ok-None-clause-reports : goal.returns-in-Ok-None-clause-reports
returns-in-Ok-None-clause-reports g c =
    reported_over _ _ _ _ _ _ c.args.rows.now c.args.max c.send_reports.result c.end_of.result c.end_of.ensures (rw c.in-Ok-None.field-0-is at c.in-Ok-None.ensures.found) c.send_reports.ensures.sends

pub returns-in-Ok-Some-clause-reports : goal.returns-in-Ok-Some-clause-reports
returns-in-Ok-Some-clause-reports g c =
    untouched_over (g.M.MarkKeeper.tells c.args.marks.now) (g.M.MarkKeeper.doubt c.args.marks.now) (g.T.Sink.taken c.args.out.now) c.args.rows.now c.args.max (ends.BadHistory c.in-Ok-Some.at)
    (λ old new same. (rw c.in-Ok-Some.field-0-is at c.in-Ok-Some.ensures.found, same))

pub returns-in-Err-clause-reports : goal.returns-in-Err-clause-reports
returns-in-Err-clause-reports g c =
    untouched_over (g.M.MarkKeeper.tells c.args.marks.now) (g.M.MarkKeeper.doubt c.args.marks.now) (g.T.Sink.taken c.args.out.now) c.args.rows.now c.args.max ends.NoMemory (λ old new same. inl same)
