use Rattle.fwupd_service.proofs.ReportLaws.{keeper_fault, keeper_quiet, no_source, sink_fault, sink_quiet}
use Rattle.fwupd_service.proofs.report.report.Goals as goal

pub returns-clause-told : goal.returns-clause-told
returns-clause-told g c after told =
    let b = c.report_history-reported.ensures.reports after told in (
      b.0,
      b.1,
      record {
        end = c.report_history-reported.result.end;
        status_is = c.report_status.ensures;
        reports = b.2;
        read = c.report_history-reported.ensures.read;
      },
    )

pub returns-clause-fault_told : goal.returns-clause-fault_told
returns-clause-fault_told g c = record {
  cause = keeper_fault _ _ _ _ c.report_status.ensures c.report_history-reported.ensures.history_fault c.report_history-reported.ensures.mark_fault;
  quiet = keeper_quiet _ _ _ _ c.report_status.ensures c.report_history-reported.ensures.history_quiet c.report_history-reported.ensures.mark_quiet;
}

pub returns-clause-sink_fault : goal.returns-clause-sink_fault
returns-clause-sink_fault g c = sink_fault _ _ _ c.report_status.ensures c.report_history-reported.ensures.sink_fault

pub returns-clause-sink_quiet : goal.returns-clause-sink_quiet
returns-clause-sink_quiet g c = sink_quiet _ _ _ c.report_status.ensures c.report_history-reported.ensures.sink_quiet

pub returns-clause-no_source : goal.returns-clause-no_source
returns-clause-no_source g c = no_source _ _ c.report_status.ensures
