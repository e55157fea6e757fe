-- What the end of a report says of the keepers and of the output.
use Rattle.std.proofs.Common.{◌≡◌, ◌⊎◌, refl, sym, ap, ◌∙◌, inl, inr}
use Rattle.report_queue.specs.declared.reporting.ReportEnd.{ReportEnd}
use Rattle.report_queue.specs.declared.reporting.ReportEnd.TheVariants as ends
use Rattle.run_status.specs.declared.status.Status.{Status}
use Rattle.run_status.specs.declared.status.Status.TheVariants as statuses
use Rattle.fwupd_service.specs.Reported.{report_status}

-- A fault of a keeper is one of the history's or one of the marks'.
keeper-of : (A B : Type 0) (end : ReportEnd) → (end ≡ ends.HistoryFault → A) → (end ≡ ends.MarkFault → B) → report_status end ≡ statuses.KeeperFault → A ⊎ B
keeper-of A B ends.HistoryFault a b e = inl (a refl)
keeper-of A B ends.MarkFault a b e = inr (b refl)
keeper-of A B (ends.Done count) a b e = cc
keeper-of A B (ends.BadHistory at) a b e = cc
keeper-of A B ends.SinkFault a b e = cc
keeper-of A B ends.NoMemory a b e = cc

pub keeper_fault : (A B : Type 0) (status : Status) (end : ReportEnd) → status ≡ report_status end → (end ≡ ends.HistoryFault → A) → (end ≡ ends.MarkFault → B) → status ≡ statuses.KeeperFault → A ⊎ B
keeper_fault A B status end s a b e = keeper-of A B end a b (sym s ∙ e)

-- Where none of them failed the status tells none.
pub keeper_quiet : (A B : Type 0) (status : Status) (end : ReportEnd) → status ≡ report_status end → (end ≡ ends.HistoryFault) ⊎ A → (end ≡ ends.MarkFault) ⊎ B → (status ≡ statuses.KeeperFault) ⊎ (A × B)
keeper_quiet A B status end s (inl e) b = inl (s ∙ ap report_status e)
keeper_quiet A B status end s (inr a) (inl e) = inl (s ∙ ap report_status e)
keeper_quiet A B status end s (inr a) (inr b) = inr (a, b)

-- A fault of the output is one.
sink-of : (end : ReportEnd) → report_status end ≡ statuses.SinkFault → end ≡ ends.SinkFault
sink-of ends.SinkFault e = refl
sink-of _ e = cc

pub sink_fault : (A : Type 0) (status : Status) (end : ReportEnd) → status ≡ report_status end → (end ≡ ends.SinkFault → A) → status ≡ statuses.SinkFault → A
sink_fault A status end s a e = a (sink-of end (sym s ∙ e))

pub sink_quiet : (A : Type 0) (status : Status) (end : ReportEnd) → status ≡ report_status end → (end ≡ ends.SinkFault) ⊎ A → (status ≡ statuses.SinkFault) ⊎ A
sink_quiet A status end s (inl e) = inl (s ∙ ap report_status e)
sink_quiet A status end s (inr a) = inr a

-- No input is read.
unread : (end : ReportEnd) → report_status end ≡ statuses.SourceFault → ⊥
unread (ends.Done count) e = cc
unread _ e = cc

pub no_source : (status : Status) (end : ReportEnd) → status ≡ report_status end → status ≡ statuses.SourceFault → ⊥
no_source status end s e = unread end (sym s ∙ e)
