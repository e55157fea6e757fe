use Rattle.std.proofs.Common.{None, Some, inl, refl, subst}
use Rattle.fwupd_service.specs.Commands.{CommandFits}
use Rattle.fwupd_service.proofs.TopLaws.{keeps-same, marks-same, stay-same}
use Rattle.fwupd_service.proofs.top.obey.Goals as goal

-- ---- the shelves

pub returns-in-Run-clause-shelves : goal.returns-in-Run-clause-shelves
returns-in-Run-clause-shelves g c = rw c.with_marks.ensures c.run.ensures.shelves

pub returns-in-Make-clause-shelves : goal.returns-in-Make-clause-shelves
returns-in-Make-clause-shelves g c = rw (c.with_marks-in-Make.ensures, c.make.ensures.shelves) (stay-same _)

pub returns-in-Plan-clause-shelves : goal.returns-in-Plan-clause-shelves
returns-in-Plan-clause-shelves g c = rw (c.with_marks-in-Plan.ensures, c.plan.ensures.shelves) (stay-same _)

pub returns-in-Update-clause-shelves : goal.returns-in-Update-clause-shelves
returns-in-Update-clause-shelves g c = rw c.with_marks-in-Update.ensures c.update.ensures.shelves

pub returns-in-Check-clause-shelves : goal.returns-in-Check-clause-shelves
returns-in-Check-clause-shelves g c = rw (c.with_marks-in-Check.ensures, c.run_check.ensures.shelves) (stay-same _)

pub returns-in-Remotes-clause-shelves : goal.returns-in-Remotes-clause-shelves
returns-in-Remotes-clause-shelves g c = rw (c.with_marks-in-Remotes.ensures, c.run_remotes.ensures.shelves) (stay-same _)

pub returns-in-Explain-clause-shelves : goal.returns-in-Explain-clause-shelves
returns-in-Explain-clause-shelves g c = rw (c.with_marks-in-Explain.ensures, c.run_explain.ensures.shelves) (stay-same _)

pub returns-in-Ids-clause-shelves : goal.returns-in-Ids-clause-shelves
returns-in-Ids-clause-shelves g c = rw (c.with_marks-in-Ids.ensures, c.run_ids.ensures.shelves) (stay-same _)

pub returns-in-Report-clause-shelves : goal.returns-in-Report-clause-shelves
returns-in-Report-clause-shelves g c = rw c.report.ensures.shelves (stay-same _)

pub returns-in-Run-clause-own_shelves : goal.returns-in-Run-clause-own_shelves
returns-in-Run-clause-own_shelves g c = rw c.in-Run.is tt

pub returns-in-Make-clause-own_shelves : goal.returns-in-Make-clause-own_shelves
returns-in-Make-clause-own_shelves g c = rw c.with_marks-in-Make.ensures (keeps-same (Some c.args.command.now) _ _ c.make.ensures.shelves)

pub returns-in-Plan-clause-own_shelves : goal.returns-in-Plan-clause-own_shelves
returns-in-Plan-clause-own_shelves g c = rw c.with_marks-in-Plan.ensures (keeps-same (Some c.args.command.now) _ _ c.plan.ensures.shelves)

pub returns-in-Update-clause-own_shelves : goal.returns-in-Update-clause-own_shelves
returns-in-Update-clause-own_shelves g c = rw c.in-Update.is tt

pub returns-in-Check-clause-own_shelves : goal.returns-in-Check-clause-own_shelves
returns-in-Check-clause-own_shelves g c = rw c.with_marks-in-Check.ensures (keeps-same (Some c.args.command.now) _ _ c.run_check.ensures.shelves)

pub returns-in-Remotes-clause-own_shelves : goal.returns-in-Remotes-clause-own_shelves
returns-in-Remotes-clause-own_shelves g c = rw c.with_marks-in-Remotes.ensures (keeps-same (Some c.args.command.now) _ _ c.run_remotes.ensures.shelves)

pub returns-in-Explain-clause-own_shelves : goal.returns-in-Explain-clause-own_shelves
returns-in-Explain-clause-own_shelves g c = rw c.with_marks-in-Explain.ensures (keeps-same (Some c.args.command.now) _ _ c.run_explain.ensures.shelves)

pub returns-in-Ids-clause-own_shelves : goal.returns-in-Ids-clause-own_shelves
returns-in-Ids-clause-own_shelves g c = rw c.with_marks-in-Ids.ensures (keeps-same (Some c.args.command.now) _ _ c.run_ids.ensures.shelves)

pub returns-in-Report-clause-own_shelves : goal.returns-in-Report-clause-own_shelves
returns-in-Report-clause-own_shelves g c = keeps-same (Some c.args.command.now) _ _ c.report.ensures.shelves

-- ---- what each command comes to

pub returns-in-Run-clause-ends : goal.returns-in-Run-clause-ends
returns-in-Run-clause-ends g c = rw (c.in-Run.is, c.with_marks.ensures) c.run.ensures.ends

pub returns-in-Make-clause-ends : goal.returns-in-Make-clause-ends
returns-in-Make-clause-ends g c = rw (c.in-Make.is, c.with_marks-in-Make.ensures) (refl, c.make.ensures.ends)

pub returns-in-Plan-clause-ends : goal.returns-in-Plan-clause-ends
returns-in-Plan-clause-ends g c = rw (c.in-Plan.is, c.with_marks-in-Plan.ensures) c.plan.ensures.ends

pub returns-in-Update-clause-ends : goal.returns-in-Update-clause-ends
returns-in-Update-clause-ends g c = rw (c.in-Update.is, c.with_marks-in-Update.ensures) c.update.ensures.ends

pub returns-in-Check-clause-ends : goal.returns-in-Check-clause-ends
returns-in-Check-clause-ends g c = rw (c.in-Check.is, c.with_marks-in-Check.ensures) c.run_check.ensures.ends

pub returns-in-Remotes-clause-ends : goal.returns-in-Remotes-clause-ends
returns-in-Remotes-clause-ends g c = rw (c.in-Remotes.is, c.with_marks-in-Remotes.ensures) c.run_remotes.ensures.ends

pub returns-in-Explain-clause-ends : goal.returns-in-Explain-clause-ends
returns-in-Explain-clause-ends g c = rw (c.in-Explain.is, c.with_marks-in-Explain.ensures) c.run_explain.ensures.ends

pub returns-in-Ids-clause-ends : goal.returns-in-Ids-clause-ends
returns-in-Ids-clause-ends g c = rw (c.in-Ids.is, c.with_marks-in-Ids.ensures) (record { unread = refl; written = rw c.items.ensures at c.run_ids.ensures.written; nothing = c.run_ids.ensures.nothing })

pub returns-in-Report-clause-ends : goal.returns-in-Report-clause-ends
returns-in-Report-clause-ends g c = rw c.in-Report.is (record { unread = refl; log = c.report.ensures.log; boards = c.report.ensures.boards; rows_stay = c.report.ensures.rows_stay })

-- ---- the marks

pub returns-in-Run-clause-own_marks : goal.returns-in-Run-clause-own_marks
returns-in-Run-clause-own_marks g c = rw c.with_marks.ensures (marks-same (Some c.args.command.now) _ _ refl)

pub returns-in-Run-clause-marks_told : goal.returns-in-Run-clause-marks_told
returns-in-Run-clause-marks_told g c = rw c.in-Run.is (λ after told. (None, tt, tt))

pub returns-in-Make-clause-own_marks : goal.returns-in-Make-clause-own_marks
returns-in-Make-clause-own_marks g c = rw c.with_marks-in-Make.ensures (marks-same (Some c.args.command.now) _ _ refl)

pub returns-in-Make-clause-marks_told : goal.returns-in-Make-clause-marks_told
returns-in-Make-clause-marks_told g c = rw c.in-Make.is (λ after told. (None, tt, tt))

pub returns-in-Plan-clause-own_marks : goal.returns-in-Plan-clause-own_marks
returns-in-Plan-clause-own_marks g c = rw c.with_marks-in-Plan.ensures (marks-same (Some c.args.command.now) _ _ refl)

pub returns-in-Plan-clause-marks_told : goal.returns-in-Plan-clause-marks_told
returns-in-Plan-clause-marks_told g c = rw c.in-Plan.is (λ after told. (None, tt, tt))

pub returns-in-Update-clause-own_marks : goal.returns-in-Update-clause-own_marks
returns-in-Update-clause-own_marks g c = rw c.with_marks-in-Update.ensures (marks-same (Some c.args.command.now) _ _ refl)

pub returns-in-Update-clause-marks_told : goal.returns-in-Update-clause-marks_told
returns-in-Update-clause-marks_told g c = rw c.in-Update.is (λ after told. (None, tt, tt))

pub returns-in-Check-clause-own_marks : goal.returns-in-Check-clause-own_marks
returns-in-Check-clause-own_marks g c = rw c.with_marks-in-Check.ensures (marks-same (Some c.args.command.now) _ _ refl)

pub returns-in-Check-clause-marks_told : goal.returns-in-Check-clause-marks_told
returns-in-Check-clause-marks_told g c = rw c.in-Check.is (λ after told. (None, tt, tt))

pub returns-in-Remotes-clause-own_marks : goal.returns-in-Remotes-clause-own_marks
returns-in-Remotes-clause-own_marks g c = rw c.with_marks-in-Remotes.ensures (marks-same (Some c.args.command.now) _ _ refl)

pub returns-in-Remotes-clause-marks_told : goal.returns-in-Remotes-clause-marks_told
returns-in-Remotes-clause-marks_told g c = rw c.in-Remotes.is (λ after told. (None, tt, tt))

pub returns-in-Explain-clause-own_marks : goal.returns-in-Explain-clause-own_marks
returns-in-Explain-clause-own_marks g c = rw c.with_marks-in-Explain.ensures (marks-same (Some c.args.command.now) _ _ refl)

pub returns-in-Explain-clause-marks_told : goal.returns-in-Explain-clause-marks_told
returns-in-Explain-clause-marks_told g c = rw c.in-Explain.is (λ after told. (None, tt, tt))

pub returns-in-Ids-clause-own_marks : goal.returns-in-Ids-clause-own_marks
returns-in-Ids-clause-own_marks g c = rw c.with_marks-in-Ids.ensures (marks-same (Some c.args.command.now) _ _ refl)

pub returns-in-Ids-clause-marks_told : goal.returns-in-Ids-clause-marks_told
returns-in-Ids-clause-marks_told g c = rw c.in-Ids.is (λ after told. (None, tt, tt))

pub returns-in-Report-clause-own_marks : goal.returns-in-Report-clause-own_marks
returns-in-Report-clause-own_marks g c = rw c.in-Report.is tt

pub returns-in-Report-clause-marks_told : goal.returns-in-Report-clause-marks_told
returns-in-Report-clause-marks_told g c = rw c.in-Report.is (λ after told. let b = c.report.ensures.told after told in (b.0, b.1, inl b.2))

-- ---- faults of the keepers under `report`

pub returns-in-Run-clause-fault_told : goal.returns-in-Run-clause-fault_told
returns-in-Run-clause-fault_told g c = rw c.in-Run.is tt

pub returns-in-Make-clause-fault_told : goal.returns-in-Make-clause-fault_told
returns-in-Make-clause-fault_told g c = rw c.in-Make.is tt

pub returns-in-Plan-clause-fault_told : goal.returns-in-Plan-clause-fault_told
returns-in-Plan-clause-fault_told g c = rw c.in-Plan.is tt

pub returns-in-Update-clause-fault_told : goal.returns-in-Update-clause-fault_told
returns-in-Update-clause-fault_told g c = rw c.in-Update.is tt

pub returns-in-Check-clause-fault_told : goal.returns-in-Check-clause-fault_told
returns-in-Check-clause-fault_told g c = rw c.in-Check.is tt

pub returns-in-Remotes-clause-fault_told : goal.returns-in-Remotes-clause-fault_told
returns-in-Remotes-clause-fault_told g c = rw c.in-Remotes.is tt

pub returns-in-Explain-clause-fault_told : goal.returns-in-Explain-clause-fault_told
returns-in-Explain-clause-fault_told g c = rw c.in-Explain.is tt

pub returns-in-Ids-clause-fault_told : goal.returns-in-Ids-clause-fault_told
returns-in-Ids-clause-fault_told g c = rw c.in-Ids.is tt

pub returns-in-Report-clause-fault_told : goal.returns-in-Report-clause-fault_told
returns-in-Report-clause-fault_told g c = rw c.in-Report.is c.report.ensures.fault_told

-- ---- what the calls want

pub plan-requires-clause-tag : goal.plan-requires-clause-tag
plan-requires-clause-tag g c = subst CommandFits c.in-Plan.is c.requires.fits

pub update-requires-clause-tag : goal.update-requires-clause-tag
update-requires-clause-tag g c = λ κs lives. subst CommandFits c.in-Update.is c.requires.fits

-- ---- what `report` doesn't read

pub returns-in-Report-clause-source_fault : goal.returns-in-Report-clause-source_fault
returns-in-Report-clause-source_fault g c = λ e. absurd (c.report.ensures.no_source e)
