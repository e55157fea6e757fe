use Rattle.request_verdicts.specs.Cases.{target_with}
use Rattle.log_stories.specs.Plain.{case_over}
use Rattle.request_verdicts.proofs.Refusals.{by-row, by-device, by-version, by-rule, by-room}
use Rattle.log_stories.proofs.plain.refusal.Goals as goal

pub returns-in-Some : goal.returns-in-Some
returns-in-Some c =
    by-row (case_over c.args.case.now.facts.now c.args.case.now.views.now c.args.case.now.rows.now c.args.case.now.log.now c.args.case.now.client c.args.case.now.request.now c.args.case.now.stage)
    (target_with c.args.target.now.place c.args.target.now.view.now c.args.target.now.at c.args.target.now.component.now c.args.target.now.release.now) c.in-Some.refusal c.in-Some.ensures

pub returns-in-Some-of_device : goal.returns-in-Some-of_device
returns-in-Some-of_device c =
    by-device (case_over c.args.case.now.facts.now c.args.case.now.views.now c.args.case.now.rows.now c.args.case.now.log.now c.args.case.now.client c.args.case.now.request.now c.args.case.now.stage)
    (target_with c.args.target.now.place c.args.target.now.view.now c.args.target.now.at c.args.target.now.component.now c.args.target.now.release.now) c.in-Some-of_device.refusal c.in_default.ensures c.in-Some-of_device.ensures

pub returns-in-Some-of_versions : goal.returns-in-Some-of_versions
returns-in-Some-of_versions c =
    by-version (case_over c.args.case.now.facts.now c.args.case.now.views.now c.args.case.now.rows.now c.args.case.now.log.now c.args.case.now.client c.args.case.now.request.now c.args.case.now.stage)
    (target_with c.args.target.now.place c.args.target.now.view.now c.args.target.now.at c.args.target.now.component.now c.args.target.now.release.now) c.in-Some-of_versions.refusal c.in_default.ensures c.in_default-of_device.ensures c.in-Some-of_versions.ensures

pub returns-in-Some-of_rules : goal.returns-in-Some-of_rules
returns-in-Some-of_rules c =
    by-rule (case_over c.args.case.now.facts.now c.args.case.now.views.now c.args.case.now.rows.now c.args.case.now.log.now c.args.case.now.client c.args.case.now.request.now c.args.case.now.stage)
    (target_with c.args.target.now.place c.args.target.now.view.now c.args.target.now.at c.args.target.now.component.now c.args.target.now.release.now) c.in-Some-of_rules.refusal c.in_default.ensures c.in_default-of_device.ensures c.in_default-of_versions.ensures c.in-Some-of_rules.ensures

pub returns : goal.returns
returns c =
    by-room (case_over c.args.case.now.facts.now c.args.case.now.views.now c.args.case.now.rows.now c.args.case.now.log.now c.args.case.now.client c.args.case.now.request.now c.args.case.now.stage)
    (target_with c.args.target.now.place c.args.target.now.view.now c.args.target.now.at c.args.target.now.component.now c.args.target.now.release.now) c.of_room.result c.in_default.ensures c.in_default-of_device.ensures c.in_default-of_versions.ensures c.in_default-of_rules.ensures c.of_room.ensures
