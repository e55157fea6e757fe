-- The output is its heading, its lines and the verdict, one behind the other.
use Rattle.std.proofs.Common.{◌≡◌, ℕ, List, [], ◌++◌, ap, ◌∙◌, append_assoc}
use Rattle.fw_facts.specs.declared.view.DeviceView.{DeviceView}
use Rattle.update_log.specs.declared.event.Event.{Event}
use Rattle.update_log.specs.declared.facts.Facts.{Facts}
use Rattle.update_log.specs.declared.decision.Decision.{Decision}
use Rattle.update_log.specs.declared.decision.Stage.{Stage}
use Rattle.update_log.specs.declared.request.Request.{Request}
use Rattle.update_log.specs.Known.{basis_of, views}
use Rattle.update_log.specs.Verdicts.{verdict}
use Rattle.command_outputs.specs.Explained.{asked, explained, heading, lines_for, verdict_line}

three_parts : (before first second third one two : List ℕ) → one ≡ before ++ first → two ≡ one ++ second → two ++ third ≡ before ++ (first ++ second ++ third)
three_parts before first second third one two e f =
    ap (λ text. text ++ third) (f ∙ ap (λ text. text ++ second) e ∙ append_assoc before first second)
    ∙ append_assoc before (first ++ second) third

pub explained_whole : (facts : Facts) (past : List Event) (port version : List ℕ) (request : Request) (shown : List DeviceView) (decision : Decision) (before one two : List ℕ)
    → request ≡ asked port version → shown ≡ views (basis_of facts []) past → decision ≡ verdict (basis_of facts []) past 1 request Stage.Ask
    → one ≡ before ++ heading port version → two ≡ one ++ lines_for facts shown request
    → two ++ verdict_line decision ≡ before ++ explained facts past port version
explained_whole facts past port version request shown decision before one two r s d e f =
    ap (λ it. two ++ verdict_line it) (d ∙ ap (λ it. verdict (basis_of facts []) past 1 it Stage.Ask) r)
    ∙ three_parts before (heading port version) (lines_for facts (views (basis_of facts []) past) (asked port version)) (verdict_line (verdict (basis_of facts []) past 1 (asked port version) Stage.Ask)) one two e
    (f ∙ ap (λ it. one ++ lines_for facts it request) s ∙ ap (λ it. one ++ lines_for facts (views (basis_of facts []) past) it) r)
