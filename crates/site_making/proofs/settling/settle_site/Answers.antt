use Rattle.std.proofs.Common.{◌≡◌, map, ap, ◌∙◌}
use Rattle.site_types.specs.declared.site.SiteBoard.{SiteBoard}
use Rattle.site_making.specs.Priorities.{priority_of}
use Rattle.site_making.specs.Settled.{settled_sheet}
use Rattle.site_making.proofs.Adding.{adds}
use Rattle.site_making.proofs.SheetLaws.{same_sheets}
use Rattle.site_making.proofs.settling.settle_site.Goals as goal

pub returns-in_err-vetoes-clause-priorities : goal.returns-in_err-vetoes-clause-priorities
returns-in_err-vetoes-clause-priorities g c = λ sheets names are name. adds sheets c.args.arrangement.now names are name

pub returns-in_err-running-clause-priorities : goal.returns-in_err-running-clause-priorities
returns-in_err-running-clause-priorities g c = λ sheets names are name. adds sheets c.args.arrangement.now names are name

pub returns-in_err-sheets-clause-priorities : goal.returns-in_err-sheets-clause-priorities
returns-in_err-sheets-clause-priorities g c = λ sheets names are name. adds sheets c.args.arrangement.now names are name

pub returns-in_err-boards-clause-priorities : goal.returns-in_err-boards-clause-priorities
returns-in_err-boards-clause-priorities g c = λ sheets names are name. adds sheets c.args.arrangement.now names are name

pub returns-clause-sheets : goal.returns-clause-sheets
returns-clause-sheets g c =
    let here : c.items.result.now ≡ c.args.site.boards = c.items.ensures in
    same_sheets c.args.site _ _ _ _ c.of-3.result c.in_ok-running.ensures.names c.in_ok-running.ensures.priorities
    (c.of-3.ensures ∙ c.in_ok-sheets.ensures
    ∙ ap (map (λ (board : SiteBoard). settled_sheet c.args.site.quirks
    (priority_of c.in_ok-running.running.names.items c.in_ok-running.running.priorities.items) board.sheet)) here)

pub returns-clause-priorities : goal.returns-clause-priorities
returns-clause-priorities g c = λ sheets names are name. adds sheets c.args.arrangement.now names are name
