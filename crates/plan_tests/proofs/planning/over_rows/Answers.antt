use Rattle.std.proofs.Common.{◌≡◌, map, sym, subst}
use Rattle.std.specs.Prelude.{codes}
use Rattle.first_boots.specs.FirstBoot.{shown_by}
use Rattle.update_plans.specs.Tags.{IsTag}
use Rattle.campaign_plans.proofs.FirstPlanned.{can_be_planned_over, rows_first, stands_over}
use Rattle.plan_tests.proofs.Tags.{tag_fits}
use Rattle.plan_tests.proofs.planning.over_rows.Goals as goal

pub said-requires : goal.said-requires
said-requires c =
    let f = c.in_ok-first.ensures.planned in
    let same : c.in_ok-first.first.state.rows ≡ c.args.rows.now =
    rows_first c.args.campaign.now.facts c.args.rows.now c.args.campaign.now.boots (map shown_by c.args.campaign.now.boards.items) c.in_ok-first.first.state f.stands f.log in (
      subst IsTag (sym c.requires.tag) tag_fits,
      (
        c.requires.few_steps,
        (
          stands_over c.args.campaign.now.facts c.args.rows.now c.in_ok-first.first.state same f.stands,
          can_be_planned_over c.args.campaign.now.facts c.args.rows.now c.in_ok-first.first.state.rows (codes "u") c.args.plan.now.tag c.args.campaign.now.boots c.args.campaign.now.boards.items c.in_ok-first.first.state.log
              same c.requires.tag f.log c.in_ok-first.ensures.history c.requires.begins.count c.requires.begins.made,
        ),
      ),
    )
