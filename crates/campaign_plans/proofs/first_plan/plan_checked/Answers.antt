use Rattle.std.proofs.Common.{◌≡◌, map, sym, subst}
use Rattle.first_boots.specs.FirstBoot.{shown_by}
use Rattle.update_plans.specs.Tags.{IsTag}
use Rattle.campaign_plans.proofs.FirstPlanned.{can_be_planned_over, good_over, rows_first, stands_over}
use Rattle.campaign_plans.proofs.first_plan.plan_checked.Goals as goal

pub check-requires : goal.check-requires
check-requires c =
    let f = c.in_ok-first.ensures in
    let first = c.in_ok-first.first in
    let same : first.state.rows ≡ c.args.rows.now =
    rows_first c.args.campaign.now.facts c.args.rows.now c.args.campaign.now.boots (map shown_by c.args.campaign.now.boards.items) first.state f.stands f.log in (
      subst IsTag (sym f.tag_is) c.requires.tag,
      (
        f.few,
        (
          stands_over c.args.campaign.now.facts c.args.rows.now first.state same f.stands,
          (
            can_be_planned_over c.args.campaign.now.facts c.args.rows.now first.state.rows c.args.tag.now first.plan.tag c.args.campaign.now.boots c.args.campaign.now.boards.items first.state.log
                same f.tag_is f.log c.requires.history c.requires.begins.count c.requires.begins.made,
            good_over c.args.campaign.now.facts (map shown_by c.args.campaign.now.boards.items) c.args.campaign.now.boots c.args.rows.now c.args.tag.now first same f,
          ),
        ),
      ),
    )
