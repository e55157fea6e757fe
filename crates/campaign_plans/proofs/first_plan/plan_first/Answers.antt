use Rattle.std.proofs.Common.{◌≡◌, map, refl}
use Rattle.first_boots.specs.FirstBoot.{shown_by}
use Rattle.campaign_plans.proofs.FirstPlanned.{can_be_planned_over, is_first_plan_over, rows_first, stands_over}
use Rattle.campaign_plans.proofs.first_plan.plan_first.Goals as goal

pub plan_over-requires : goal.plan_over-requires
plan_over-requires c =
    let same : c.in_ok-state.state.rows ≡ c.args.rows.now =
    rows_first c.args.campaign.now.facts c.args.rows.now c.args.campaign.now.boots (map shown_by c.args.campaign.now.boards.items) c.in_ok-state.state c.in_ok-state.ensures.stands c.in_ok-state.ensures.log in (
      c.requires.tag,
      (
        stands_over c.args.campaign.now.facts c.args.rows.now c.in_ok-state.state same c.in_ok-state.ensures.stands,
        can_be_planned_over c.args.campaign.now.facts c.args.rows.now c.in_ok-state.state.rows c.args.tag.now c.args.tag.now c.args.campaign.now.boots c.args.campaign.now.boards.items c.in_ok-state.state.log
            same refl c.in_ok-state.ensures.log c.requires.history c.requires.begins.count c.requires.begins.made,
      ),
    )

pub returns : goal.returns
returns c =
    is_first_plan_over c.args.campaign.now.facts (map shown_by c.args.campaign.now.boards.items) c.args.campaign.now.boots c.args.rows.now c.args.tag.now _
    (rows_first c.args.campaign.now.facts c.args.rows.now c.args.campaign.now.boots (map shown_by c.args.campaign.now.boards.items) c.in_ok-state.state c.in_ok-state.ensures.stands c.in_ok-state.ensures.log)
    c.in_ok-state.ensures.stands c.in_ok-state.ensures.log
    c.in_ok-plan.ensures.tag c.in_ok-plan.ensures.steps c.in_ok-plan.ensures.few c.in_ok-plan.ensures.good
