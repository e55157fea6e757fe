use Rattle.std.proofs.Common.{ℕ, List, map, sym, subst}
use Rattle.first_boots.specs.FirstBoot.{shown_by}
use Rattle.update_plans.specs.Tags.{IsTag}
use Rattle.campaign_plans.specs.FirstPlans.{IsFirstPlan}
use Rattle.plan_tests.proofs.Tags.{tag_fits}
use Rattle.plan_tests.proofs.planning.planned.Goals as goal

pub plan_first-requires-clause-tag : goal.plan_first-requires-clause-tag
plan_first-requires-clause-tag c = subst IsTag (sym c.in_ok-tag.ensures) tag_fits

pub returns-clause-planned : goal.returns-clause-planned
returns-clause-planned c =
    subst
    (λ (tag : List ℕ). IsFirstPlan c.args.campaign.now.facts (map shown_by c.args.campaign.now.boards.items) c.args.campaign.now.boots c.args.rows.now tag c.in_ok-first.first)
    c.in_ok-tag.ensures c.in_ok-first.ensures
