-- The log of a first boot, and that a plan may be made over it.
use Rattle.std.proofs.Common.{◌≡◌, ℕ, ◌≤◌, List, [], ◌∷◌, length, map, inl, inr, refl, ap, sym, ◌∙◌, subst, arith}
use Rattle.std.specs.Prelude.{All, None}
use Rattle.std.proofs.lemmas.List.{length-map}
use Rattle.std.proofs.lemmas.List.Elements.{All-weaker}
use Rattle.emulated_boards.specs.Boards.{BoardState}
use Rattle.campaign_inputs.specs.Begin.{IsAsMade}
use Rattle.first_boots.specs.FirstBoot.{IsAsMade as IsFresh, IsFirstShown, first_boot, listed_from, shown_by}
use Rattle.first_boots.proofs.FirstBoots.{boot_next, first_shown}
use Rattle.update_log.specs.Legal.{IsNext}
use Rattle.fw_facts.specs.declared.seen.Seen.{Seen}
use Rattle.history_keeper.specs.declared.row.Row.{Row}
use Rattle.history_keeper.specs.Histories.{IsHistory}
use Rattle.update_log.specs.declared.event.Event.{Event}
use Rattle.update_log.specs.declared.facts.BootPlan.{BootPlan}
use Rattle.update_log.specs.declared.facts.Facts.{Facts}
use Rattle.core_state.specs.Core.{Core, Stands}
use Rattle.update_log.specs.Known.{basis_of, rows as known_rows}
use Rattle.update_log.specs.Pasts.{past_of}
use Rattle.update_plans.specs.Plans.{Scene, first_bad, scene}
use Rattle.campaign_plans.specs.declared.first_plan.FirstPlan.{FirstPlan}
use Rattle.campaign_plans.specs.FirstPlans.{CanBePlanned, IsFirstPlan, first_log, plan_after}

-- It has one event at most, so its newest is its first.
pub past_of_first : (boots : List BootPlan) (shown : List Seen) → past_of (first_log boots shown) ≡ first_log boots shown
past_of_first [] shown = refl
past_of_first (boot ∷ boots) shown = refl

can_first : (facts : Facts) (rows : List Row) (tag : List ℕ) (boots : List BootPlan) (shown : List Seen) → IsHistory rows
    → length shown ≡ length facts.sheets → All IsFirstShown shown → CanBePlanned facts rows tag (first_log boots shown)
can_first facts rows tag [] shown h count fine = inl refl
can_first facts rows tag (boot ∷ boots) shown h count fine =
    let next : IsNext (basis_of facts rows) [] (first_boot boot shown) = boot_next (basis_of facts rows) boot [] shown (listed_from boot 0 shown) refl refl count fine in
    inr (record {
      first = next.0;
      plans = next.1;
      legal = next.2;
      history = h;
      booted = omega arith;
      on = refl;
      no_hold = refl;
      none_live = refl;
      client = λ e. cc;
    })

pub can_be_planned : (facts : Facts) (rows : List Row) (tag : List ℕ) (boots : List BootPlan) (shown : List Seen) (log : List Event)
    → log ≡ first_log boots shown → IsHistory rows → length shown ≡ length facts.sheets → All IsFirstShown shown → CanBePlanned facts rows tag (past_of log)
can_be_planned facts rows tag boots shown log e h count fine = rw (e, past_of_first boots shown) (can_first facts rows tag boots shown h count fine)

-- Boards that are as made show themselves so, and are as many as the sheets.
pub made_fine : (boards : List BoardState) → All IsAsMade boards → All IsFirstShown (map shown_by boards)
made_fine boards made = first_shown boards (All-weaker IsAsMade IsFresh (λ b h. (h.image, h.condition)) boards made)

pub as_many : (boards : List BoardState) (n : ℕ) → length boards ≡ n → length (map shown_by boards) ≡ n
as_many boards n e = length-map boards shown_by ∙ e

-- What the plan over a state is, told of the boots.
pub is_first_plan : (facts : Facts) (shown : List Seen) (boots : List BootPlan) (rows : List Row) (tag : List ℕ) (first : FirstPlan)
    → Stands (basis_of facts rows) first.state → first.state.log ≡ first_log boots shown → first.plan.tag ≡ tag
    → first.plan.steps ≡ plan_after facts rows tag (past_of first.state.log) → length first.plan.steps ≤ 8192
    → first_bad (scene (basis_of facts rows) 1 tag) 1 first.plan.steps (past_of first.state.log) ≡ None → IsFirstPlan facts shown boots rows tag first
is_first_plan facts shown boots rows tag first stands log tagged steps few good =
    let same : past_of first.state.log ≡ first_log boots shown = ap past_of log ∙ past_of_first boots shown in
    record {
      stands = stands;
      log = log;
      tag_is = tagged;
      steps_are = steps ∙ ap (plan_after facts rows tag) same;
      few = few;
      good = subst (λ (past : List Event). first_bad (scene (basis_of facts rows) 1 tag) 1 first.plan.steps past ≡ None) same good;
    }

-- Boards that are as made are so for the first boot.
pub as_fresh : (boards : List BoardState) → All IsAsMade boards → All IsFresh boards
as_fresh boards made = All-weaker IsAsMade IsFresh (λ b h. (h.image, h.condition)) boards made

-- Of no steps none is bad.
pub none_bad : (s : Scene) (past : List Event) → first_bad s 1 [] past ≡ None
unfolding first_bad
none_bad s past = refl

-- A state that stands for that log has the rows before it.
pub rows_first : (facts : Facts) (rows : List Row) (boots : List BootPlan) (shown : List Seen) (core : Core) → Stands (basis_of facts rows) core → core.log ≡ first_log boots shown → core.rows ≡ rows
rows_first facts rows boots shown core stands log =
    stands.rows ∙ ap (λ (past : List Event). known_rows (basis_of facts rows) past) (ap past_of log ∙ past_of_first boots shown) ∙ at boots
  where
    at : (bs : List BootPlan) → known_rows (basis_of facts rows) (first_log bs shown) ≡ rows
    at [] = refl
    at (boot ∷ bs) = refl

-- So a plan may be made over it as the state tells it, and what is said of the plan is said of the rows before.
pub can_be_planned_over : (facts : Facts) (rows own : List Row) (tag own_tag : List ℕ) (boots : List BootPlan) (boards : List BoardState) (log : List Event)
    → own ≡ rows → own_tag ≡ tag → log ≡ first_log boots (map shown_by boards) → IsHistory rows → length boards ≡ length facts.sheets → All IsAsMade boards
    → CanBePlanned facts own own_tag (past_of log)
can_be_planned_over facts rows own tag own_tag boots boards log same tagged is h count made =
    subst (λ (rs : List Row). CanBePlanned facts rs own_tag (past_of log)) (sym same)
    (can_be_planned facts rows own_tag boots (map shown_by boards) log is h (as_many boards (length facts.sheets) count) (made_fine boards made))

pub stands_over : (facts : Facts) (rows : List Row) (core : Core) → core.rows ≡ rows → Stands (basis_of facts rows) core → Stands (basis_of facts core.rows) core
stands_over facts rows core same stands = subst (λ (rs : List Row). Stands (basis_of facts rs) core) (sym same) stands

pub is_first_plan_over : (facts : Facts) (shown : List Seen) (boots : List BootPlan) (rows : List Row) (tag : List ℕ) (first : FirstPlan)
    → first.state.rows ≡ rows → Stands (basis_of facts rows) first.state → first.state.log ≡ first_log boots shown → first.plan.tag ≡ tag
    → first.plan.steps ≡ plan_after facts first.state.rows tag (past_of first.state.log) → length first.plan.steps ≤ 8192
    → first_bad (scene (basis_of facts first.state.rows) 1 tag) 1 first.plan.steps (past_of first.state.log) ≡ None → IsFirstPlan facts shown boots rows tag first
is_first_plan_over facts shown boots rows tag first same stands log tagged steps few good =
    is_first_plan facts shown boots rows tag first stands log tagged
    (steps ∙ ap (λ (rs : List Row). plan_after facts rs tag (past_of first.state.log)) same)
    few
    (subst (λ (rs : List Row). first_bad (scene (basis_of facts rs) 1 tag) 1 first.plan.steps (past_of first.state.log) ≡ None) same good)

pub good_over : (facts : Facts) (shown : List Seen) (boots : List BootPlan) (rows : List Row) (tag : List ℕ) (first : FirstPlan) → first.state.rows ≡ rows → IsFirstPlan facts shown boots rows tag first
    → first_bad (scene (basis_of facts first.state.rows) 1 first.plan.tag) 1 first.plan.steps (past_of first.state.log) ≡ None
good_over facts shown boots rows tag first same is =
    ap (λ (rs : List Row). first_bad (scene (basis_of facts rs) 1 first.plan.tag) 1 first.plan.steps (past_of first.state.log)) same
    ∙ ap (λ (t : List ℕ). first_bad (scene (basis_of facts rows) 1 t) 1 first.plan.steps (past_of first.state.log)) is.tag_is
    ∙ ap (λ (past : List Event). first_bad (scene (basis_of facts rows) 1 tag) 1 first.plan.steps past) (ap past_of is.log ∙ past_of_first boots shown)
    ∙ is.good
