-- What `plan` and `update` come to, once the history was loaded.
use Rattle.std.proofs.Common.{◌≡◌, ◌⊎◌, ℕ, ◌+◌, ◌<◌, ◌≤◌, List, [], ◌∷◌, ◌++◌, length, map, Option, Some, None, sym, ap, ◌∙◌, subst, inl, inr, arith}
use Rattle.std.specs.Prelude.{◌-◌, ◌^◌, All, Result, Ok, Err}
use Rattle.std.specs.Option.{option_map_or}
use Rattle.std.proofs.lemmas.List.Elements.{All-cons, All-head, All-nil}
use Rattle.fw_facts.specs.declared.view.DeviceView.{DeviceView}
use Rattle.history_keeper.specs.declared.refusal.KeeperRefusal.{KeeperRefusal}
use Rattle.history_keeper.specs.declared.row.Row.{Row}
use Rattle.history_keeper.specs.Keepers.{StillTold}
use Rattle.history_keeper.specs.Signs.{KeeperSigns}
use Rattle.update_log.specs.declared.event.Event.{Event}
use Rattle.update_log.specs.declared.facts.BootPlan.{BootPlan}
use Rattle.update_log.specs.Known.{basis_of, views}
use Rattle.update_log.specs.Pasts.{past_of}
use Rattle.daemon_core.specs.House.{shown_by}
use Rattle.daemon_core.specs.Reading.{AreTold}
use Rattle.client_plays.specs.Endings.{IsScriptItem}
use Rattle.client_scripts.specs.declared.item.Item.{Item}
use Rattle.site_types.specs.declared.campaign.Campaign.{Campaign}
use Rattle.release_catalogue.specs.Lookup.{Chosen}
use Rattle.update_plans.specs.Plans.{Scene, release_at, request_of, scene}
use Rattle.update_plans.specs.declared.plan.PlanStep.{PlanStep}
use Rattle.campaign_plans.specs.declared.first_plan.FirstPlan.{FirstPlan}
use Rattle.campaign_plans.specs.FirstPlans.{IsFirstPlan, first_log, first_steps}
use Rattle.campaign_plans.specs.Printed.{plan_text}
use Rattle.campaign_plans.proofs.FirstPlanned.{past_of_first}
use Rattle.campaign_plans.specs.Updating.{Plays, first_alone, installs_from, one_script}
use Rattle.fwupd_service.specs.declared.loading.LoadStop.{LoadStop}
use Rattle.fwupd_service.specs.declared.loading.LoadStop.TheVariants as loads
use Rattle.fwupd_service.specs.Begins.{CanBePlayed, IsReadyFor}
use Rattle.fwupd_service.specs.Loads.{IsJudged, LoadSays, WasLoaded}
use Rattle.fwupd_service.specs.Tops.{Left}
use Rattle.fwupd_service.specs.Updates.{OnlyLoaded, planned_items, printed_plan}

-- Rows that were loaded are those that the keeper told before, if it tells any still.
pub rows_told : (before after : List Row → Type 0) (loaded : List Row) → StillTold before after → ((all : List Row) → after all → loaded ≡ all) → AreTold before after loaded
rows_told before after loaded still answer = λ all t. subst before (sym (answer all t)) (still all t)

-- What was found of such rows is what the load says of them.
pub judged_says : (stop : Option LoadStop) (came now : List Row → Type 0) (rows : List Row) (before after : ℕ) → IsJudged stop rows → AreTold came now rows → LoadSays stop came now rows before after
judged_says None came now rows before after judged told = (told, judged)
judged_says (Some loads.KeeperFault) came now rows before after judged told = absurd judged
judged_says (Some (loads.BadHistory entry)) came now rows before after judged told = (told, judged)
judged_says (Some loads.NoMemory) came now rows before after judged told = inr told

-- A load that tells no fault counted none.
pub quiet-ok : {A E : Type 0} (x : A) (fault : E) (P Q : Type 0) → (Ok x ≡ Err fault) ⊎ Q → P ⊎ Q
quiet-ok x fault P Q (inl e) = cc
quiet-ok x fault P Q (inr q) = inr q

pub quiet-other : {A : Type 0} (r : Result A KeeperRefusal) (P Q : Type 0) → r ≡ Err KeeperRefusal.NoMemory → (r ≡ Err KeeperRefusal.Fault) ⊎ Q → P ⊎ Q
quiet-other r P Q n (inl e) = let bad = sym n ∙ e in cc
quiet-other r P Q n (inr q) = inr q

-- What is known of a load that stopped nothing.
pub loaded-only : {K : Type 0} (signs : KeeperSigns K) (stop : Option LoadStop) (rows : List Row) (keeper middle : K)
    → WasLoaded signs stop rows keeper middle → stop ≡ None → WasLoaded signs None rows keeper middle
loaded-only signs stop rows keeper middle w e = subst (λ (s : Option LoadStop). WasLoaded signs s rows keeper middle) e w

-- Nothing but the load happened.
pub only-loaded : {K : Type 0} (signs : KeeperSigns K) (stop : Option LoadStop) (rows : List Row) (keeper middle : K) (left : Left K)
    → WasLoaded signs stop rows keeper middle → left.log ≡ [] → left.opening ≡ rows → left.boards ≡ None → left.keeper ≡ middle
    → OnlyLoaded signs stop keeper left
only-loaded signs stop rows keeper middle left w log opening boards kept = record { log = log; boards = boards; loaded = rw (opening, kept) w }

-- The text of the plan that was made is what `plan` prints.
pub plan-text : (campaign : Campaign) (rows : List Row) (tag : List ℕ) (first : FirstPlan) (seen : List DeviceView) (steps : List PlanStep) → IsFirstPlan campaign.facts (map shown_by campaign.boards.items) campaign.boots rows tag first
    → seen ≡ first.state.views → steps ≡ first.plan.steps → plan_text campaign.facts seen steps ≡ printed_plan campaign rows tag
plan-text campaign rows tag first seen steps p v s =
    let shown = map shown_by campaign.boards.items in
    let shows : seen ≡ views (basis_of campaign.facts rows) (first_log campaign.boots shown) =
    v ∙ p.stands.views ∙ ap (λ (log : List Event). views (basis_of campaign.facts rows) (past_of log)) p.log ∙ ap (λ (past : List Event). views (basis_of campaign.facts rows) past) (past_of_first campaign.boots shown) in
    ap (λ (x : List DeviceView). plan_text campaign.facts x steps) shows
    ∙ ap (λ (x : List PlanStep). plan_text campaign.facts (views (basis_of campaign.facts rows) (first_log campaign.boots shown)) x) (s ∙ p.steps_are)

-- Installs may stand in a script.
installs-may : (s : Scene) (number : ℕ) (steps : List PlanStep) → All IsScriptItem (installs_from s number steps)
installs-may s number [] = All-nil IsScriptItem
installs-may s number (step ∷ steps) = go (release_at s step.release) (installs-may s (number + 1) steps)
  where
    go : (found : Option Chosen) → All IsScriptItem (installs_from s (number + 1) steps) → All IsScriptItem (option_map_or (λ (chosen : Chosen). Item.Install (request_of s number step chosen) ∷ []) found [] ++ installs_from s (number + 1) steps)
    go None more = more
    go (Some chosen) more = All-cons IsScriptItem (Item.Install (request_of s number step chosen)) (installs_from s (number + 1) steps) tt more

few-boots : (boots : List BootPlan) → length (first_alone boots) ≤ 32
few-boots [] = omega arith
few-boots (boot ∷ boots) = omega arith

times-first : (P : BootPlan → Type 0) (boots : List BootPlan) → All P boots → All P (first_alone boots)
times-first P [] all = All-nil P
times-first P (boot ∷ boots) all = All-cons P boot [] (All-head P boot boots all) (All-nil P)

one-may : (boots : List BootPlan) (items : List Item) → All IsScriptItem items → All (All (All IsScriptItem)) (one_script boots items)
one-may [] items may = All-nil (All (All IsScriptItem))
one-may (boot ∷ boots) items may =
    All-cons (All (All IsScriptItem)) (items ∷ []) [] (All-cons (All IsScriptItem) items [] may (All-nil (All IsScriptItem))) (All-nil (All (All IsScriptItem)))

one-few : (most : ℕ) (boots : List BootPlan) (items : List Item) → 0 < most → All (λ (of_boot : List (List Item)). length of_boot ≤ most) (one_script boots items)
one-few most [] items some = All-nil (λ (of_boot : List (List Item)). length of_boot ≤ most)
one-few most (boot ∷ boots) items some =
    All-cons (λ (of_boot : List (List Item)). length of_boot ≤ most) (items ∷ []) [] (omega (arith, some)) (All-nil (λ (of_boot : List (List Item)). length of_boot ≤ most))

-- So the campaign of a plan can be played where the one that it was made of can.
plan-can-be-played : (s : Scene) (number : ℕ) (steps : List PlanStep) (old new : Campaign) → Plays (installs_from s number steps) old new → CanBePlayed old → CanBePlayed new
plan-can-be-played s number steps old new p can = record {
  few = rw p.facts can.few;
  count = rw (p.facts, p.boards) can.count;
  fresh = rw p.boards can.fresh;
  pool = rw p.facts can.pool;
  boots = rw p.boots (few-boots old.boots);
  times = rw p.boots (times-first (λ (plan : BootPlan). plan.time ≤ 2 ^ 63 - 1) old.boots can.times);
  items = rw p.scripts (one-may old.boots (installs_from s number steps) (installs-may s number steps));
  clients = rw p.scripts (one-few 16 old.boots (installs_from s number steps) (omega arith));
}

pub planned-can-be-played : (campaign : Campaign) (rows : List Row) (tag : List ℕ) (made : Campaign) → Plays (planned_items campaign rows tag) campaign made → CanBePlayed campaign → CanBePlayed made
planned-can-be-played campaign rows tag made =
    plan-can-be-played (scene (basis_of campaign.facts rows) 1 tag) 1 (first_steps campaign.facts (map shown_by campaign.boards.items) campaign.boots rows tag) campaign made

pub plan-is-ready : (shelves plugins : ℕ) (items : List Item) (old new : Campaign) → Plays items old new → IsReadyFor shelves plugins old → IsReadyFor shelves plugins new
plan-is-ready shelves plugins items old new p ready = record {
  some = ready.some;
  each = rw p.scripts (one-few shelves old.boots items ready.some);
  plugins_are = rw p.facts ready.plugins_are;
}
