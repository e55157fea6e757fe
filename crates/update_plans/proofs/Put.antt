-- An install is put behind a log event by event: each event may come next.
use Rattle.std.proofs.Common.{◌≡◌, ℕ, Bool, true, false, List, [], ◌∷◌, ◌++◌, append_assoc, refl, sym, ap, ◌∙◌, subst}
use Rattle.std.proofs.lemmas.List.Sums.{fold-append}
use Rattle.std.specs.Prelude.{◌==◌, Ok, Option, Some, IsSome, is_some, find, option_map, option_and_then, unwrap_or, if◌then◌else◌}
use Rattle.std.specs.Str.{bytes_eq}
use Rattle.std.specs.List.{fold}
use Rattle.release_catalogue.specs.Lookup.{Chosen}
use Rattle.update_log.specs.declared.event.Event.{Event}
use Rattle.update_log.specs.declared.event.Op.{Op}
use Rattle.update_log.specs.Legal.{IsNext}
use Rattle.history_keeper.specs.declared.row.Row.{Row}
use Rattle.history_keeper.specs.declared.row.RowState.{RowState}
use Rattle.update_log.specs.declared.live.LiveEntry.{LiveEntry}
use Rattle.update_log.specs.declared.trace.Trace.{Trace}
use Rattle.update_log.specs.Holding.{blocks_of, live, live_entry}
use Rattle.update_log.specs.Known.{row_of, rows, views}
use Rattle.update_log.specs.Legal.{IsLegalUnlimited, next_entry}
use Rattle.update_log.proofs.Lists.{eqb-self}
use Rattle.update_log.specs.Shows.{campaign_on, marks}
use Rattle.update_log.specs.Steps.{all_ops, closing_at, closing_of, next_op, trace}
use Rattle.update_plans.specs.Following.{IsQuiet}
use Rattle.update_plans.specs.Plans.{Scene, asked, done, end_of, installed_with, is_good_with, is_next, release_at, seen_of, shown_after, taken, view_of, waits_for_boot, with_op, with_some}
use Rattle.update_plans.specs.Putting.{end_on}
use Rattle.update_plans.specs.declared.plan.PlanStep.{PlanStep}
use Rattle.update_plans.proofs.Installed.{goes-whole, installed-quiet}
use Rattle.update_plans.proofs.Played.{Steps, left, with-steps}
use Rattle.update_plans.proofs.Targets.{found, tests}
use Rattle.fw_facts.specs.declared.seen.Seen.{Seen}
use Rattle.update_log.specs.declared.facts.BootPlan.{BootPlan}

-- ---- each event may come next

-- A past is legal in some campaign over this basis, or would be without limits.
pub record MayBe (s : Scene) (past : List Event) : Type 0 where
  pub first : List Seen
  pub plans : List BootPlan
  pub legal : IsLegalUnlimited (campaign_on s.basis first plans) past

pub next-of : (s : Scene) (past : List Event) (event : Event) → MayBe s (event ∷ past) → IsNext s.basis past event
next-of s past event m = (m.first, m.plans, m.legal)

pub before-event : (s : Scene) (past : List Event) (event : Event) → MayBe s (event ∷ past) → MayBe s past
before-event s past event m = record { first = m.first; plans = m.plans; legal = let l = m.legal in l.0 }

before-events : (s : Scene) (events past : List Event) → MayBe s (events ++ past) → MayBe s past
before-events s [] past m = m
before-events s (event ∷ events) past m = before-events s events past (before-event s (events ++ past) event m)

module _ (s : Scene) (number : ℕ) (step : PlanStep) (chosen : Chosen) (past : List Event) (q : IsQuiet s past) (there : release_at s step.release ≡ Some chosen) (good : is_good_with s number step past chosen ≡ true) where
  pub whole : MayBe s (installed_with s number step chosen past)
  whole = let again = installed-quiet s number step chosen past q there good in record { first = again.first; plans = again.plans; legal = again.legal }

  -- so is the log with some of the steps
  pub some : (gone more : List Op) → gone ++ more ≡ all_ops → MayBe s (with_some s number step chosen gone past)
  some gone more parts =
      let rest : Steps s (next_entry s.basis past) (with_some s number step chosen gone past) (fold (with_op s step chosen (next_entry s.basis past)) (with_some s number step chosen gone past) more) =
      with-steps s step chosen (next_entry s.basis past) more (with_some s number step chosen gone past) in
      let is : done s number step chosen past ≡ rest.steps ++ with_some s number step chosen gone past =
      ap (fold (with_op s step chosen (next_entry s.basis past)) (taken s number step chosen (asked s number step chosen past))) (sym parts)
      ∙ fold-append (with_op s step chosen (next_entry s.basis past)) (taken s number step chosen (asked s number step chosen past)) gone more ∙ rest.whole_is in
      before-events s rest.steps (with_some s number step chosen gone past) (subst (MayBe s) is (before-event s (done s number step chosen past) _ whole))

  -- with one step more it is as that step makes it
  pub one-more : (gone : List Op) (op : Op) → with_some s number step chosen (gone ++ op ∷ []) past ≡ with_op s step chosen (next_entry s.basis past) (with_some s number step chosen gone past) op
  one-more gone op = fold-append (with_op s step chosen (next_entry s.basis past)) (taken s number step chosen (asked s number step chosen past)) gone (op ∷ [])

  -- the end of the step that is the next, as it goes where nothing fails
  abbrev pub end_of_step : List Op → Op → Event
  end_of_step gone op =
      Event.End s.client (next_entry s.basis past) op (Ok tt) (marks op (next_entry s.basis past) chosen.release.digest)
      (shown_after op (waits_for_boot s step.device (with_some s number step chosen gone past)) step.raw (seen_of s step.device (with_some s number step chosen gone past)))

  pub step-with : (gone : List Op) (op : Op) → is_next (next_op s.basis (with_some s number step chosen gone past) (next_entry s.basis past)) op ≡ true
      → with_some s number step chosen (gone ++ op ∷ []) past ≡ end_of_step gone op ∷ Event.Start s.client (next_entry s.basis past) op ∷ with_some s number step chosen gone past
  step-with gone op next =
      one-more gone op
      ∙ ap (λ (b : Bool). if b then end_of_step gone op ∷ Event.Start s.client (next_entry s.basis past) op ∷ with_some s number step chosen gone past else with_some s number step chosen gone past) next

  pub step-taken : (gone more : List Op) (op : Op) → gone ++ op ∷ more ≡ all_ops → is_next (next_op s.basis (with_some s number step chosen gone past) (next_entry s.basis past)) op ≡ true
      → MayBe s (end_of_step gone op ∷ Event.Start s.client (next_entry s.basis past) op ∷ with_some s number step chosen gone past)
  step-taken gone more op parts next =
      subst (MayBe s) (step-with gone op next) (some (gone ++ op ∷ []) more (append_assoc gone (op ∷ []) more ∙ parts))

  pub step-left : (gone : List Op) (op : Op) → is_next (next_op s.basis (with_some s number step chosen gone past) (next_entry s.basis past)) op ≡ false
      → with_some s number step chosen (gone ++ op ∷ []) past ≡ with_some s number step chosen gone past
  step-left gone op next =
      one-more gone op
      ∙ ap (λ (b : Bool). if b then end_of_step gone op ∷ Event.Start s.client (next_entry s.basis past) op ∷ with_some s number step chosen gone past else with_some s number step chosen gone past) next

-- ---- the entry while it is live

module _ (s : Scene) (number : ℕ) (step : PlanStep) (chosen : Chosen) (past : List Event) (q : IsQuiet s past) where
  abbrev entry : ℕ
  entry = next_entry s.basis past

  abbrev mine : LiveEntry
  mine = record { client = s.client; entry = entry; blocks = blocks_of chosen.release.size }

  -- it is live behind its claim, and with each of its steps
  pub some-live : (gone : List Op) → IsSome (live_entry (with_some s number step chosen gone past) entry)
  some-live gone =
      let w : Steps s entry (taken s number step chosen (asked s number step chosen past)) (with_some s number step chosen gone past) = with-steps s step chosen entry gone (taken s number step chosen (asked s number step chosen past)) in
      let l = left s entry w.steps (taken s number step chosen (asked s number step chosen past)) w.are in
      let is : live (with_some s number step chosen gone past) ≡ mine ∷ [] = ap live w.whole_is ∙ l.live_is ∙ begun in
      ap (λ (entries : List LiveEntry). is_some (find (λ x. x.entry == entry) entries)) is ∙ here
    where
      begun : live (taken s number step chosen (asked s number step chosen past)) ≡ mine ∷ []
      begun = let none = q.none_live in rw none refl

      here : is_some (find (λ (x : LiveEntry). x.entry == entry) (mine ∷ [])) ≡ true
      here = rw (eqb-self entry) refl

  -- its end, told by its trace, its row and its device
  module _ (there : release_at s step.release ≡ Some chosen) (good : is_good_with s number step past chosen ≡ true) where
    pub end-said : (t : Trace) → trace s.basis entry (done s number step chosen past) ≡ Some t → end_on (rows s.basis (done s number step chosen past)) (views s.basis (done s number step chosen past)) step.device entry t ≡ end_of s number step chosen past
    end-said t e =
        let all = tests s number step chosen past good in
        let g = goes-whole s number step chosen past q (found s number step chosen past there all.asked_so) all.claimed_so in
        ap (λ (o : Option Row). unwrap_or (option_and_then (λ row. option_map (closing_of t row) (view_of s step.device (done s number step chosen past))) o) RowState.Begun) g.row_is
        ∙ ap (λ (device : List ℕ). unwrap_or (option_map (closing_of t g.row) (find (λ v. bytes_eq v.sheet.device device) (views s.basis (done s number step chosen past)))) RowState.Begun) (sym g.device_is)
        ∙ sym
        (ap (λ (o : Option Trace). unwrap_or (option_and_then (λ t. option_and_then (closing_at (views s.basis (done s number step chosen past)) t) (row_of (rows s.basis (done s number step chosen past)) entry)) o) RowState.Begun) e
        ∙ ap (λ (o : Option Row). unwrap_or (option_and_then (closing_at (views s.basis (done s number step chosen past)) t) o) RowState.Begun) g.row_is)
