-- What is accepted at an ask is accepted at the claim behind it, where the history has place for a row.
use Rattle.std.proofs.Common.{◌≡◌, ℕ, Bool, true, false, nat_lt, List, [], ◌∷◌, ◌++◌, length, Option, Some, None, refl, sym, ap, subst, ◌∙◌, arith}
use Rattle.std.proofs.Math.Path.{fun_ext}
use Rattle.std.specs.Prelude.{nat_le, option_and_then, option_map}
use Rattle.std.proofs.lemmas.Bool.Decides.{nat_tests}
use Rattle.fw_facts.specs.declared.view.DeviceView.{DeviceView}
use Rattle.release_catalogue.specs.declared.reference.ReleaseRef.{ReleaseRef}
use Rattle.history_keeper.specs.declared.row.Row.{Row}
use Rattle.update_log.specs.declared.decision.Decision.{Decision}
use Rattle.update_log.specs.declared.decision.Stage.{Stage}
use Rattle.update_log.specs.declared.event.Event.{Event}
use Rattle.update_log.specs.declared.facts.Facts.{Facts}
use Rattle.update_log.specs.declared.live.LiveEntry.{LiveEntry}
use Rattle.update_log.specs.declared.refusal.Refusal.{Refusal}
use Rattle.update_log.specs.declared.refusal.RetryFault.{RetryFault}
use Rattle.update_log.specs.declared.request.Request.{Request}
use Rattle.update_log.specs.Holding.{held, live}
use Rattle.update_log.specs.Known.{Target, row_of, row_with_tag, rows, target, views}
use Rattle.update_log.specs.Verdicts.{Case, busy, decided, fault_of, first_refusal, hindered, installed, is_release, locked, need, no_room, not_updatable, older, on_found, on_kept, on_present, on_target, out_of_size, present, refused_or, retry, rows_full, unmet, unsettled, verdict, vetoed}
use Rattle.update_plans.specs.Plans.{Scene, accepts, asked, request_of}
use Rattle.update_plans.specs.declared.plan.PlanStep.{PlanStep}
use Rattle.release_catalogue.specs.Lookup.{Chosen}

-- where none of a front refuses, what stands behind it decides
behind : (front more other : List (Option Refusal)) → first_refusal (front ++ more) ≡ None → first_refusal (front ++ other) ≡ first_refusal other
behind [] more other h = refl
behind (None ∷ front) more other h = behind front more other h
behind (Some refusal ∷ front) more other h = cc

is_release-same : (a b : ReleaseRef) → is_release a b ≡ true → is_release b a ≡ true
is_release-same a b h = grind (arith, nat_tests)

module _ (facts : Facts) (views : List DeviceView) (rows : List Row) (live : List LiveEntry) (held held' client : ℕ) (request : Request) (at : ReleaseRef) where
  -- the case of the ask, and that of the claim
  abbrev pub at_ask : Case
  at_ask = record { facts = facts; views = views; rows = rows; live = live; held = held; client = client; request = request; stage = Stage.Ask }

  abbrev pub at_claim : Case
  at_claim =
      record { facts = facts; views = views; rows = rows; live = live; held = held'; client = client; request = request; stage = Stage.Claim at }

  -- what both test alike, with that answer of the retry
  abbrev alike_with : Option Refusal → Target → List (Option Refusal)
  alike_with tried t =
      busy at_ask t ∷ unsettled at_ask t ∷ tried ∷ not_updatable at_ask t ∷ locked at_ask t ∷ hindered at_ask t ∷ installed at_ask t ∷ older at_ask t
      ∷ unmet at_ask t ∷ vetoed at_ask t ∷ out_of_size at_ask t ∷ []

  abbrev alike : Target → List (Option Refusal)
  alike t = alike_with (retry at_ask t) t

  -- a retry is judged alike
  fault-same : (t : Target) (entry : ℕ) (row : Option Row) → fault_of at_ask t entry row ≡ fault_of at_claim t entry row
  fault-same t entry None = refl
  fault-same t entry (Some r) = refl

  retry-same : (t : Target) → retry at_ask t ≡ retry at_claim t
  retry-same t =
      ap (λ (f : ℕ → Option RetryFault). option_map (λ fault. Refusal.Retry fault) (option_and_then f request.retry_of))
      (fun_ext (λ entry. fault-same t entry (row_of rows entry)))

  -- the history has place for a row
  abbrev pub has_place : Bool
  has_place = nat_lt (length rows) 65536

  unrefused : (o : Option Refusal) (t : Target) → accepts at (refused_or o (Decision.Accept t.place t.chosen.at (need t))) ≡ true
      → (o ≡ None) × (is_release t.chosen.at at ≡ true)
  unrefused None t h = (refl, h)
  unrefused (Some refusal) t h = cc

  full : (t : Target) → is_release t.chosen.at at ≡ true → accepts at (refused_or (first_refusal (no_room at_claim t ∷ rows_full at_claim t ∷ [])) (Decision.Accept t.place t.chosen.at (need t))) ≡ has_place
  full t that = go (nat_le 65536 (length rows)) refl
    where
      go : (b : Bool) → nat_le 65536 (length rows) ≡ b → accepts at (refused_or (first_refusal (no_room at_claim t ∷ rows_full at_claim t ∷ [])) (Decision.Accept t.place t.chosen.at (need t))) ≡ has_place
      go true e = rw e (sym (grind (arith, nat_tests, e)))
      go false e = rw e (that ∙ sym (grind (arith, nat_tests, e)))

  on_target-claim : (t : Target) → accepts at (on_target at_ask t) ≡ true → accepts at (on_found at_claim (Some t)) ≡ has_place
  on_target-claim t h =
      let free = unrefused (first_refusal (alike t ++ no_room at_ask t ∷ rows_full at_ask t ∷ [])) t h in
      let same : first_refusal (alike t ++ no_room at_claim t ∷ rows_full at_claim t ∷ []) ≡ first_refusal (no_room at_claim t ∷ rows_full at_claim t ∷ []) =
      behind (alike t) (no_room at_ask t ∷ rows_full at_ask t ∷ []) (no_room at_claim t ∷ rows_full at_claim t ∷ []) free.0 in
      let there : first_refusal (alike_with (retry at_claim t) t ++ no_room at_claim t ∷ rows_full at_claim t ∷ []) ≡ first_refusal (no_room at_claim t ∷ rows_full at_claim t ∷ []) =
      subst (λ (tried : Option Refusal). first_refusal (alike_with tried t ++ no_room at_claim t ∷ rows_full at_claim t ∷ []) ≡ first_refusal (no_room at_claim t ∷ rows_full at_claim t ∷ [])) (retry-same t) same in
      rw (is_release-same t.chosen.at at free.1, there) (full t free.1)

  on_found-claim : (t : Option Target) → accepts at (on_found at_ask t) ≡ true → accepts at (on_found at_claim t) ≡ has_place
  on_found-claim None h = cc
  on_found-claim (Some t) h = on_target-claim t h

  on_present-claim : (place : Option ℕ) → accepts at (on_present at_ask place) ≡ true → accepts at (on_present at_claim place) ≡ has_place
  on_present-claim None h = cc
  on_present-claim (Some place) h = on_found-claim (target facts views request) h

  on_kept-claim : (row : Option Row) → accepts at (on_kept at_ask row) ≡ true → accepts at (on_kept at_claim row) ≡ has_place
  on_kept-claim None h = on_present-claim (present at_ask) h
  on_kept-claim (Some row) h = cc

  pub decided-claim : accepts at (decided at_ask) ≡ true → accepts at (decided at_claim) ≡ has_place
  decided-claim h = on_kept-claim (row_with_tag rows request.tag) h

-- The same of a step's claim behind its ask.
pub accepted_twice : (s : Scene) (number : ℕ) (step : PlanStep) (chosen : Chosen) (past : List Event)
    → accepts step.release (verdict s.basis past s.client (request_of s number step chosen) Stage.Ask) ≡ true
    → accepts step.release (verdict s.basis (asked s number step chosen past) s.client (request_of s number step chosen) (Stage.Claim step.release))
    ≡ nat_lt (length (rows s.basis past)) 65536
accepted_twice s number step chosen past h =
    decided-claim s.basis.facts (views s.basis past) (rows s.basis past) (live past) (held past) (held (asked s number step chosen past)) s.client
    (request_of s number step chosen) step.release h
