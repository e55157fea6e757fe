-- What a request found that was accepted with a release.
use Rattle.std.proofs.Common.{◌≡◌, ℕ, ◌&&◌, ◌==◌, Bool, true, false, cond, nat_lt, List, [], ◌∷◌, length, position, refl, sym, ap, ◌∙◌, subst}
use Rattle.std.specs.Prelude.{Option, Some, None, find, slice_get, option_map, option_and_then, if◌then◌else◌}
use Rattle.std.specs.List.{position_or_len}
use Rattle.std.proofs.lemmas.Bool.{eqb-true, ltb-false, and_parts}
use Rattle.std.proofs.lemmas.Option.{slice_get_past, same_Some}
use Rattle.std.proofs.lemmas.List.Folds.{find_at}
use Rattle.device_list.proofs.GuidLaws.{bytes_eq-symm}
use Rattle.device_list.specs.declared.selector.Selector.{Selector}
use Rattle.device_list.specs.Lists.{names, place}
use Rattle.fw_facts.specs.declared.release.Component.{Component}
use Rattle.fw_facts.specs.declared.release.Release.{Release}
use Rattle.fw_facts.specs.declared.view.DeviceView.{DeviceView}
use Rattle.fw_facts.specs.Views.{guids_of, is_home}
use Rattle.history_keeper.specs.declared.row.Row.{Row}
use Rattle.release_catalogue.specs.declared.reference.ReleaseRef.{ReleaseRef}
use Rattle.release_catalogue.specs.Lookup.{Chosen, all_releases, chosen as chosen_for, provides}
use Rattle.update_log.specs.declared.decision.Decision.{Decision}
use Rattle.update_log.specs.declared.decision.Stage.{Stage}
use Rattle.update_log.specs.declared.event.Event.{Event}
use Rattle.update_log.specs.declared.refusal.Refusal.{Refusal}
use Rattle.update_log.specs.declared.request.Request.{Request}
use Rattle.update_log.specs.Known.{Target, row_with_tag, rows, target, target_at, target_of, views}
use Rattle.update_log.specs.Verdicts.{Case, case_of, first_refusal, is_release, need, on_found, on_kept, on_present, present, refusals, refused_or, verdict}
use Rattle.update_log.proofs.Accepts.{chosen-provides}
use Rattle.update_log.proofs.Placed.{IsPlaced, chosen-placed}
use Rattle.update_plans.specs.Plans.{Scene, accepts, asked, end_of, has_id, is_ended, is_good_with, release_at, request_of, step_tag, view_of, writes}
use Rattle.update_plans.specs.declared.plan.PlanStep.{PlanStep}
use Rattle.update_plans.proofs.Released.{chosen_at, found_at, place_at}

-- ---- look-ups

pub find-same : {X : Type 0} (p q : X → Bool) (xs : List X) → ((x : X) → p x ≡ q x) → find p xs ≡ find q xs
find-same p q [] same = refl
find-same p q (x ∷ xs) same = ap (λ (b : Bool). cond b (Some x) (find p xs)) (same x) ∙ ap (λ (o : Option _). cond (q x) (Some x) o) (find-same p q xs same)

-- the element at the place that was found is the first that passes
pub found-place : {X : Type 0} (p : X → Bool) (xs : List X) (at : ℕ) → position p xs ≡ Some at → slice_get xs at ≡ find p xs
found-place p xs at h = go (nat_lt (position_or_len p xs) (length xs)) h
  where
    go : (b : Bool) → cond b (Some (position_or_len p xs)) None ≡ Some at → slice_get xs at ≡ find p xs
    go true e = ap (slice_get xs) (sym (same_Some _ _ e)) ∙ sym (find_at p xs)
    go false e = cc

-- and where there is none, nothing passes
pub found-none : {X : Type 0} (p : X → Bool) (xs : List X) → position p xs ≡ None → find p xs ≡ None
found-none p xs h = go (nat_lt (position_or_len p xs) (length xs)) refl h
  where
    go : (b : Bool) → nat_lt (position_or_len p xs) (length xs) ≡ b → cond b (Some (position_or_len p xs)) None ≡ None → find p xs ≡ None
    go true e f = cc
    go false e f = find_at p xs ∙ slice_get_past xs (position_or_len p xs) (ltb-false (position_or_len p xs) (length xs) e)

-- ---- releases

pub release-same : (a b : ReleaseRef) → is_release a b ≡ true → a ≡ b
release-same a b h =
    let parts = and_parts (a.component == b.component) (a.release == b.release) h in
    ap (λ (n : ℕ). place_at n a.release) (eqb-true a.component b.component parts.0) ∙ ap (place_at b.component) (eqb-true a.release b.release parts.1)

-- a release that is looked up by its place stands there
pub record Stands (components : List Component) (at : ReleaseRef) (chosen : Chosen) : Type 0 where
  pub at_is : chosen.at ≡ at
  pub placed : IsPlaced components chosen

pub stands : (components : List Component) (at : ReleaseRef) (chosen : Chosen) → find (λ c. is_release c.at at) (all_releases components) ≡ Some chosen → Stands components at chosen
stands components at chosen h = of_component (slice_get components at.component) refl (sym (found_at components at) ∙ h)
  where
    of_release : (c : Component) (r : Option Release) → slice_get components at.component ≡ Some c → slice_get c.releases at.release ≡ r
        → option_map (chosen_at at.component at.release c) r ≡ Some chosen → Stands components at chosen
    of_release c None there of e = cc
    of_release c (Some r) there of e =
        subst (Stands components at) (same_Some _ _ e) (record { at_is = refl; placed = record { component = there; release = of } })

    of_component : (o : Option Component) → slice_get components at.component ≡ o
        → option_and_then (λ c. option_map (chosen_at at.component at.release c) (slice_get c.releases at.release)) o ≡ Some chosen → Stands components at chosen
    of_component None there e = cc
    of_component (Some c) there e = of_release c (slice_get c.releases at.release) there refl e

-- two releases that stand at one place are one
pub placed-once : (components : List Component) (a b : Chosen) → IsPlaced components a → IsPlaced components b → a.at ≡ b.at → a ≡ b
placed-once components a b p q same =
    let component : a.component ≡ b.component = same_Some _ _ (sym p.component ∙ ap (λ (at : ReleaseRef). slice_get components at.component) same ∙ q.component) in
    let release : a.release ≡ b.release =
    same_Some _ _ (sym p.release ∙ ap (λ (c : Component). slice_get c.releases a.at.release) component ∙ ap (λ (at : ReleaseRef). slice_get b.component.releases at.release) same ∙ q.release) in
    ap (λ (at : ReleaseRef). made at a.component a.release) same ∙ ap (λ (c : Component). made b.at c a.release) component ∙ ap (made b.at b.component) release
  where
    made : ReleaseRef → Component → Release → Chosen
    made at component release = record { at = at; component = component; release = release }

-- ---- the target

-- The request of a step found its device at home, and that very release; no row has its tag, and nothing refuses it.
pub record Found (s : Scene) (number : ℕ) (step : PlanStep) (chosen : Chosen) (past : List Event) : Type 0 where
  pub t : Target
  pub target_is : target s.basis.facts (views s.basis past) (request_of s number step chosen) ≡ Some t
  pub chosen_is : t.chosen ≡ chosen
  pub at_is : step.release ≡ chosen.at
  pub view_is : view_of s step.device past ≡ Some t.view
  pub home : is_home t.view.seen ≡ true
  pub provided : provides (guids_of t.view) t.chosen.component ≡ true
  pub fresh : row_with_tag (rows s.basis past) (step_tag s number) ≡ None
  pub decided_is : verdict s.basis past s.client (request_of s number step chosen) Stage.Ask ≡ Decision.Accept t.place t.chosen.at (need t)
  pub free : first_refusal (refusals (case_of s.basis past s.client (request_of s number step chosen) Stage.Ask) t) ≡ None

module _ (s : Scene) (number : ℕ) (step : PlanStep) (chosen : Chosen) (past : List Event) (there : release_at s step.release ≡ Some chosen) where
  abbrev devices_now : List DeviceView
  devices_now = views s.basis past

  abbrev asks : Request
  asks = request_of s number step chosen

  abbrev at_ask : Case
  at_ask = case_of s.basis past s.client asks Stage.Ask

  -- what is known of the device so far
  record Here (at : ℕ) (view : DeviceView) : Type 0 where
    place_is : place (Selector.Id step.device) devices_now ≡ Some at
    view_at : slice_get devices_now at ≡ Some view
    home : is_home view.seen ≡ true
    fresh : row_with_tag (rows s.basis past) (step_tag s number) ≡ None

  of-target : (at : ℕ) (view : DeviceView) (t : Target) (o : Option Chosen) → option_map (λ (c : Chosen). record { place = at; view = view; chosen = c }) o ≡ Some t
      → (t.view ≡ view) × (o ≡ Some t.chosen)
  of-target at view t None e = cc
  of-target at view t (Some c) e =
      let same : record { place = at; view = view; chosen = c } ≡ t = same_Some _ _ e in
      (sym (ap (λ (x : Target). x.view) same), ap (λ (x : Target). Some x.chosen) same)

  view-found : (at : ℕ) (view : DeviceView) → Here at view → view_of s step.device past ≡ Some view
  view-found at view here =
      find-same (has_id step.device) (names (Selector.Id step.device)) devices_now (λ x. bytes_eq-symm x.sheet.device step.device)
      ∙ sym (found-place (names (Selector.Id step.device)) devices_now at here.place_is) ∙ here.view_at

  is-present : (at : ℕ) (view : DeviceView) → Here at view → present at_ask ≡ Some at
  is-present at view here =
      ap (option_and_then (λ n. option_and_then (λ v. if is_home v.seen then Some n else None) (slice_get devices_now n))) here.place_is
      ∙ ap (option_and_then (λ v. if is_home v.seen then Some at else None)) here.view_at
      ∙ ap (λ (b : Bool). if b then Some at else None) here.home

  accepted : (at : ℕ) (view : DeviceView) → Here at view → (t : Target) → target s.basis.facts devices_now asks ≡ Some t
      → (refusal : Option Refusal) → first_refusal (refusals at_ask t) ≡ refusal → accepts step.release (refused_or refusal (Decision.Accept t.place t.chosen.at (need t))) ≡ true
      → Found s number step chosen past
  accepted at view here t e (Some refusal) r h = cc
  accepted at view here t e None r h =
      let by_place : target_at s.basis.facts devices_now asks.version at ≡ Some t = ap (option_and_then (target_at s.basis.facts devices_now asks.version)) (sym here.place_is) ∙ e in
      let by_view : target_of s.basis.facts asks.version at view ≡ Some t = ap (option_and_then (target_of s.basis.facts asks.version at)) (sym here.view_at) ∙ by_place in
      let parts = of-target at view t (chosen_for s.basis.facts.catalogue (guids_of view) asks.version) by_view in
      let that : t.chosen.at ≡ step.release = release-same t.chosen.at step.release h in
      let stood = stands s.basis.facts.catalogue step.release chosen there in
      let one : t.chosen ≡ chosen =
      placed-once s.basis.facts.catalogue t.chosen chosen (chosen-placed s.basis.facts.catalogue (guids_of view) asks.version t.chosen parts.1) stood.placed (that ∙ sym stood.at_is) in
      record {
        t = t;
        target_is = e;
        chosen_is = one;
        at_is = sym stood.at_is;
        view_is = view-found at view here ∙ ap (λ (v : DeviceView). Some v) (sym parts.0);
        home = ap (λ (v : DeviceView). is_home v.seen) parts.0 ∙ here.home;
        provided = ap (λ (v : DeviceView). provides (guids_of v) t.chosen.component) parts.0 ∙ chosen-provides s.basis.facts.catalogue (guids_of view) asks.version t.chosen parts.1;
        fresh = here.fresh;
        decided_is =
            ap (on_kept at_ask) here.fresh
            ∙ ap (λ (o : Option ℕ). on_present at_ask o) (is-present at view here)
            ∙ ap (on_found at_ask) e
            ∙ ap (λ (o : Option Refusal). refused_or o (Decision.Accept t.place t.chosen.at (need t))) r;
        free = r;
      }

  on-target : (at : ℕ) (view : DeviceView) → Here at view → (o : Option Target) → target s.basis.facts devices_now asks ≡ o → accepts step.release (on_found at_ask o) ≡ true → Found s number step chosen past
  on-target at view here None e h = cc
  on-target at view here (Some t) e h = accepted at view here t e (first_refusal (refusals at_ask t)) refl h

  at-home : (at : ℕ) (view : DeviceView) → place (Selector.Id step.device) devices_now ≡ Some at → slice_get devices_now at ≡ Some view → row_with_tag (rows s.basis past) (step_tag s number) ≡ None
      → (b : Bool) → is_home view.seen ≡ b → accepts step.release (on_present at_ask (if b then Some at else None)) ≡ true → Found s number step chosen past
  at-home at view p v f true b h = on-target at view (record { place_is = p; view_at = v; home = b; fresh = f }) (target s.basis.facts devices_now asks) refl h
  at-home at view p v f false b h = cc

  at-view : (at : ℕ) → place (Selector.Id step.device) devices_now ≡ Some at → row_with_tag (rows s.basis past) (step_tag s number) ≡ None → (o : Option DeviceView) → slice_get devices_now at ≡ o
      → accepts step.release (on_present at_ask (option_and_then (λ view. if is_home view.seen then Some at else None) o)) ≡ true → Found s number step chosen past
  at-view at p f None v h = cc
  at-view at p f (Some view) v h = at-home at view p v f (is_home view.seen) refl h

  at-place : row_with_tag (rows s.basis past) (step_tag s number) ≡ None → (o : Option ℕ) → place (Selector.Id step.device) devices_now ≡ o
      → accepts step.release (on_present at_ask (option_and_then (λ at. option_and_then (λ view. if is_home view.seen then Some at else None) (slice_get devices_now at)) o)) ≡ true
      → Found s number step chosen past
  at-place f None p h = cc
  at-place f (Some at) p h = at-view at p f (slice_get devices_now at) refl h

  on-kept : (row : Option Row) → row_with_tag (rows s.basis past) (step_tag s number) ≡ row → accepts step.release (on_kept at_ask row) ≡ true → Found s number step chosen past
  on-kept None f h = at-place f (place (Selector.Id step.device) devices_now) refl h
  on-kept (Some row) f h = cc

  pub found : accepts step.release (verdict s.basis past s.client asks Stage.Ask) ≡ true → Found s number step chosen past
  found h = on-kept (row_with_tag (rows s.basis past) (step_tag s number)) refl h

-- ---- the tests of a good step

pub record Tests (s : Scene) (number : ℕ) (step : PlanStep) (chosen : Chosen) (past : List Event) : Type 0 where
  pub written : writes s step chosen past ≡ true
  pub asked_so : accepts step.release (verdict s.basis past s.client (request_of s number step chosen) Stage.Ask) ≡ true
  pub claimed_so : accepts step.release (verdict s.basis (asked s number step chosen past) s.client (request_of s number step chosen) (Stage.Claim step.release)) ≡ true
  pub ended_so : is_ended (end_of s number step chosen past) ≡ true

four-true : (w a c e : Bool) → (w && a && c && e) ≡ true → (w ≡ true) × (a ≡ true) × (c ≡ true) × (e ≡ true)
four-true w a c e h =
    let three = and_parts (w && a && c) e h in
    let two = and_parts (w && a) c three.0 in
    let one = and_parts w a two.0 in
    (one.0, one.1, two.1, three.1)

pub tests : (s : Scene) (number : ℕ) (step : PlanStep) (chosen : Chosen) (past : List Event) → is_good_with s number step past chosen ≡ true → Tests s number step chosen past
tests s number step chosen past good =
    let all =
    four-true (writes s step chosen past) (accepts step.release (verdict s.basis past s.client (request_of s number step chosen) Stage.Ask))
    (accepts step.release (verdict s.basis (asked s number step chosen past) s.client (request_of s number step chosen) (Stage.Claim step.release))) (is_ended (end_of s number step chosen past)) good in
    record { written = all.0; asked_so = all.1; claimed_so = all.2; ended_so = all.3 }
