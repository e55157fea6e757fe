-- Whether a step is good, as it is found out: its component, its release and its device are looked up first.
use Rattle.std.proofs.Common.{◌≡◌, ℕ, ◌&&◌, Bool, true, false, nat_lt, List, length, position, refl, sym, ap, ◌∙◌}
use Rattle.std.specs.Prelude.{Option, Some, None, find, slice_get, option_map, option_and_then}
use Rattle.std.specs.Option.{option_map_or}
use Rattle.device_list.proofs.GuidLaws.{bytes_eq-symm}
use Rattle.device_list.specs.declared.selector.Selector.{Selector}
use Rattle.device_list.specs.Lists.{names, place}
use Rattle.version_formats.specs.Formats.{render}
use Rattle.version_formats.specs.VersionOrder.{same_version}
use Rattle.fw_facts.specs.declared.release.Component.{Component}
use Rattle.fw_facts.specs.declared.release.Release.{Release}
use Rattle.fw_facts.specs.declared.view.DeviceView.{DeviceView}
use Rattle.release_catalogue.specs.Lookup.{Chosen}
use Rattle.update_log.specs.declared.decision.Stage.{Stage}
use Rattle.update_log.specs.declared.event.Event.{Event}
use Rattle.core_state.specs.Core.{Core, Stands}
use Rattle.update_log.specs.Known.{rows}
use Rattle.update_log.specs.Pasts.{past_of}
use Rattle.update_log.specs.Verdicts.{verdict}
use Rattle.update_plans.specs.Courses.{ends_well}
use Rattle.update_plans.specs.Following.{IsQuiet}
use Rattle.update_plans.specs.Plans.{Scene, accepts, asked, end_of, has_id, is_ended, is_good, is_good_with, release_at, request_of, view_of, writes}
use Rattle.update_plans.specs.declared.plan.PlanStep.{PlanStep}
use Rattle.update_plans.proofs.Installed.{good-is}
use Rattle.update_plans.proofs.Released.{chosen_at, found_at}
use Rattle.update_plans.proofs.Targets.{find-same, found-none, found-place}

-- ---- the release

abbrev at_component : PlanStep → Component → Option Chosen
at_component step c = option_map (chosen_at step.release.component step.release.release c) (slice_get c.releases step.release.release)

release-is : (s : Scene) (step : PlanStep) → release_at s step.release ≡ option_and_then (at_component step) (slice_get s.basis.facts.catalogue step.release.component)
release-is s step = found_at s.basis.facts.catalogue step.release

no-release : (s : Scene) (number : ℕ) (step : PlanStep) (past : List Event) → release_at s step.release ≡ None → is_good s number step past ≡ false
unfolding is_good
no-release s number step past e = ap (λ (o : Option Chosen). option_map_or (is_good_with s number step past) o false) e

pub good_no_component : (s : Scene) (number : ℕ) (step : PlanStep) (past : List Event) → slice_get s.basis.facts.catalogue step.release.component ≡ None → is_good s number step past ≡ false
good_no_component s number step past e = no-release s number step past (release-is s step ∙ ap (option_and_then (at_component step)) e)

pub good_no_release : (s : Scene) (number : ℕ) (step : PlanStep) (past : List Event) (c : Component) → slice_get s.basis.facts.catalogue step.release.component ≡ Some c → slice_get c.releases step.release.release ≡ None
    → is_good s number step past ≡ false
good_no_release s number step past c e f =
    no-release s number step past
    (release-is s step ∙ ap (option_and_then (at_component step)) e ∙ ap (option_map (chosen_at step.release.component step.release.release c)) f)

-- ---- the device

-- the device of an ID is the one at the place that the selector finds
pub looked_up : (device : List ℕ) (all : List DeviceView) → option_and_then (slice_get all) (place (Selector.Id device) all) ≡ find (has_id device) all
looked_up device all = of (position (names (Selector.Id device)) all) refl
  where
    same : find (names (Selector.Id device)) all ≡ find (has_id device) all
    same = find-same (names (Selector.Id device)) (has_id device) all (λ x. bytes_eq-symm device x.sheet.device)

    of : (o : Option ℕ) → position (names (Selector.Id device)) all ≡ o → option_and_then (slice_get all) o ≡ find (has_id device) all
    of None e = sym (found-none (names (Selector.Id device)) all e) ∙ same
    of (Some at) e = found-place (names (Selector.Id device)) all at e ∙ same

pub good_no_device : (s : Scene) (number : ℕ) (step : PlanStep) (past : List Event) → view_of s step.device past ≡ None → is_good s number step past ≡ false
unfolding is_good
good_no_device s number step past e = of (release_at s step.release)
  where
    first-false : (w a c e : Bool) → w ≡ false → (w && a && c && e) ≡ false
    first-false true a c e h = cc
    first-false false a c e h = refl

    bad : (chosen : Chosen) → is_good_with s number step past chosen ≡ false
    bad chosen =
        first-false (writes s step chosen past) (accepts step.release (verdict s.basis past s.client (request_of s number step chosen) Stage.Ask))
        (accepts step.release (verdict s.basis (asked s number step chosen past) s.client (request_of s number step chosen) (Stage.Claim step.release))) (is_ended (end_of s number step chosen past))
        (ap (λ (o : Option DeviceView). option_map_or (λ view. same_version (render view.sheet.format step.raw) chosen.release.version) o false) e)

    of : (o : Option Chosen) → option_map_or (is_good_with s number step past) o false ≡ false
    of None = refl
    of (Some chosen) = bad chosen

-- ---- all three there

pub good_so : (s : Scene) (number : ℕ) (step : PlanStep) (past : List Event) (c : Component) (r : Release) (v : DeviceView) → IsQuiet s past → slice_get s.basis.facts.catalogue step.release.component ≡ Some c
    → slice_get c.releases step.release.release ≡ Some r → view_of s step.device past ≡ Some v
    → is_good s number step past
    ≡ ((same_version (render v.sheet.format step.raw) r.version
    && (accepts step.release (verdict s.basis past s.client (request_of s number step (chosen_at step.release.component step.release.release c r)) Stage.Ask) && nat_lt (length (rows s.basis past)) 65536))
    && ends_well v c r.version step.raw)
unfolding is_good
good_so s number step past c r v q e f here =
    let there : release_at s step.release ≡ Some (chosen_at step.release.component step.release.release c r) =
    release-is s step ∙ ap (option_and_then (at_component step)) e ∙ ap (option_map (chosen_at step.release.component step.release.release c)) f in
    ap (λ (o : Option Chosen). option_map_or (is_good_with s number step past) o false) there
    ∙ good-is s number step (chosen_at step.release.component step.release.release c r) past v q there here

-- the same by the devices as the state has them
pub good_here : (s : Scene) (number : ℕ) (step : PlanStep) (core : Core) (c : Component) (r : Release) (v : DeviceView) → Stands s.basis core → IsQuiet s (past_of core.log)
    → slice_get s.basis.facts.catalogue step.release.component ≡ Some c → slice_get c.releases step.release.release ≡ Some r → find (has_id step.device) core.views ≡ Some v
    → is_good s number step (past_of core.log)
    ≡ ((same_version (render v.sheet.format step.raw) r.version
    && (accepts step.release (verdict s.basis (past_of core.log) s.client (request_of s number step (chosen_at step.release.component step.release.release c r)) Stage.Ask) && nat_lt (length (rows s.basis (past_of core.log))) 65536))
    && ends_well v c r.version step.raw)
good_here s number step core c r v stands q e f here =
    good_so s number step (past_of core.log) c r v q e f (sym (ap (λ (vs : List DeviceView). find (has_id step.device) vs) stands.views) ∙ here)

pub good_nowhere : (s : Scene) (number : ℕ) (step : PlanStep) (core : Core) → Stands s.basis core → find (has_id step.device) core.views ≡ None → is_good s number step (past_of core.log) ≡ false
good_nowhere s number step core stands none =
    good_no_device s number step (past_of core.log) (sym (ap (λ (vs : List DeviceView). find (has_id step.device) vs) stands.views) ∙ none)

-- what the tests one after the other say
not-written : (w a p e : Bool) → w ≡ false → ((w && (a && p)) && e) ≡ false
not-written true a p e h = cc
not-written false a p e h = refl

not-accepted : (w a p e : Bool) → (a && p) ≡ false → ((w && (a && p)) && e) ≡ false
not-accepted true a p e h = ap (λ (b : Bool). b && e) h
not-accepted false a p e h = refl

ends-last : (w a p e : Bool) → w ≡ true → (a && p) ≡ true → ((w && (a && p)) && e) ≡ e
ends-last true a p e h k = ap (λ (b : Bool). b && e) k
ends-last false a p e h k = cc

pub bad_written : (s : Scene) (number : ℕ) (step : PlanStep) (core : Core) (c : Component) (r : Release) (v : DeviceView) → Stands s.basis core → IsQuiet s (past_of core.log)
    → slice_get s.basis.facts.catalogue step.release.component ≡ Some c → slice_get c.releases step.release.release ≡ Some r → find (has_id step.device) core.views ≡ Some v
    → same_version (render v.sheet.format step.raw) r.version ≡ false → is_good s number step (past_of core.log) ≡ false
bad_written s number step core c r v stands q e f here w =
    good_here s number step core c r v stands q e f here ∙ not-written (same_version (render v.sheet.format step.raw) r.version) (accepts step.release (verdict s.basis (past_of core.log) s.client (request_of s number step (chosen_at step.release.component step.release.release c r)) Stage.Ask)) (nat_lt (length (rows s.basis (past_of core.log))) 65536) (ends_well v c r.version step.raw) w

pub bad_accepted : (s : Scene) (number : ℕ) (step : PlanStep) (core : Core) (c : Component) (r : Release) (v : DeviceView) → Stands s.basis core → IsQuiet s (past_of core.log)
    → slice_get s.basis.facts.catalogue step.release.component ≡ Some c → slice_get c.releases step.release.release ≡ Some r → find (has_id step.device) core.views ≡ Some v
    → (accepts step.release (verdict s.basis (past_of core.log) s.client (request_of s number step (chosen_at step.release.component step.release.release c r)) Stage.Ask) && nat_lt (length (rows s.basis (past_of core.log))) 65536) ≡ false → is_good s number step (past_of core.log) ≡ false
bad_accepted s number step core c r v stands q e f here a =
    good_here s number step core c r v stands q e f here ∙ not-accepted (same_version (render v.sheet.format step.raw) r.version) (accepts step.release (verdict s.basis (past_of core.log) s.client (request_of s number step (chosen_at step.release.component step.release.release c r)) Stage.Ask)) (nat_lt (length (rows s.basis (past_of core.log))) 65536) (ends_well v c r.version step.raw) a

pub good_ends : (s : Scene) (number : ℕ) (step : PlanStep) (core : Core) (c : Component) (r : Release) (v : DeviceView) → Stands s.basis core → IsQuiet s (past_of core.log)
    → slice_get s.basis.facts.catalogue step.release.component ≡ Some c → slice_get c.releases step.release.release ≡ Some r → find (has_id step.device) core.views ≡ Some v
    → same_version (render v.sheet.format step.raw) r.version ≡ true → (accepts step.release (verdict s.basis (past_of core.log) s.client (request_of s number step (chosen_at step.release.component step.release.release c r)) Stage.Ask) && nat_lt (length (rows s.basis (past_of core.log))) 65536) ≡ true
    → is_good s number step (past_of core.log) ≡ ends_well v c r.version step.raw
good_ends s number step core c r v stands q e f here w a =
    good_here s number step core c r v stands q e f here ∙ ends-last (same_version (render v.sheet.format step.raw) r.version) (accepts step.release (verdict s.basis (past_of core.log) s.client (request_of s number step (chosen_at step.release.component step.release.release c r)) Stage.Ask)) (nat_lt (length (rows s.basis (past_of core.log))) 65536) (ends_well v c r.version step.raw) w a
