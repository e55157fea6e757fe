-- What an accepted request had.
use Rattle.std.proofs.Common.{◌≡◌, ℕ, Bool, true, false, List, [], ◌∷◌, refl, ap, sym, ◌∙◌, subst}
use Rattle.std.proofs.lemmas.List.Folds.{find_at}
use Rattle.std.proofs.lemmas.Option.{same_Some}
use Rattle.std.specs.Prelude.{Option, Some, None, if◌then◌else◌, option_map, option_and_then, slice_get, find, filter, position, nat_lt, length}
use Rattle.std.specs.List.{AllByRecursion, position_or_len}
use Rattle.std.specs.Str.{bytes_eq}
use Rattle.device_list.specs.Lists.{names, place}
use Rattle.device_list.specs.declared.selector.Selector.{Selector}
use Rattle.fw_facts.specs.Views.{guids_of}
use Rattle.fw_facts.specs.declared.release.Component.{Component}
use Rattle.fw_facts.specs.declared.view.DeviceView.{DeviceView}
use Rattle.history_keeper.specs.declared.row.Row.{Row}
use Rattle.release_catalogue.specs.Lookup.{Chosen, all_releases, chosen, provides}
use Rattle.release_catalogue.specs.declared.reference.ReleaseRef.{ReleaseRef}
use Rattle.requirements.specs.declared.unmet.Unmet.{Unmet}
use Rattle.update_log.proofs.Lists.{by_test, find-passes, map-none}
use Rattle.update_log.proofs.Openings.{bytes-same}
use Rattle.update_log.specs.Known.{Target, target, target_at, target_of, views}
use Rattle.update_log.specs.Verdicts.{Case, busy, client_for, decided, first_refusal, first_unmet_for, hindered, installed, is_that_release, kept, locked, need, no_room, not_updatable, older, on_found, on_kept, on_present, on_target, out_of_size, present, refusals, refused_or, retry, rows_full, unmet, unsettled, vetoed}
use Rattle.update_log.specs.declared.decision.Decision.{Decision}
use Rattle.update_log.specs.declared.facts.Facts.{Facts}
use Rattle.update_log.specs.declared.refusal.Refusal.{Refusal}
use Rattle.update_log.specs.declared.request.Request.{Request}
use Rattle.version_formats.specs.VersionOrder.{same_version}

pub first_refusal-none : (xs : List (Option Refusal)) → first_refusal xs ≡ None → AllByRecursion (λ o. o ≡ None) xs
first_refusal-none [] h = tt
first_refusal-none (Some r ∷ xs) h = cc
first_refusal-none (None ∷ xs) h = (refl, first_refusal-none xs h)

-- Each refusal is none.
pub record NoneRefuses (c : Case) (t : Target) : Type 0 where
  pub is_busy : busy c t ≡ None
  pub is_unsettled : unsettled c t ≡ None
  pub is_retry : retry c t ≡ None
  pub is_not_updatable : not_updatable c t ≡ None
  pub is_locked : locked c t ≡ None
  pub is_hindered : hindered c t ≡ None
  pub is_installed : installed c t ≡ None
  pub is_older : older c t ≡ None
  pub is_unmet : unmet c t ≡ None
  pub is_vetoed : vetoed c t ≡ None
  pub is_out_of_size : out_of_size c t ≡ None
  pub is_no_room : no_room c t ≡ None
  pub is_rows_full : rows_full c t ≡ None

pub none-refuses : (c : Case) (t : Target) → first_refusal (refusals c t) ≡ None → NoneRefuses c t
none-refuses c t h =
    let (b, (u, (y, (n, (l, (p, (i, (o, (m, (v, (s, (r, (f, _))))))))))))) = first_refusal-none (refusals c t) h in
    record {
      is_busy = b;
      is_unsettled = u;
      is_retry = y;
      is_not_updatable = n;
      is_locked = l;
      is_hindered = p;
      is_installed = i;
      is_older = o;
      is_unmet = m;
      is_vetoed = v;
      is_out_of_size = s;
      is_no_room = r;
      is_rows_full = f;
    }

pub or-accept : (o : Option Refusal) (device blocks device' blocks' : ℕ) (release release' : ReleaseRef) → refused_or o (Decision.Accept device release blocks) ≡ Decision.Accept device' release' blocks' → o ≡ None
or-accept None device blocks device' blocks' release release' h = refl
or-accept (Some r) device blocks device' blocks' release release' h = cc

-- The target of an accepted request: its release is that of the ask and of the row, and no refusal
-- stands against it.
pub record HasTarget (c : Case) (t : Target) : Type 0 where
  pub found : target c.facts c.views c.request ≡ Some t
  pub that : is_that_release c t.chosen ≡ true
  pub none : NoneRefuses c t

-- Its requirements hold.
pub target-met : (c : Case) (t : Target) → NoneRefuses c t → first_unmet_for c.facts (client_for c) c.views t ≡ None
target-met c t n = map-none (λ u. Refusal.Unmet u) (first_unmet_for c.facts (client_for c) c.views t) n.is_unmet

pub accepts-target : (c : Case) (device blocks : ℕ) (release : ReleaseRef) → decided c ≡ Decision.Accept device release blocks → (t : Target) × HasTarget c t
accepts-target c device blocks release h = at-kept (kept c) h
  where
    at-release : (t : Target) → target c.facts c.views c.request ≡ Some t → (b : Bool) → is_that_release c t.chosen ≡ b → (if b then on_target c t else Decision.Refused Refusal.NoRelease) ≡ Decision.Accept device release blocks → (t : Target) × HasTarget c t
    at-release t e true i g =
        (t, record { found = e; that = i; none = none-refuses c t (or-accept (first_refusal (refusals c t)) t.place (need t) device blocks t.chosen.at release g) })
    at-release t e false i g = cc

    at-target : (o : Option Target) → target c.facts c.views c.request ≡ o → on_found c o ≡ Decision.Accept device release blocks → (t : Target) × HasTarget c t
    at-target None e g = cc
    at-target (Some t) e g = at-release t e (is_that_release c t.chosen) refl g

    at-present : (o : Option ℕ) → on_present c o ≡ Decision.Accept device release blocks → (t : Target) × HasTarget c t
    at-present None g = cc
    at-present (Some at) g = at-target (target c.facts c.views c.request) refl g

    at-kept : (o : Option Row) → on_kept c o ≡ Decision.Accept device release blocks → (t : Target) × HasTarget c t
    at-kept None g = at-present (present c) g
    at-kept (Some row) g = cc

-- What is found in a filtered list passes the filter.
pub find-filtered : {X : Type 0} (p q : X → Bool) (xs : List X) (x : X) → find p (filter q xs) ≡ Some x → q x ≡ true
find-filtered p q [] x h = cc
find-filtered p q (y ∷ ys) x h =
    by_test (q y) _
    (λ t. by_test (p y) _
    (λ u. let e : Some y ≡ Some x = rw (t, u) at h in ap q (sym (same_Some y x e)) ∙ t)
    (λ u. find-filtered p q ys x (rw (t, u) at h)))
    (λ t. find-filtered p q ys x (rw t at h))

-- The component of a release that was chosen provides a GUID of the list.
pub chosen-provides : (components : List Component) (guids : List (List ℕ)) (version : List ℕ) (found : Chosen) → chosen components guids version ≡ Some found → provides guids found.component ≡ true
unfolding chosen
chosen-provides components guids version found h =
    find-filtered (λ c. same_version c.release.version version) (λ c. provides guids c.component) (all_releases components) found h

-- A target is a view, and what was chosen for its GUIDs.
pub target-matches : (facts : Facts) (views : List DeviceView) (request : Request) (t : Target) → target facts views request ≡ Some t → provides (guids_of t.view) t.chosen.component ≡ true
target-matches facts views request t h = at (place request.device views) h
  where
    at-chosen : (place : ℕ) (view : DeviceView) (o : Option Chosen) → chosen facts.catalogue (guids_of view) request.version ≡ o → option_map (λ c. let u : Target = record { place = place; view = view; chosen = c } in u) o ≡ Some t → provides (guids_of t.view) t.chosen.component ≡ true
    at-chosen place view None e g = cc
    at-chosen place view (Some c) e g =
        let same : record { place = place; view = view; chosen = c } ≡ t = same_Some (record { place = place; view = view; chosen = c }) t g in
        ap (λ (u : Target). provides (guids_of u.view) u.chosen.component) (sym same)
        ∙ chosen-provides facts.catalogue (guids_of view) request.version c e

    at-view : (place : ℕ) (o : Option DeviceView) → option_and_then (target_of facts request.version place) o ≡ Some t → provides (guids_of t.view) t.chosen.component ≡ true
    at-view place None g = cc
    at-view place (Some view) g = at-chosen place view (chosen facts.catalogue (guids_of view) request.version) refl g

    at : (o : Option ℕ) → option_and_then (target_at facts views request.version) o ≡ Some t → provides (guids_of t.view) t.chosen.component ≡ true
    at None g = cc
    at (Some place) g = at-view place (slice_get views place) g

-- What is found in a list at the first place that passes a test passes it.
pub found-passes : {X : Type 0} (p : X → Bool) (xs : List X) (i : ℕ) (x : X) → position p xs ≡ Some i → slice_get xs i ≡ Some x → p x ≡ true
found-passes p xs i x at h =
    let first : find p xs ≡ slice_get xs (position_or_len p xs) = find_at p xs in
    by_test (nat_lt (position_or_len p xs) (length xs)) _
    (λ t. let same : position_or_len p xs ≡ i = same_Some (position_or_len p xs) i (rw t at at) in
    find-passes p xs x (first ∙ ap (slice_get xs) same ∙ h))
    (λ t. let bad : None ≡ Some i = rw t at at in cc)

-- A target that was looked for by a device ID is that device.
pub target-device : (facts : Facts) (views : List DeviceView) (request : Request) (device : List ℕ) (t : Target)
    → request.device ≡ Selector.Id device → target facts views request ≡ Some t → t.view.sheet.device ≡ device
target-device facts views request device t by h = at (place request.device views) refl h
  where
    at-chosen : (place : ℕ) (view : DeviceView) (o : Option Chosen) → option_map (λ c. let u : Target = record { place = place; view = view; chosen = c } in u) o ≡ Some t → view ≡ t.view
    at-chosen place view None g = cc
    at-chosen place view (Some c) g =
        ap (λ (u : Target). u.view) (same_Some (record { place = place; view = view; chosen = c }) t g)

    named : (p : ℕ) (view : DeviceView) → place request.device views ≡ Some p → slice_get views p ≡ Some view → view.sheet.device ≡ device
    named p view e g =
        let passes : names request.device view ≡ true = found-passes (names request.device) views p view e g in
        let same : bytes_eq device view.sheet.device ≡ true = subst (λ (s : Selector). names s view ≡ true) by passes in
        sym (bytes-same device view.sheet.device same)

    at-view : (p : ℕ) (o : Option DeviceView) → place request.device views ≡ Some p → slice_get views p ≡ o → option_and_then (target_of facts request.version p) o ≡ Some t → t.view.sheet.device ≡ device
    at-view p None e s g = cc
    at-view p (Some view) e s g =
        subst (λ (v : DeviceView). v.sheet.device ≡ device) (at-chosen p view (chosen facts.catalogue (guids_of view) request.version) g) (named p view e s)

    at : (o : Option ℕ) → place request.device views ≡ o → option_and_then (target_at facts views request.version) o ≡ Some t → t.view.sheet.device ≡ device
    at None e g = cc
    at (Some p) e g = at-view p (slice_get views p) e refl g
