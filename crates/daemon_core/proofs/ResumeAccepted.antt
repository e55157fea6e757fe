-- What a resumption has whose request is accepted.
use Rattle.std.proofs.Common.{◌≡◌, ℕ, true, List, length, refl, ap, sym, ◌∙◌, subst}
use Rattle.std.specs.Prelude.{Option, Some, None, slice_get, option_map, option_and_then, ◌==◌}
use Rattle.std.specs.Str.{bytes_eq}
use Rattle.std.proofs.lemmas.Bool.{eq-eqb, and_parts}
use Rattle.std.proofs.lemmas.Option.{same_Some}
use Rattle.block_pool.specs.Views.{SealedBytes}
use Rattle.device_list.specs.Lists.{names, place}
use Rattle.device_list.specs.declared.selector.Selector.{Selector}
use Rattle.fw_facts.specs.Views.{guids_of}
use Rattle.fw_facts.specs.declared.release.Release.{Release}
use Rattle.fw_facts.specs.declared.view.DeviceView.{DeviceView}
use Rattle.release_catalogue.specs.Lookup.{Chosen, chosen}
use Rattle.release_catalogue.specs.declared.reference.ReleaseRef.{ReleaseRef}
use Rattle.update_log.proofs.Accepts.{accepts-target, found-passes}
use Rattle.update_log.proofs.Lists.{map-none}
use Rattle.update_log.proofs.Openings.{bytes-same, bytes-self}
use Rattle.update_log.specs.Known.{Basis, Target, target, target_at, target_of, views}
use Rattle.update_log.specs.Legal.{is_fetched}
use Rattle.update_log.specs.Verdicts.{Case, case_of, is_release, verdict}
use Rattle.update_log.specs.declared.decision.Stage.{Stage}
use Rattle.update_log.specs.declared.event.Event.{Event}
use Rattle.update_log.specs.declared.facts.Facts.{Facts}
use Rattle.update_log.specs.declared.refusal.Refusal.{Refusal}
use Rattle.update_log.specs.declared.request.Request.{Request}
use Rattle.daemon_core.proofs.Asking.{release-same, target-placed}
use Rattle.daemon_core.proofs.ClaimAccepted.{target-seen, view-home, release-there}
use Rattle.daemon_core.specs.Claims.{DeviceHome}
use Rattle.daemon_core.specs.Fetches.{IsPayloadOf, whole_note}
use Rattle.daemon_core.specs.Holds.{IsReleaseAt}
use Rattle.daemon_core.specs.PutOff.{IsAccept}

-- The target of a request that names an ID is that device.
pub target-device : (facts : Facts) (all : List DeviceView) (request : Request) (device : List ℕ) (t : Target) → target facts all request ≡ Some t → request.device ≡ Selector.Id device → t.view.sheet.device ≡ device
target-device facts all request device t h d = at (place request.device all) refl h
  where
    at-chosen : (n : ℕ) (view : DeviceView) (o : Option Chosen) → place request.device all ≡ Some n → slice_get all n ≡ Some view → option_map (λ c. let u : Target = record { place = n; view = view; chosen = c } in u) o ≡ Some t → t.view.sheet.device ≡ device
    at-chosen n view None p s g = cc
    at-chosen n view (Some c) p s g =
        let same : record { place = n; view = view; chosen = c } ≡ t = same_Some (record { place = n; view = view; chosen = c }) t g in
        let named : names request.device view ≡ true = found-passes (names request.device) all n view p s in
        let id : bytes_eq device view.sheet.device ≡ true = subst (λ (x : Selector). names x view ≡ true) d named in
        sym (ap (λ (u : Target). u.view.sheet.device) same) ∙ sym (bytes-same device view.sheet.device id)

    at-view : (n : ℕ) (o : Option DeviceView) → place request.device all ≡ Some n → slice_get all n ≡ o → option_and_then (target_of facts request.version n) o ≡ Some t → t.view.sheet.device ≡ device
    at-view n None p s g = cc
    at-view n (Some view) p s g = at-chosen n view (chosen facts.catalogue (guids_of view) request.version) p s g

    at : (o : Option ℕ) → place request.device all ≡ o → option_and_then (target_at facts all request.version) o ≡ Some t → t.view.sheet.device ≡ device
    at None p g = cc
    at (Some n) p g = at-view n (slice_get all n) p refl g

-- What there is where a resumption is accepted.
pub record Resumable (basis : Basis) (past : List Event) (request : Request) (release : ReleaseRef) (t : Target) : Type 0 where
  pub found : target basis.facts (views basis past) request ≡ Some t
  pub that : is_release release t.chosen.at ≡ true
  pub unclaimed : t.view.claim ≡ None

pub resumable : (basis : Basis) (past : List Event) (entry : ℕ) (request : Request) (release : ReleaseRef) → IsAccept (verdict basis past 0 request (Stage.Resume entry release)) → (t : Target) × Resumable basis past request release t
resumable basis past entry request release a =
    let c : Case = case_of basis past 0 request (Stage.Resume entry release) in
    let h = accepts-target c a.0 a.2 a.1 a.3 in
    let t : Target = h.0 in
    (t, record { found = h.1.found; that = (and_parts (is_release release t.chosen.at) _ h.1.that).0; unclaimed = map-none (λ entry. Refusal.Busy entry) t.view.claim h.1.none.is_busy })

-- A whole payload is that of the release that was found.
pub whole-resumed : (basis : Basis) (past : List Event) (request : Request) (release : ReleaseRef) (t : Target) (payload : SealedBytes) → Resumable basis past request release t → IsPayloadOf basis.facts release payload → is_fetched (whole_note payload) (target basis.facts (views basis past) request) ≡ true
whole-resumed basis past request release t payload k p =
    let there : IsReleaseAt basis.facts.catalogue release t.chosen.release = release-there basis.facts.catalogue release t.chosen.at t.chosen.release k.that (target-placed basis.facts (views basis past) request t k.found) in
    let same : p.release ≡ t.chosen.release = release-same basis.facts.catalogue release p.release t.chosen.release p.there there in
    let digest : bytes_eq payload.digest t.chosen.release.digest ≡ true = ap (λ (d : List ℕ). bytes_eq d t.chosen.release.digest) (p.digest_is ∙ ap (λ (r : Release). r.digest) same) ∙ bytes-self t.chosen.release.digest in
    let size : (length payload.bytes == t.chosen.release.size) ≡ true = eq-eqb (length payload.bytes) t.chosen.release.size (p.size_is ∙ ap (λ (r : Release). r.size) same) in
    rw (k.found, digest, size) refl

-- The board of its device is home.
pub resumed-home : (basis : Basis) (past : List Event) (request : Request) (release : ReleaseRef) (t : Target) (device : List ℕ) → Resumable basis past request release t → request.device ≡ Selector.Id device → (number : ℕ) × DeviceHome basis past device number
resumed-home basis past request release t device k d =
    let same : t.view.sheet.device ≡ device = target-device basis.facts (views basis past) request device t k.found d in
    let v = target-seen basis.facts (views basis past) request t k.found in
    let h = view-home basis past v.0 t.view v.1 k.unclaimed in
    (h.0, subst (λ (x : List ℕ). DeviceHome basis past x h.0) same h.1)
