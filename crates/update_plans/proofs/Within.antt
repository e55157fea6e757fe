-- Each place of the walk is a device's.
use Rattle.std.proofs.Common.{◌≡◌, ℕ, zero, suc, ◌+◌, ◌<◌, ◌≤◌, Bool, true, false, List, [], ◌∷◌, ◌++◌, length, sym, ◌∙◌, arith}
use Rattle.std.proofs.lemmas.List.{length-map}
use Rattle.std.specs.Prelude.{flat_map, if◌then◌else◌}
use Rattle.std.specs.List.{AllByRecursion}
use Rattle.fw_facts.specs.declared.view.DeviceView.{DeviceView}
use Rattle.update_log.specs.declared.event.Event.{Event}
use Rattle.update_log.specs.Boards.{devices}
use Rattle.update_log.specs.Holding.{live}
use Rattle.update_log.specs.Known.{known, view_of, views}
use Rattle.update_log.proofs.Lists.{All-append}
use Rattle.update_plans.specs.Plans.{Scene}
use Rattle.update_plans.specs.Walks.{is_child, is_root, kin_of, places_from, related, visit, walk}
use Rattle.update_plans.specs.declared.walk.Kin.{Kin}
use Rattle.update_plans.specs.declared.walk.Turn.TheVariants.{AfterParent, BeforeParent}

-- All are below a number.
abbrev pub AllBelow : ℕ → List ℕ → Type 0
AllBelow n places = AllByRecursion (λ p. p < n) places

places-within : (test : Kin → Bool) (first : ℕ) (kin : List Kin) (n : ℕ) → first + length kin ≤ n → AllBelow n (places_from test first kin)
places-within test first [] n h = tt
places-within test first (d ∷ kin) n h = one (test d) (places-within test (first + 1) kin n (omega (arith, h)))
  where
    one : (b : Bool) → AllBelow n (places_from test (first + 1) kin) → AllBelow n ((if b then first ∷ [] else []) ++ places_from test (first + 1) kin)
    one true rest = (omega (arith, h), rest)
    one false rest = rest

visits-within : (n : ℕ) (f : ℕ → List ℕ) (places : List ℕ) → AllBelow n places → ((p : ℕ) → p < n → AllBelow n (f p)) → AllBelow n (flat_map f places)
visits-within n f [] a h = tt
visits-within n f (p ∷ places) a h = All-append (λ q. q < n) (f p) (flat_map f places) (h p a.0) (visits-within n f places a.1 h)

visit-within : (kin : List Kin) (n : ℕ) → length kin ≤ n → (generations at : ℕ) → at < n → AllBelow n (visit kin generations at)
unfolding visit
visit-within kin n few zero at h = tt
visit-within kin n few (suc generations) at h =
    All-append (λ q. q < n) (flat_map (visit kin generations) (places_from (is_child BeforeParent at) 0 kin)) (at ∷ flat_map (visit kin generations) (places_from (is_child AfterParent at) 0 kin))
    (visits-within n (visit kin generations) (places_from (is_child BeforeParent at) 0 kin) (places-within (is_child BeforeParent at) 0 kin n (omega (arith, few))) (λ p b. visit-within kin n few generations p b))
    (h, visits-within n (visit kin generations) (places_from (is_child AfterParent at) 0 kin) (places-within (is_child AfterParent at) 0 kin n (omega (arith, few))) (λ p b. visit-within kin n few generations p b))

pub walk-within : (all : List DeviceView) → AllBelow (length all) (walk all)
walk-within all =
    let same : length (related all) ≡ length all = length-map all (kin_of all) in
    visits-within (length all) (visit (related all) (length (related all))) (places_from is_root 0 (related all))
    (places-within is_root 0 (related all) (length all) (omega (arith, same)))
    (λ p b. visit-within (related all) (length all) (omega (arith, same)) (length (related all)) p b)

-- There are as many devices, whatever happens.
pub as-many : (s : Scene) (past now : List Event) → length (views s.basis now) ≡ length (views s.basis past)
as-many s past now =
    length-map (devices s.basis.facts) (view_of (live now) (known s.basis now)) ∙ sym (length-map (devices s.basis.facts) (view_of (live past) (known s.basis past)))
