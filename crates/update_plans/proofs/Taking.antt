-- What the loops find and leave that make plans and check them.
use Rattle.std.proofs.Common.{◌≡◌, ◌≢◌, ℕ, zero, suc, ◌+◌, ◌-◌, ◌<◌, ◌≤◌, Bool, true, false, List, [], ◌∷◌, ◌++◌, length, map, drop, take, get_or, refl, sym, ap, ◌∙◌, subst, arith, add-one, drop-cons}
use Rattle.std.proofs.Math.Seq.{take-suc}
use Rattle.std.proofs.lemmas.Option.{same_Some, slice_get_read}
use Rattle.std.specs.Prelude.{AllPairs, Option, Some, None, find, is_some, slice_get, option_map, if◌then◌else◌}
use Rattle.std.specs.Option.{option_map_or}
use Rattle.std.specs.Ordering.{is_gt}
use Rattle.std.specs.Str.{bytes_eq}
use Rattle.version_formats.specs.VersionOrder.{version_cmp}
use Rattle.fw_facts.specs.declared.seen.Mode.{Mode}
use Rattle.fw_facts.specs.declared.seen.Seen.{Seen}
use Rattle.fw_facts.specs.declared.sheet.Sheet.{Sheet}
use Rattle.fw_facts.specs.declared.view.DeviceView.{DeviceView}
use Rattle.fw_facts.specs.Views.{guids_of, guids_shown}
use Rattle.release_catalogue.specs.declared.reference.ReleaseRef.{ReleaseRef}
use Rattle.update_log.specs.declared.event.Event.{Event}
use Rattle.update_log.specs.Boards.{Board, devices}
use Rattle.core_state.specs.Core.{Core, Stands}
use Rattle.update_log.specs.Holding.{live}
use Rattle.update_log.specs.Known.{known, view_of as view_in, views}
use Rattle.update_log.specs.Pasts.{past_of}
use Rattle.update_log.proofs.Devices.{devices-differ}
use Rattle.update_log.proofs.Lists.{by_test}
use Rattle.update_log.proofs.Openings.{bytes-same, bytes-self}
use Rattle.update_plans.specs.Choosing.{first_some, good_step, side_of, tried, tried_at, version_found}
use Rattle.update_plans.specs.Plans.{Scene, after, chain, chains, device_at, first_bad, installed, is_good, next_step, plan, view_of}
use Rattle.update_plans.specs.Walks.{walk}
use Rattle.update_plans.specs.declared.plan.PlanStep.{PlanStep}
use Rattle.update_plans.proofs.Chained.{Goes, chain-none, chain-zero, chains-push, device-stays, first_bad-bad, first_bad-good, get-map, goes-end, goes-turn}
use Rattle.update_plans.proofs.Planned.{after-append}
use Rattle.update_plans.proofs.Shown.{view-now}
use Rattle.update_plans.proofs.Within.{AllBelow, as-many}

-- ---- places

pub got_at : {X : Type 0} (xs : List X) (at : ℕ) (x : X) → at < length xs → x ≡ get_or xs at x → slice_get xs at ≡ Some x
got_at xs at x within e = slice_get_read xs (length xs) at x refl within e

record IsAt {X : Type 0} (xs : List X) (at : ℕ) (x d : X) : Type 0 where
  within : at < length xs
  is : get_or xs at d ≡ x

at-got : {X : Type 0} (xs : List X) (at : ℕ) (x d : X) → slice_get xs at ≡ Some x → IsAt xs at x d
at-got [] at x d e = cc
at-got (y ∷ xs) zero x d e = record { within = omega arith; is = same_Some _ _ e }
at-got (y ∷ xs) (suc at) x d e = let more = at-got xs at x d e in record { within = (let w = more.within in omega (arith, w)); is = more.is }

-- ---- devices

abbrev Differ : List Board → Type 0
Differ bs = AllPairs (λ a b. a.sheet.device ≢ b.sheet.device) bs

-- a device is found by its own ID
own-found : (bs : List Board) → Differ bs → (at : ℕ) (b : Board) → slice_get bs at ≡ Some b → find (λ x. bytes_eq x.sheet.device b.sheet.device) bs ≡ Some b
own-found [] differ at b e = cc
own-found (x ∷ bs) differ zero b e =
    subst (λ (y : Board). find (λ z. bytes_eq z.sheet.device y.sheet.device) (x ∷ bs) ≡ Some y) (same_Some _ _ e) (rw (bytes-self x.sheet.device) refl)
own-found (x ∷ bs) differ (suc at) b e =
    let there = at-got bs at b b e in
    let other : x.sheet.device ≢ b.sheet.device =
    subst (λ (y : Board). x.sheet.device ≢ y.sheet.device) there.is (differ 0 (suc at) b (omega arith) (let w = there.within in omega (arith, w))) in
    by_test (bytes_eq x.sheet.device b.sheet.device) _
    (λ t. absurd (other (bytes-same x.sheet.device b.sheet.device t)))
    (λ f. rw f (own-found bs (λ i j d l m. differ (suc i) (suc j) d (omega (arith, l)) (omega (arith, m))) at b e))

record OfBoard (s : Scene) (past : List Event) (at : ℕ) (v : DeviceView) : Type 0 where
  b : Board
  there : slice_get (devices s.basis.facts) at ≡ Some b
  view_is : v ≡ view_in (live past) (known s.basis past) b

of-board : (s : Scene) (past : List Event) (at : ℕ) (v : DeviceView) → slice_get (views s.basis past) at ≡ Some v → OfBoard s past at v
of-board s past at v e = of (slice_get (devices s.basis.facts) at) refl (sym (get-map (view_in (live past) (known s.basis past)) (devices s.basis.facts) at) ∙ e)
  where
    of : (o : Option Board) → slice_get (devices s.basis.facts) at ≡ o → option_map (view_in (live past) (known s.basis past)) o ≡ Some v → OfBoard s past at v
    of None there h = cc
    of (Some b) there h = record { b = b; there = there; view_is = sym (same_Some _ _ h) }

-- the device at a place is the one of its ID
pub own-view : (s : Scene) (past : List Event) (at : ℕ) (v : DeviceView) → slice_get (views s.basis past) at ≡ Some v → view_of s v.sheet.device past ≡ Some v
own-view s past at v e =
    let o = of-board s past at v e in
    subst (λ (x : DeviceView). view_of s x.sheet.device past ≡ Some x) (sym o.view_is)
    (view-now s o.b.sheet.device o.b past (own-found (devices s.basis.facts) (devices-differ s.basis.facts) at o.b o.there))

pub own-device : (s : Scene) (core : Core) (at : ℕ) (v : DeviceView) → Stands s.basis core → slice_get core.views at ≡ Some v → view_of s (device_at core.views at) (past_of core.log) ≡ Some v
own-device s core at v stands e =
    let here : slice_get (views s.basis (past_of core.log)) at ≡ Some v = ap (λ (vs : List DeviceView). slice_get vs at) (sym stands.views) ∙ e in
    ap (λ (o : Option DeviceView). view_of s (option_map_or (λ view. view.sheet.device) o []) (past_of core.log)) e ∙ own-view s (past_of core.log) at v here

-- it keeps its place, its ID and its sheet
module _ (s : Scene) (old new : Core) (at : ℕ) (before : Stands s.basis old) (after : Stands s.basis new) where
  pub device-kept : device_at new.views at ≡ device_at old.views at
  device-kept =
      ap (λ (vs : List DeviceView). device_at vs at) after.views ∙ device-stays s (past_of old.log) (past_of new.log) at
      ∙ sym (ap (λ (vs : List DeviceView). device_at vs at) before.views)

  pub places-kept : length new.views ≡ length old.views
  places-kept =
      ap (λ (vs : List DeviceView). length vs) after.views ∙ as-many s (past_of old.log) (past_of new.log)
      ∙ sym (ap (λ (vs : List DeviceView). length vs) before.views)

  -- on one side it shows the same GUIDs
  pub guids-kept : (v w : DeviceView) → slice_get old.views at ≡ Some v → slice_get new.views at ≡ Some w → side_of w.seen ≡ side_of v.seen → guids_of w ≡ guids_of v
  guids-kept v w e f side =
      let o = of-board s (past_of old.log) at v (ap (λ (vs : List DeviceView). slice_get vs at) (sym before.views) ∙ e) in
      let n = of-board s (past_of new.log) at w (ap (λ (vs : List DeviceView). slice_get vs at) (sym after.views) ∙ f) in
      let b : n.b ≡ o.b = same_Some _ _ (sym n.there ∙ o.there) in
      let sheet : w.sheet ≡ v.sheet = ap (λ (x : DeviceView). x.sheet) n.view_is ∙ ap (λ (x : Board). x.sheet) b ∙ sym (ap (λ (x : DeviceView). x.sheet) o.view_is) in
      ap (λ (x : Sheet). guids_shown x w.seen) sheet ∙ same v.sheet w.seen v.seen side
    where
      modes : (sheet : Sheet) (m m' : Mode) (raw raw' : ℕ) → m ≡ m' → guids_shown sheet (Seen.Home raw m) ≡ guids_shown sheet (Seen.Home raw' m')
      modes sheet Mode.Runtime Mode.Runtime raw raw' e = refl
      modes sheet Mode.Bootloader Mode.Bootloader raw raw' e = refl
      modes sheet Mode.Runtime Mode.Bootloader raw raw' e = cc
      modes sheet Mode.Bootloader Mode.Runtime raw raw' e = cc

      same : (sheet : Sheet) (x y : Seen) → side_of x ≡ side_of y → guids_shown sheet x ≡ guids_shown sheet y
      same sheet (Seen.Home raw m) (Seen.Home raw' m') e = modes sheet m m' raw raw' (same_Some _ _ e)
      same sheet Seen.Gone Seen.Gone e = refl
      same sheet Seen.Gone Seen.Stranger e = refl
      same sheet Seen.Stranger Seen.Gone e = refl
      same sheet Seen.Stranger Seen.Stranger e = refl
      same sheet _ _ e = cc

-- ---- the tries

module _ (s : Scene) (number : ℕ) (view : DeviceView) (shown : List ℕ) (past : List Event) where
  -- it isn't there, or isn't above, or is good, or isn't
  pub none-there : (at : ReleaseRef) (more : Option PlanStep) → version_found s.basis.facts at ≡ None → tried_at s number view shown past at more (version_found s.basis.facts at) ≡ None
  none-there at more e = ap (tried_at s number view shown past at more) e

  pub not-above : (at : ReleaseRef) (more : Option PlanStep) (version : List ℕ) → version_found s.basis.facts at ≡ Some version → is_gt (version_cmp version shown) ≡ false
      → tried_at s number view shown past at more (version_found s.basis.facts at) ≡ None
  not-above at more version e f =
      ap (tried_at s number view shown past at more) e ∙ ap (λ (b : Bool). if b then first_some (good_step s number view at version past) more else None) f

  pub first-tried : (at : ReleaseRef) (more : Option PlanStep) (version : List ℕ) (found : Option PlanStep) → version_found s.basis.facts at ≡ Some version → is_gt (version_cmp version shown) ≡ true
      → found ≡ good_step s number view at version past → tried_at s number view shown past at more (version_found s.basis.facts at) ≡ first_some found more
  first-tried at more version found e f g =
      ap (tried_at s number view shown past at more) e ∙ ap (λ (b : Bool). if b then first_some (good_step s number view at version past) more else None) f
      ∙ ap (λ (o : Option PlanStep). first_some o more) (sym g)

pub first-is : (o more : Option PlanStep) → is_some o ≡ true → first_some o more ≡ o
first-is None more h = cc
first-is (Some step) more h = refl

pub first-none : (o more : Option PlanStep) → is_some o ≡ false → first_some o more ≡ more
first-none None more h = refl
first-none (Some step) more h = cc

-- ---- the steps of a device

pub turn-goes : (s : Scene) (device : List ℕ) (steps new whole : List PlanStep) (past now end : List Event) (step : PlanStep) (number : ℕ) → length steps < 8192 → number ≡ length steps + 1
    → next_step s number device past ≡ Some step → new ≡ steps ++ step ∷ [] → now ≡ installed s number step past → Goes s device steps whole past end → Goes s device new whole now end
turn-goes s device steps new whole past now end step number few same next put went g =
    subst (λ (xs : List PlanStep). Goes s device xs whole now end) (sym put)
    (subst (λ (p : List Event). Goes s device (steps ++ step ∷ []) whole p end) (sym (went ∙ ap (λ (n : ℕ). installed s n step past) same))
    (goes-turn s device steps whole past end step few (subst (λ (n : ℕ). next_step s n device past ≡ Some step) same next) g))

pub ends-none : (s : Scene) (device : List ℕ) (steps whole : List PlanStep) (past end : List Event) (number : ℕ) → number ≡ length steps + 1 → next_step s number device past ≡ None → Goes s device steps whole past end
    → (steps ≡ whole) × (past ≡ end)
ends-none s device steps whole past end number same none g =
    goes-end s device steps whole past end g
    (chain-none s device (8192 - length steps) (length steps + 1) past (subst (λ (n : ℕ). next_step s n device past ≡ None) same none))

pub ends-full : (s : Scene) (device : List ℕ) (steps whole : List PlanStep) (past end : List Event) → 8192 ≤ length steps → Goes s device steps whole past end → (steps ≡ whole) × (past ≡ end)
ends-full s device steps whole past end full g =
    let none : 8192 - length steps ≡ 0 = omega (arith, full) in
    goes-end s device steps whole past end g (ap (λ (n : ℕ). chain s device n (length steps + 1) past) none ∙ chain-zero s device (length steps + 1) past)

-- ---- device behind device

pub turn-chains : (s : Scene) (before now : List Event) (xs : List (List ℕ)) (device : List ℕ) (steps new : List PlanStep) → steps ≡ chains s xs 8192 1 before → now ≡ after s 1 steps before
    → new ≡ steps ++ chain s device (8192 - length steps) (length steps + 1) now → new ≡ chains s (xs ++ device ∷ []) 8192 1 before
turn-chains s before now xs device steps new so_far past put =
    let count : length steps + 1 ≡ 1 + length steps = omega arith in
    put ∙ ap (λ (p : List Event). steps ++ chain s device (8192 - length steps) (length steps + 1) p) past
    ∙ ap (λ (n : ℕ). steps ++ chain s device (8192 - length steps) n (after s 1 steps before)) count
    ∙ ap (λ (zs : List PlanStep). zs ++ chain s device (8192 - length zs) (1 + length zs) (after s 1 zs before)) so_far
    ∙ sym (chains-push s xs device 8192 1 before)

pub turn-after : (s : Scene) (before now next : List Event) (steps own new : List PlanStep) → now ≡ after s 1 steps before → next ≡ after s (length steps + 1) own now → new ≡ steps ++ own
    → next ≡ after s 1 new before
turn-after s before now next steps own new past went put =
    let count : length steps + 1 ≡ 1 + length steps = omega arith in
    went ∙ ap (after s (length steps + 1) own) past ∙ ap (λ (n : ℕ). after s n own (after s 1 steps before)) count
    ∙ sym (after-append s 1 steps own before) ∙ ap (λ (zs : List PlanStep). after s 1 zs before) (sym put)

map-both : {X Y : Type 0} (f : X → Y) (xs ys : List X) → map f (xs ++ ys) ≡ map f xs ++ map f ys
map-both f [] ys = refl
map-both {X} {Y} f (x ∷ xs) ys = ap (λ (zs : List Y). f x ∷ zs) (map-both f xs ys)

pub mapped-more : {X Y : Type 0} (f : X → Y) (xs : List X) (i : ℕ) (d : X) → i < length xs → map f (take (i + 1) xs) ≡ map f (take i xs) ++ f (get_or xs i d) ∷ []
mapped-more {X} {Y} f xs i d within =
    ap (λ (n : ℕ). map f (take n xs)) (add-one i) ∙ ap (map f) (take-suc xs i d within) ∙ map-both f (take i xs) (get_or xs i d ∷ [])

-- a place of the walk is a device's
pub below-at : (n : ℕ) (places : List ℕ) (i : ℕ) → AllBelow n places → i < length places → get_or places i 0 < n
below-at n [] i a within = absurd (omega (arith, within))
below-at n (p ∷ places) zero a within = a.0
below-at n (p ∷ places) (suc i) a within = below-at n places i a.1 (omega (arith, within))

-- ---- the whole plan

pub chains-nil : (s : Scene) (before : List Event) → [] ≡ chains s [] 8192 1 before
unfolding chains
chains-nil s before = refl

pub after-nil : (s : Scene) (before : List Event) → before ≡ after s 1 [] before
unfolding after
after-nil s before = refl

pub plan-is : (s : Scene) (before : List Event) → plan s before ≡ chains s (map (device_at (views s.basis before)) (walk (views s.basis before))) 8192 1 before
unfolding plan
plan-is s before = refl

-- ---- what stands at a place

drop-got : {X : Type 0} (xs : List X) (i : ℕ) (x : X) → slice_get xs i ≡ Some x → drop i xs ≡ x ∷ drop (i + 1) xs
drop-got {X} xs i x e =
    let there = at-got xs i x x e in
    drop-cons xs i x there.within ∙ ap (λ (y : X). y ∷ drop (suc i) xs) there.is ∙ ap (λ (n : ℕ). x ∷ drop n xs) (sym (add-one i))

pub tried-got : (s : Scene) (number : ℕ) (view : DeviceView) (shown : List ℕ) (past : List Event) (places : List ReleaseRef) (i : ℕ) (at : ReleaseRef) → slice_get places i ≡ Some at
    → tried s number view shown past (drop i places) ≡ tried_at s number view shown past at (tried s number view shown past (drop (i + 1) places)) (version_found s.basis.facts at)
tried-got s number view shown past places i at e = ap (tried s number view shown past) (drop-got places i at e)

pub good-got : (s : Scene) (steps : List PlanStep) (i : ℕ) (step : PlanStep) (past now : List Event) → slice_get steps i ≡ Some step → is_good s (i + 1) step past ≡ true
    → now ≡ installed s (i + 1) step past → first_bad s (i + 1) (drop i steps) past ≡ first_bad s (i + 1 + 1) (drop (i + 1) steps) now
good-got s steps i step past now e good went =
    ap (λ (xs : List PlanStep). first_bad s (i + 1) xs past) (drop-got steps i step e)
    ∙ first_bad-good s (i + 1) step (drop (i + 1) steps) past good
    ∙ ap (first_bad s (i + 1 + 1) (drop (i + 1) steps)) (sym went)

pub bad-got : (s : Scene) (steps : List PlanStep) (i : ℕ) (step : PlanStep) (past : List Event) → slice_get steps i ≡ Some step → is_good s (i + 1) step past ≡ false → first_bad s (i + 1) (drop i steps) past ≡ Some (i + 1)
bad-got s steps i step past e bad =
    ap (λ (xs : List PlanStep). first_bad s (i + 1) xs past) (drop-got steps i step e) ∙ first_bad-bad s (i + 1) step (drop (i + 1) steps) past bad
