-- The first good release above the version shown, of releases from the highest down, is the highest that may come next.
use Rattle.std.proofs.Common.{◌≡◌, ℕ, zero, suc, ◌<◌, ◌⊎◌, ◌&&◌, ◌||◌, ◌==◌, Bool, true, false, cond, not, nat_lt, List, [], ◌∷◌, ◌++◌, map, inl, inr, append_assoc, refl, sym, ap, ◌∙◌, subst, arith}
use Rattle.std.specs.Prelude.{All, AllPairs, Option, Some, None, filter, find, is_some, option_map, option_and_then, if◌then◌else◌}
use Rattle.std.specs.Option.{option_map_or}
use Rattle.std.specs.List.{AllByRecursion, list_any}
use Rattle.std.specs.Ordering.{is_gt, is_le, is_lt, ordering_reverse}
use Rattle.std.specs.declared.cmp.Ordering.{Ordering}
use Rattle.std.specs.declared.cmp.Ordering.TheVariants.{Less, Equal, Greater}
use Rattle.std.proofs.lemmas.Bool.{eqb-true, ltb-true, or_parts, and_parts, or_cases}
use Rattle.std.proofs.lemmas.List.Folds.{list_any-append}
use Rattle.std.proofs.lemmas.List.Sorted.{All-permutation, list_any-IsPermutation}
use Rattle.version_formats.specs.VersionOrder.{version_cmp}
use Rattle.version_formats.proofs.VersionLaws.{version_cmp-back, version_cmp-reflexive, version_cmp-transitive}
use Rattle.fw_facts.specs.declared.view.DeviceView.{DeviceView}
use Rattle.fw_facts.specs.Views.{guids_of, version_of}
use Rattle.release_catalogue.specs.declared.reference.ReleaseRef.{ReleaseRef}
use Rattle.release_catalogue.specs.Lookup.{Chosen, all_releases, provides}
use Rattle.release_catalogue.specs.Places.{matching_places}
use Rattle.update_log.specs.declared.event.Event.{Event}
use Rattle.update_log.specs.Verdicts.{is_release}
use Rattle.update_log.proofs.Devices.{IsIn, each-in}
use Rattle.std.proofs.lemmas.List.{append-nil}
use Rattle.std.proofs.lemmas.Option.{same_Some}
use Rattle.update_log.specs.Known.{views}
use Rattle.update_log.proofs.Lists.{All-append, All-both, All-filter, All-map, All-push, by_test, eqb-self, find-passes}
use Rattle.update_log.proofs.Openings.{bytes-same}
use Rattle.update_plans.specs.Choosing.{IsHighestFirst, comes_before, found_cmp, goes_first, first_some, good_step, is_higher, tried, tried_at, version_at, version_found, where_good}
use Rattle.update_plans.specs.Plans.{Scene, has_id, highest, is_above, is_good, may_come, next_step, release_at, step_of, view_of}
use Rattle.update_plans.specs.RawNumbers.{raw_of}
use Rattle.update_plans.specs.declared.plan.PlanStep.{PlanStep}
use Rattle.update_plans.proofs.Chained.{good-step}
use Rattle.update_plans.proofs.Highest.{Ordered, Parted, catalogue-ordered, highest-is, highest-none, parted}
use Rattle.update_plans.proofs.Targets.{found, release-same, tests}

-- ---- orders

back-gt : (a b : List ℕ) → is_gt (version_cmp a b) ≡ is_lt (version_cmp b a)
back-gt a b = ap is_gt (version_cmp-back b a) ∙ of (version_cmp b a)
  where
    of : (o : Ordering) → is_gt (ordering_reverse o) ≡ is_lt o
    of Less = refl
    of Equal = refl
    of Greater = refl

back-le : (a b : List ℕ) → is_lt (version_cmp a b) ≡ false → is_le (version_cmp b a) ≡ true
back-le a b h = ap is_le (version_cmp-back a b) ∙ of (version_cmp a b) h
  where
    of : (o : Ordering) → is_lt o ≡ false → is_le (ordering_reverse o) ≡ true
    of Less h = cc
    of Equal h = refl
    of Greater h = refl

le-not : (a b : List ℕ) → is_le (version_cmp a b) ≡ true → is_lt (version_cmp b a) ≡ false
le-not a b h = ap is_lt (version_cmp-back a b) ∙ of (version_cmp a b) h
  where
    of : (o : Ordering) → is_le o ≡ true → is_lt (ordering_reverse o) ≡ false
    of Less h = refl
    of Equal h = refl
    of Greater h = cc

-- ---- places

same-self : (a : ReleaseRef) → is_release a a ≡ true
same-self a = rw (eqb-self a.component, eqb-self a.release) refl

before-cases : (a b : ReleaseRef) → comes_before a b ≡ true → (a.component < b.component) ⊎ ((a.component ≡ b.component) × (a.release < b.release))
before-cases a b h = of (or_cases (nat_lt a.component b.component) _ h)
  where
    of : (nat_lt a.component b.component ≡ true) ⊎ (((a.component == b.component) && nat_lt a.release b.release) ≡ true) → (a.component < b.component) ⊎ ((a.component ≡ b.component) × (a.release < b.release))
    of (inl t) = inl (ltb-true a.component b.component t)
    of (inr t) = let parts = and_parts (a.component == b.component) (nat_lt a.release b.release) t in inr (eqb-true a.component b.component parts.0, ltb-true a.release b.release parts.1)

pub before-once : (a b : ReleaseRef) → comes_before a b ≡ true → comes_before b a ≡ true → ⊥
before-once a b h k = of (before-cases a b h) (before-cases b a k)
  where
    of : (a.component < b.component) ⊎ ((a.component ≡ b.component) × (a.release < b.release)) → (b.component < a.component) ⊎ ((b.component ≡ a.component) × (b.release < a.release)) → ⊥
    of (inl x) (inl y) = omega (arith, x, y)
    of (inl x) (inr (e, y)) = omega (arith, x, e)
    of (inr (e, x)) (inl y) = omega (arith, y, e)
    of (inr (e, x)) (inr (f, y)) = omega (arith, x, y)

before-other : (a b : ReleaseRef) → comes_before a b ≡ true → is_release a b ≡ false
before-other a b h =
    by_test (is_release a b) _
    (λ t. let same : a ≡ b = release-same a b t in absurd (before-once b b (subst (λ (x : ReleaseRef). comes_before x b ≡ true) same h) (subst (λ (x : ReleaseRef). comes_before x b ≡ true) same h)))
    (λ f. f)

-- each release is the one that is found at its place
own-found : (all : List Chosen) → Ordered all → AllByRecursion (λ y. find (λ c. is_release c.at y.at) all ≡ Some y) all
own-found [] o = tt
own-found (x ∷ xs) o = (
  rw (same-self x.at) refl,
  All-both (λ y. comes_before x.at y.at ≡ true) (λ y. find (λ c. is_release c.at y.at) xs ≡ Some y) (λ y. find (λ c. is_release c.at y.at) (x ∷ xs) ≡ Some y) xs o.0 (own-found xs o.1)
      (λ y b e. rw (before-other x.at y.at b) e),
)

-- ---- the order of the list

-- None of the places behind one goes before it.
abbrev pub Falls : Scene → List ReleaseRef → Type 0
Falls s [] = Unit {0}
Falls s (at ∷ rest) = AllByRecursion (λ r. goes_first s.basis.facts r at ≡ false) rest × Falls s rest

each-of : {X : Type 0} (P : X → Type 0) (xs : List X) → All P xs → AllByRecursion P xs
each-of P [] a = tt
each-of P (x ∷ xs) a = (a 0 x (omega arith), each-of P xs (λ k d within. a (suc k) d (omega (arith, within))))

falls : (s : Scene) (xs : List ReleaseRef) → AllPairs (λ a b. goes_first s.basis.facts b a ≡ false) xs → Falls s xs
falls s [] a = tt
falls s (x ∷ xs) a = (
  each-of (λ r. goes_first s.basis.facts r x ≡ false) xs (λ k d within. a 0 (suc k) d (omega arith) (omega (arith, within))),
  falls s xs (λ i j d l m. a (suc i) (suc j) d (omega (arith, l)) (omega (arith, m))),
)

-- what holds of each place holds of one that is among them
among : (P : ReleaseRef → Type 0) (xs : List ReleaseRef) (y : ReleaseRef) → AllByRecursion P xs → list_any (is_release y) xs ≡ true → P y
among P [] y a h = cc
among P (x ∷ xs) y a h =
    by_test (is_release y x) (P y)
    (λ t. subst P (sym (release-same y x t)) a.0)
    (λ f. among P xs y a.1 (rw f at h))

any-more : (c : Bool) (guids : List (List ℕ)) (y : ReleaseRef) (all : List Chosen)
    → (list_any (λ z. provides guids z.component && is_release y z.at) all ≡ true → list_any (is_release y) (map (λ chosen. chosen.at) (filter (λ chosen. provides guids chosen.component) all)) ≡ true)
    → (c || list_any (λ z. provides guids z.component && is_release y z.at) all) ≡ true
    → (c || list_any (is_release y) (map (λ chosen. chosen.at) (filter (λ chosen. provides guids chosen.component) all))) ≡ true
any-more true guids y all more h = refl
any-more false guids y all more h = more h

any-matching : (guids : List (List ℕ)) (y : ReleaseRef) (all : List Chosen) → list_any (λ z. provides guids z.component && is_release y z.at) all ≡ true
    → list_any (is_release y) (map (λ chosen. chosen.at) (filter (λ chosen. provides guids chosen.component) all)) ≡ true
any-matching guids y [] h = cc
any-matching guids y (z ∷ all) h = of (provides guids z.component) h (λ k. any-matching guids y all k)
  where
    of : (b : Bool) → ((b && is_release y z.at) || list_any (λ z. provides guids z.component && is_release y z.at) all) ≡ true
        → (list_any (λ z. provides guids z.component && is_release y z.at) all ≡ true → list_any (is_release y) (map (λ chosen. chosen.at) (filter (λ chosen. provides guids chosen.component) all)) ≡ true)
        → list_any (is_release y) (map (λ chosen. chosen.at) (cond b (z ∷ filter (λ chosen. provides guids chosen.component) all) (filter (λ chosen. provides guids chosen.component) all))) ≡ true
    of true h more = any-more (is_release y z.at) guids y all more h
    of false h more = more h

-- ---- the choice

of-each : {X : Type 0} (P : X → Type 0) (xs : List X) → AllByRecursion P xs → All P xs
of-each P [] a k d within = absurd (omega (arith, within))
of-each P (x ∷ xs) a zero d within = a.0
of-each P (x ∷ xs) a (suc k) d within = of-each P xs a.1 k d (omega (arith, within))

each-mapped : {X Y : Type 0} (P : Y → Type 0) (f : X → Y) (xs : List X) → AllByRecursion (λ x. P (f x)) xs → AllByRecursion P (map f xs)
each-mapped P f [] a = tt
each-mapped P f (x ∷ xs) a = (a.0, each-mapped P f xs a.1)

-- where a release stands at a place, its version decides
tried-there : (s : Scene) (number : ℕ) (view : DeviceView) (shown : List ℕ) (past : List Event) (at : ReleaseRef) (more : Option PlanStep) (o : Option Chosen) → is_some o ≡ true
    → tried_at s number view shown past at more (option_map (λ (chosen : Chosen). chosen.release.version) o)
    ≡ (if is_gt (version_cmp (option_map_or (λ (chosen : Chosen). chosen.release.version) o []) shown)
    then first_some (good_step s number view at (option_map_or (λ (chosen : Chosen). chosen.release.version) o []) past) more else None)
tried-there s number view shown past at more None h = cc
tried-there s number view shown past at more (Some y) h = refl

module _ (s : Scene) (number : ℕ) (device : List ℕ) (view : DeviceView) (shown : List ℕ) (past : List Event) (places : List ReleaseRef)
    (here : view_of s device past ≡ Some view) (shows : version_of view ≡ Some shown) (sorted : IsHighestFirst s.basis.facts (guids_of view) places) where
  abbrev all : List Chosen
  all = all_releases s.basis.facts.catalogue

  abbrev passes : Chosen → Bool
  passes = may_come s number view past

  -- a release of the catalogue
  record One (y : Chosen) : Type 0 where
    own : release_at s y.at ≡ Some y
    inside : IsIn all y

  ones : AllByRecursion One all
  ones = All-both (λ y. release_at s y.at ≡ Some y) (IsIn all) One all (own-found all (catalogue-ordered s.basis.facts.catalogue)) (each-in all) (λ y o i. record { own = o; inside = i })

  -- what passes is above, and its step is good
  record Passes (y : Chosen) : Type 0 where
    above : is_gt (version_cmp y.release.version shown) ≡ true
    step : PlanStep
    step_is : step_of view y ≡ Some step
    good : is_good s number step past ≡ true

  passing : (y : Chosen) → passes y ≡ true → Passes y
  passing y h =
      let parts = and_parts (is_above view y) (option_map_or (λ step. is_good s number step past) (step_of view y) false) h in
      of (step_of view y) refl parts.1 (back-gt y.release.version shown ∙ sym (ap (λ (v : Option (List ℕ)). option_map_or (λ shown. is_lt (version_cmp shown y.release.version)) v false) shows) ∙ parts.0)
    where
      of : (o : Option PlanStep) → step_of view y ≡ o → option_map_or (λ step. is_good s number step past) o false ≡ true → is_gt (version_cmp y.release.version shown) ≡ true → Passes y
      of None e g a = cc
      of (Some step) e g a = record { above = a; step = step; step_is = e; good = g }

  -- its step asks for that release on that device
  record Asks (y : Chosen) (step : PlanStep) : Type 0 where
    at_is : step.release ≡ y.at
    device_is : step.device ≡ view.sheet.device

  asks-so : (y : Chosen) (step : PlanStep) → step_of view y ≡ Some step → Asks y step
  asks-so y step e = of (raw_of view.sheet.format y.release.version) e
    where
      of : (o : Option ℕ) → option_map (λ raw. record { device = view.sheet.device; release = y.at; raw = raw }) o ≡ Some step → Asks y step
      of None e = cc
      of (Some raw) e = let same = same_Some _ _ e in record { at_is = ap (λ (x : PlanStep). x.release) (sym same); device_is = ap (λ (x : PlanStep). x.device) (sym same) }

  -- so its component provides a GUID that the device shows, and its place is among the places
  listed : (y : Chosen) → One y → passes y ≡ true → list_any (is_release y.at) places ≡ true
  listed y o h =
      let p : Passes y = passing y h in
      let a : Asks y p.step = asks-so y p.step p.step_is in
      let g = good-step s number p.step past p.good in
      let same : g.chosen ≡ y = same_Some _ _ (sym g.there ∙ ap (release_at s) a.at_is ∙ o.own) in
      let all_so = tests s number p.step g.chosen past g.good in
      let f = found s number p.step g.chosen past g.there all_so.asked_so in
      let seen : f.t.view ≡ view = same_Some _ _ (sym f.view_is ∙ ap (λ (d : List ℕ). view_of s d past) (a.device_is ∙ device-own) ∙ here) in
      let one : f.t.chosen ≡ y = f.chosen_is ∙ same in
      let provided : provides (guids_of view) y.component ≡ true =
      ap (λ (v : DeviceView). provides (guids_of v) y.component) (sym seen) ∙ ap (λ (c : Chosen). provides (guids_of f.t.view) c.component) (sym one) ∙ f.provided in
      sym (list_any-IsPermutation (is_release y.at) (matching_places s.basis.facts.catalogue (guids_of view)) places sorted.same)
      ∙ any-matching (guids_of view) y.at all (o.inside (λ z. provides (guids_of view) z.component && is_release y.at z.at) (rw (provided, same-self y.at) refl))
    where
      device-own : view.sheet.device ≡ device
      device-own = bytes-same view.sheet.device device (find-passes (has_id device) (views s.basis past) view here)

  -- ---- places that were tried

  abbrev Fails : ReleaseRef → Type 0
  Fails at = (y : Chosen) → release_at s at ≡ Some y → passes y ≡ false

  -- where all fail, none may come
  none-next : AllByRecursion Fails places → next_step s number device past ≡ None
  unfolding next_step
  none-next fail =
      ap (option_and_then (λ view. option_and_then (step_of view) (highest (filter (may_come s number view past) (all_releases s.basis.facts.catalogue))))) here
      ∙ ap (option_and_then (step_of view)) (highest-none passes all (All-map One (λ y. passes y ≡ false) all ones none))
    where
      none : (y : Chosen) → One y → passes y ≡ false
      none y o = by_test (passes y) _ (λ t. among Fails places y.at fail (listed y o t) y o.own) (λ f. f)

  -- a place whose version isn't above the one shown, and those behind it
  below : (at : ReleaseRef) → is_gt (version_cmp (version_at s.basis.facts at) shown) ≡ false → Fails at
  below at h y own = by_test (passes y) _ (λ t. let p = passing y t in let bad : true ≡ false = sym (ap (λ (v : List ℕ). is_gt (version_cmp v shown)) (version-there at y own) ∙ p.above) ∙ h in cc) (λ f. f)
    where
      version-there : (at : ReleaseRef) (y : Chosen) → release_at s at ≡ Some y → version_at s.basis.facts at ≡ y.release.version
      version-there at y own = ap (λ (f : Option Chosen). option_map_or (λ chosen. chosen.release.version) f []) own

  found-own : (at : ReleaseRef) (y : Chosen) → release_at s at ≡ Some y → version_found s.basis.facts at ≡ Some y.release.version
  found-own at y own = ap (option_map (λ (chosen : Chosen). chosen.release.version)) own

  -- whether a release has a higher version than another
  higher-own : (a b : ReleaseRef) (y z : Chosen) → release_at s a ≡ Some y → release_at s b ≡ Some z → is_higher s.basis.facts a b ≡ is_lt (version_cmp z.release.version y.release.version)
  higher-own a b y z own other =
      ap (λ (v : Option (List ℕ)). is_lt (found_cmp v (version_found s.basis.facts a))) (found-own b z other)
      ∙ ap (λ (v : Option (List ℕ)). is_lt (found_cmp (Some z.release.version) v)) (found-own a y own)

  -- one that doesn't go before another has no higher version
  not-higher : (at r : ReleaseRef) (x y : Chosen) → release_at s at ≡ Some x → release_at s r ≡ Some y → goes_first s.basis.facts r at ≡ false → is_le (version_cmp y.release.version x.release.version) ≡ true
  not-higher at r x y own other g =
      let parts = or_parts (is_higher s.basis.facts r at) (not (is_higher s.basis.facts at r) && comes_before r at) g in
      back-le x.release.version y.release.version (sym (higher-own r at y x other own) ∙ parts.0)

  below-all : (at : ReleaseRef) (rest : List ReleaseRef) (x : Chosen) → release_at s at ≡ Some x → Falls s (at ∷ rest) → is_gt (version_cmp (version_at s.basis.facts at) shown) ≡ false → AllByRecursion Fails (at ∷ rest)
  below-all at rest x own f h = (
    below at h,
    All-map (λ r. goes_first s.basis.facts r at ≡ false) Fails rest f.0 (λ r g y other. lower-fails r y other (not-higher at r x y own other g)),
  )
    where
      low : is_le (version_cmp x.release.version shown) ≡ true
      low =
          back-le shown x.release.version
          (sym (back-gt x.release.version shown) ∙ ap (λ (v : List ℕ). is_gt (version_cmp v shown)) (sym (ap (λ (o : Option Chosen). option_map_or (λ chosen. chosen.release.version) o []) own)) ∙ h)

      lower-fails : (r : ReleaseRef) (y : Chosen) → release_at s r ≡ Some y → is_le (version_cmp y.release.version x.release.version) ≡ true → passes y ≡ false
      lower-fails r y other le =
          by_test (passes y) _
          (λ t.
          let p = passing y t in
          let no_more : is_gt (version_cmp y.release.version shown) ≡ false = back-gt y.release.version shown ∙ le-not y.release.version shown (version_cmp-transitive y.release.version x.release.version shown le low) in
          let bad : true ≡ false = sym p.above ∙ no_more in
          cc)
          (λ f. f)

  -- the one that is found good is the highest
  chosen-highest : (front rest : List ReleaseRef) (at : ReleaseRef) → front ++ at ∷ rest ≡ places → AllByRecursion Fails front → Falls s (at ∷ rest) → (y : Chosen) → release_at s at ≡ Some y → passes y ≡ true
      → highest (filter passes all) ≡ Some y
  chosen-highest front rest at whole fail f y own h =
      let parts : Parted all y = parted all at y (catalogue-ordered s.basis.facts.catalogue) own in
      highest-is passes all y parts h
      (front-lower parts)
      (All-map One (λ z. passes z ≡ true → is_lt (version_cmp y.release.version z.release.version) ≡ false) all ones (λ z o t. not-above z o t))
    where
      at-is : y.at ≡ at
      at-is = release-same y.at at (find-passes (λ (c : Chosen). is_release c.at at) all y own)

      -- what passes is the one or stands behind it in the list
      behind : (z : Chosen) → One z → passes z ≡ true → (z.at ≡ at) ⊎ (goes_first s.basis.facts z.at at ≡ false)
      behind z o t =
          let there : list_any (is_release z.at) (front ++ at ∷ rest) ≡ true = ap (list_any (is_release z.at)) whole ∙ listed z o t in
          of (or_cases (list_any (is_release z.at) front) (list_any (is_release z.at) (at ∷ rest)) (sym (list_any-append (is_release z.at) front (at ∷ rest)) ∙ there))
        where
          in-rest : (is_release z.at at ≡ true) ⊎ (list_any (is_release z.at) rest ≡ true) → (z.at ≡ at) ⊎ (goes_first s.basis.facts z.at at ≡ false)
          in-rest (inl e) = inl (release-same z.at at e)
          in-rest (inr e) = inr (among (λ r. goes_first s.basis.facts r at ≡ false) rest z.at f.0 e)

          of : (list_any (is_release z.at) front ≡ true) ⊎ (list_any (is_release z.at) (at ∷ rest) ≡ true) → (z.at ≡ at) ⊎ (goes_first s.basis.facts z.at at ≡ false)
          of (inl e) = let fails : passes z ≡ false = among Fails front z.at fail e z o.own in let bad : true ≡ false = sym t ∙ fails in cc
          of (inr e) = in-rest (or_cases (is_release z.at at) (list_any (is_release z.at) rest) e)

      not-above : (z : Chosen) → One z → passes z ≡ true → is_lt (version_cmp y.release.version z.release.version) ≡ false
      not-above z o t = of (behind z o t)
        where
          of : (z.at ≡ at) ⊎ (goes_first s.basis.facts z.at at ≡ false) → is_lt (version_cmp y.release.version z.release.version) ≡ false
          of (inl e) =
              let same : z ≡ y = same_Some _ _ (sym o.own ∙ ap (release_at s) e ∙ own) in
              ap (λ (c : Chosen). is_lt (version_cmp y.release.version c.release.version)) same ∙ ap is_lt (version_cmp-reflexive y.release.version)
          of (inr g) = le-not z.release.version y.release.version (not-higher at z.at y z own o.own g)

      -- and where it stands before it in the catalogue, it is lower
      lower : (z : Chosen) → One z → comes_before z.at y.at ≡ true → passes z ≡ true → is_lt (version_cmp z.release.version y.release.version) ≡ true
      lower z o before t = of (behind z o t)
        where
          before-at : comes_before z.at at ≡ true
          before-at = ap (comes_before z.at) (sym at-is) ∙ before

          -- the part of the order that is left: it isn't the higher one, and stands before it
          is-lower : (h : Bool) → is_higher s.basis.facts at z.at ≡ h → (not h && comes_before z.at at) ≡ false → is_lt (version_cmp z.release.version y.release.version) ≡ true
          is-lower true e g = sym (higher-own at z.at y z own o.own) ∙ e
          is-lower false e g = let bad : true ≡ false = sym before-at ∙ g in cc

          of : (z.at ≡ at) ⊎ (goes_first s.basis.facts z.at at ≡ false) → is_lt (version_cmp z.release.version y.release.version) ≡ true
          of (inl e) = let bad : comes_before at at ≡ true = ap (λ (r : ReleaseRef). comes_before r at) (sym e) ∙ before-at in absurd (before-once at at bad bad)
          of (inr g) =
              let parts = or_parts (is_higher s.basis.facts z.at at) (not (is_higher s.basis.facts at z.at) && comes_before z.at at) g in
              is-lower (is_higher s.basis.facts at z.at) refl parts.1

      front-of : {X : Type 0} (P : X → Type 0) (xs ys : List X) → AllByRecursion P (xs ++ ys) → AllByRecursion P xs
      front-of P [] ys a = tt
      front-of P (x ∷ xs) ys a = (a.0, front-of P xs ys a.1)

      front-lower : (parts : Parted all y) → AllByRecursion (λ z. passes z ≡ true → is_lt (version_cmp z.release.version y.release.version) ≡ true) parts.front
      front-lower parts =
          All-both One (λ z. comes_before z.at y.at ≡ true) (λ z. passes z ≡ true → is_lt (version_cmp z.release.version y.release.version) ≡ true) parts.front
          (front-of One parts.front (y ∷ parts.back) (subst (AllByRecursion One) (sym parts.whole) ones)) parts.before (λ z o b t. lower z o b t)

  next-is : (y : Chosen) (step : PlanStep) → highest (filter passes all) ≡ Some y → step_of view y ≡ Some step → next_step s number device past ≡ Some step
  unfolding next_step
  next-is y step h e =
      ap (option_and_then (λ view. option_and_then (step_of view) (highest (filter (may_come s number view past) (all_releases s.basis.facts.catalogue))))) here ∙ ap (option_and_then (step_of view)) h ∙ e

  -- the code's step is the one of the release that stands there
  good-of : (at : ReleaseRef) (y : Chosen) → release_at s at ≡ Some y → good_step s number view at (version_at s.basis.facts at) past ≡ option_and_then (where_good s number past) (step_of view y)
  good-of at y own =
      ap (λ (v : List ℕ). good_step s number view at v past) (ap (λ (h : Option Chosen). option_map_or (λ chosen. chosen.release.version) h []) own)
      ∙ ap (λ (r : ReleaseRef). good_step s number view r y.release.version past) (sym (release-same y.at at (find-passes (λ (c : Chosen). is_release c.at at) all y own)))
      ∙ swap (raw_of view.sheet.format y.release.version)
    where
      swap : (o : Option ℕ) → option_and_then (λ raw. where_good s number past (record { device = view.sheet.device; release = y.at; raw = raw })) o
          ≡ option_and_then (where_good s number past) (option_map (λ raw. record { device = view.sheet.device; release = y.at; raw = raw }) o)
      swap None = refl
      swap (Some raw) = refl

  no-good : (at : ReleaseRef) → good_step s number view at (version_at s.basis.facts at) past ≡ None → Fails at
  no-good at e y own =
      by_test (passes y) _
      (λ t.
      let p : Passes y = passing y t in
      let so : option_and_then (where_good s number past) (step_of view y) ≡ Some p.step = ap (option_and_then (where_good s number past)) p.step_is ∙ ap (λ (b : Bool). if b then Some p.step else None) p.good in
      let bad : Some p.step ≡ None = sym so ∙ sym (good-of at y own) ∙ e in
      cc)
      (λ f. f)

  -- what is found good is that step
  record IsThat (o : Option PlanStep) (step : PlanStep) : Type 0 where
    that : o ≡ Some step
    good : is_good s number step past ≡ true

  is-that : (o : Option PlanStep) (step : PlanStep) → option_and_then (where_good s number past) o ≡ Some step → IsThat o step
  is-that None step e = cc
  is-that (Some x) step e = of (is_good s number x past) refl e
    where
      of : (b : Bool) → is_good s number x past ≡ b → (if b then Some x else None) ≡ Some step → IsThat (Some x) step
      of true i e = record { that = e; good = subst (λ (z : PlanStep). is_good s number z past ≡ true) (same_Some _ _ e) i }
      of false i e = cc

  is-next : (front rest : List ReleaseRef) (at : ReleaseRef) → front ++ at ∷ rest ≡ places → AllByRecursion Fails front → Falls s (at ∷ rest) → is_gt (version_cmp (version_at s.basis.facts at) shown) ≡ true
      → (y : Chosen) → release_at s at ≡ Some y → (step : PlanStep) → good_step s number view at (version_at s.basis.facts at) past ≡ Some step → next_step s number device past ≡ Some step
  is-next front rest at whole fail f g y own step e =
      let i : IsThat (step_of view y) step = is-that (step_of view y) step (sym (good-of at y own) ∙ e) in
      let pass : passes y ≡ true =
      ap (λ (b : Bool). b && option_map_or (λ step. is_good s number step past) (step_of view y) false) above
      ∙ ap (λ (o : Option PlanStep). option_map_or (λ step. is_good s number step past) o false) i.that ∙ i.good in
      next-is y step (chosen-highest front rest at whole fail f y own pass) i.that
    where
      above : is_above view y ≡ true
      above =
          ap (λ (v : Option (List ℕ)). option_map_or (λ shown. is_lt (version_cmp shown y.release.version)) v false) shows
          ∙ sym (back-gt y.release.version shown)
          ∙ ap (λ (v : List ℕ). is_gt (version_cmp v shown)) (sym (ap (λ (h : Option Chosen). option_map_or (λ chosen. chosen.release.version) h []) own)) ∙ g

  -- place after place
  tried-on : (front rest : List ReleaseRef) → front ++ rest ≡ places → AllByRecursion Fails front → Falls s rest → AllByRecursion (λ at. is_some (release_at s at) ≡ true) rest
      → tried s number view shown past rest ≡ next_step s number device past
  tried-on front [] whole fail f there = sym (none-next (subst (AllByRecursion Fails) (sym (append-nil front) ∙ whole) fail))
  tried-on front (at ∷ rest) whole fail f there =
      tried-there s number view shown past at (tried s number view shown past rest) (release_at s at) there.0
      ∙ of (is_gt (version_cmp (version_at s.basis.facts at) shown)) refl
      (λ fails. tried-on (front ++ at ∷ []) rest (append_assoc front (at ∷ []) rest ∙ whole) (All-push Fails front at fail fails) f.1 there.1)
    where
      More : Type 0
      More = Fails at → tried s number view shown past rest ≡ next_step s number device past

      below-so : (o : Option Chosen) → release_at s at ≡ o → is_some o ≡ true → is_gt (version_cmp (version_at s.basis.facts at) shown) ≡ false → AllByRecursion Fails (at ∷ rest)
      below-so None own t g = cc
      below-so (Some x) own t g = below-all at rest x own f g

      there-is : (o : Option Chosen) → release_at s at ≡ o → is_some o ≡ true → is_gt (version_cmp (version_at s.basis.facts at) shown) ≡ true → (step : PlanStep)
          → good_step s number view at (version_at s.basis.facts at) past ≡ Some step → Some step ≡ next_step s number device past
      there-is None own t g step e = cc
      there-is (Some y) own t g step e = sym (is-next front rest at whole fail f g y own step e)

      good : (o : Option PlanStep) → good_step s number view at (version_at s.basis.facts at) past ≡ o → is_gt (version_cmp (version_at s.basis.facts at) shown) ≡ true → More
          → first_some o (tried s number view shown past rest) ≡ next_step s number device past
      good None e g more = more (no-good at e)
      good (Some step) e g more = there-is (release_at s at) refl there.0 g step e

      of : (b : Bool) → is_gt (version_cmp (version_at s.basis.facts at) shown) ≡ b → More
          → (if b then first_some (good_step s number view at (version_at s.basis.facts at) past) (tried s number view shown past rest) else None) ≡ next_step s number device past
      of true g more = good (good_step s number view at (version_at s.basis.facts at) past) refl g more
      of false g more = sym (none-next (subst (AllByRecursion Fails) whole (All-append Fails front (at ∷ rest) fail (below-so (release_at s at) refl there.0 g))))

  -- a release stands at each of the places
  all-there : AllByRecursion (λ at. is_some (release_at s at) ≡ true) places
  all-there =
      each-of There places
      (All-permutation There (matching_places s.basis.facts.catalogue (guids_of view)) places sorted.same
      (of-each There (matching_places s.basis.facts.catalogue (guids_of view))
      (each-mapped There (λ (chosen : Chosen). chosen.at) (filter (λ chosen. provides (guids_of view) chosen.component) all)
      (All-filter One (λ y. There y.at) (λ chosen. provides (guids_of view) chosen.component) all ones (λ y o t. ap (λ (x : Option Chosen). is_some x) o.own)))))
    where
      There : ReleaseRef → Type 0
      There at = is_some (release_at s at) ≡ true

  -- So the first good one of the places is the next step.
  pub tried-next : tried s number view shown past places ≡ next_step s number device past
  tried-next = tried-on [] places refl tt (falls s places sorted.falling) all-there

-- A device that shows no version has no next step.
pub none_shown : (s : Scene) (number : ℕ) (device : List ℕ) (view : DeviceView) (past : List Event) → view_of s device past ≡ Some view → version_of view ≡ None → next_step s number device past ≡ None
unfolding next_step
none_shown s number device view past here none =
    ap (option_and_then (λ view. option_and_then (step_of view) (highest (filter (may_come s number view past) (all_releases s.basis.facts.catalogue))))) here
    ∙ ap (option_and_then (step_of view)) (highest-none (may_come s number view past) (all_releases s.basis.facts.catalogue) (fails (all_releases s.basis.facts.catalogue)))
  where
    fails : (xs : List Chosen) → AllByRecursion (λ y. may_come s number view past y ≡ false) xs
    fails [] = tt
    fails (x ∷ xs) = (
      ap (λ (v : Option (List ℕ)). option_map_or (λ shown. is_lt (version_cmp shown x.release.version)) v false && option_map_or (λ step. is_good s number step past) (step_of view x) false) none,
      fails xs,
    )
