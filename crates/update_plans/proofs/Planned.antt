-- The plan: each of its steps is good after those before it, and there are no more than its limit.
use Rattle.std.proofs.Common.{not, ◌≡◌, ℕ, zero, suc, ◌+◌, ◌-◌, ◌≤◌, Bool, true, false, List, [], ◌∷◌, ◌++◌, length, length-append, refl, sym, ap, ◌∙◌, arith}
use Rattle.std.proofs.lemmas.Bool.{and_parts}
use Rattle.std.specs.Prelude.{Option, Some, None, filter, option_and_then, if◌then◌else◌}
use Rattle.std.specs.Option.{option_map_or}
use Rattle.std.specs.List.{AllByRecursion, list_any}
use Rattle.std.specs.Ordering.{is_lt}
use Rattle.version_formats.specs.VersionOrder.{version_cmp}
use Rattle.fw_facts.specs.declared.view.DeviceView.{DeviceView}
use Rattle.release_catalogue.specs.Lookup.{Chosen, all_releases}
use Rattle.update_log.specs.declared.event.Event.{Event}
use Rattle.update_log.specs.Known.{views}
use Rattle.update_log.proofs.Lists.{All-filter, All-find}
use Rattle.update_plans.specs.Plans.{Scene, after, chain, chains, first_bad, highest, installed, is_above, is_good, may_come, next_step, plan, step_of, steps_max, view_of, visited}
use Rattle.update_plans.specs.declared.plan.PlanStep.{PlanStep}

-- ---- the next step is good

any-of : {X : Type 0} (xs : List X) → AllByRecursion (λ (x : X). Unit {0}) xs
any-of [] = tt
any-of (x ∷ xs) = (tt, any-of xs)

-- the highest of those that pass is one that passes
highest-passes : (p : Chosen → Bool) (all : List Chosen) (chosen : Chosen) → highest (filter p all) ≡ Some chosen → p chosen ≡ true
highest-passes p all chosen h =
    All-find (λ c. p c ≡ true) (λ c. not (list_any (λ other. is_lt (version_cmp c.release.version other.release.version)) (filter p all))) (filter p all) chosen (All-filter (λ (c : Chosen). Unit {0}) (λ c. p c ≡ true) p all (any-of all) (λ c u t. t)) h

pub next-good : (s : Scene) (number : ℕ) (device : List ℕ) (past : List Event) (step : PlanStep) → next_step s number device past ≡ Some step → is_good s number step past ≡ true
unfolding next_step
next-good s number device past step h = of_view (view_of s device past) h
  where
    good : (view : DeviceView) (chosen : Chosen) → may_come s number view past chosen ≡ true → step_of view chosen ≡ Some step → is_good s number step past ≡ true
    good view chosen may e =
        let parts = and_parts (is_above view chosen) (option_map_or (λ step. is_good s number step past) (step_of view chosen) false) may in
        ap (λ (o : Option PlanStep). option_map_or (λ step. is_good s number step past) o false) (sym e) ∙ parts.1

    of_chosen : (view : DeviceView) (o : Option Chosen) → highest (filter (may_come s number view past) (all_releases s.basis.facts.catalogue)) ≡ o → option_and_then (step_of view) o ≡ Some step → is_good s number step past ≡ true
    of_chosen view None e h = cc
    of_chosen view (Some chosen) e h = good view chosen (highest-passes (may_come s number view past) (all_releases s.basis.facts.catalogue) chosen e) h

    of_view : (o : Option DeviceView) → option_and_then (λ view. option_and_then (step_of view) (highest (filter (may_come s number view past) (all_releases s.basis.facts.catalogue)))) o ≡ Some step → is_good s number step past ≡ true
    of_view None h = cc
    of_view (Some view) h = of_chosen view (highest (filter (may_come s number view past) (all_releases s.basis.facts.catalogue))) refl h

-- ---- steps behind others

pub first_bad-append : (s : Scene) (number : ℕ) (xs ys : List PlanStep) (past : List Event) → first_bad s number xs past ≡ None
    → first_bad s number (xs ++ ys) past ≡ first_bad s (number + length xs) ys (after s number xs past)
unfolding first_bad after
first_bad-append s number [] ys past h = ap (λ (n : ℕ). first_bad s n ys past) (omega arith)
first_bad-append s number (x ∷ xs) ys past h = of (is_good s number x past) refl h (λ k. first_bad-append s (number + 1) xs ys (installed s number x past) k)
  where
    of : (b : Bool) → is_good s number x past ≡ b → (if b then first_bad s (number + 1) xs (installed s number x past) else Some number) ≡ None
        → (first_bad s (number + 1) xs (installed s number x past) ≡ None → first_bad s (number + 1) (xs ++ ys) (installed s number x past) ≡ first_bad s (number + 1 + length xs) ys (after s (number + 1) xs (installed s number x past)))
        → (if is_good s number x past then first_bad s (number + 1) (xs ++ ys) (installed s number x past) else Some number) ≡ first_bad s (number + length (x ∷ xs)) ys (after s (number + 1) xs (installed s number x past))
    of true e h more =
        let count : number + 1 + length xs ≡ number + length (x ∷ xs) = omega arith in
        ap (λ (b : Bool). if b then first_bad s (number + 1) (xs ++ ys) (installed s number x past) else Some number) e
        ∙ more h
        ∙ ap (λ (n : ℕ). first_bad s n ys (after s (number + 1) xs (installed s number x past))) count
    of false e h more = cc

pub after-append : (s : Scene) (number : ℕ) (xs ys : List PlanStep) (past : List Event) → after s number (xs ++ ys) past ≡ after s (number + length xs) ys (after s number xs past)
unfolding after
after-append s number [] ys past = ap (λ (n : ℕ). after s n ys past) (omega arith)
after-append s number (x ∷ xs) ys past =
    let count : number + 1 + length xs ≡ number + length (x ∷ xs) = omega arith in
    after-append s (number + 1) xs ys (installed s number x past) ∙ ap (λ (n : ℕ). after s n ys (after s (number + 1) xs (installed s number x past))) count

-- ---- the plan is good

pub chain-good : (s : Scene) (device : List ℕ) (left number : ℕ) (past : List Event) → first_bad s number (chain s device left number past) past ≡ None
unfolding chain first_bad
chain-good s device zero number past = refl
chain-good s device (suc left) number past = of (next_step s number device past) refl (λ step. chain-good s device left (number + 1) (installed s number step past))
  where
    of : (o : Option PlanStep) → next_step s number device past ≡ o
        → ((step : PlanStep) → first_bad s (number + 1) (chain s device left (number + 1) (installed s number step past)) (installed s number step past) ≡ None)
        → first_bad s number (option_map_or (λ step. step ∷ chain s device left (number + 1) (installed s number step past)) o []) past ≡ None
    of None e more = refl
    of (Some step) e more =
        ap (λ (b : Bool). if b then first_bad s (number + 1) (chain s device left (number + 1) (installed s number step past)) (installed s number step past) else Some number) (next-good s number device past step e)
        ∙ more step

pub chains-good : (s : Scene) (devices : List (List ℕ)) (left number : ℕ) (past : List Event) → first_bad s number (chains s devices left number past) past ≡ None
unfolding chains first_bad
chains-good s [] left number past = refl
chains-good s (device ∷ devices) left number past =
    first_bad-append s number (chain s device left number past) (chains s devices (left - length (chain s device left number past)) (number + length (chain s device left number past)) (after s number (chain s device left number past) past)) past (chain-good s device left number past)
    ∙ chains-good s devices (left - length (chain s device left number past)) (number + length (chain s device left number past)) (after s number (chain s device left number past) past)

pub plan-good : (s : Scene) (past : List Event) → first_bad s 1 (plan s past) past ≡ None
unfolding plan
plan-good s past = chains-good s (visited (views s.basis past)) steps_max 1 past

-- ---- and has few steps

chain-few : (s : Scene) (device : List ℕ) (left number : ℕ) (past : List Event) → length (chain s device left number past) ≤ left
unfolding chain
chain-few s device zero number past = omega arith
chain-few s device (suc left) number past = of (next_step s number device past) (λ step. chain-few s device left (number + 1) (installed s number step past))
  where
    of : (o : Option PlanStep) → ((step : PlanStep) → length (chain s device left (number + 1) (installed s number step past)) ≤ left) → length (option_map_or (λ step. step ∷ chain s device left (number + 1) (installed s number step past)) o []) ≤ suc left
    of None more = omega arith
    of (Some step) more = let few = more step in omega (arith, few)

chains-few : (s : Scene) (devices : List (List ℕ)) (left number : ℕ) (past : List Event) → length (chains s devices left number past) ≤ left
unfolding chains
chains-few s [] left number past = omega arith
chains-few s (device ∷ devices) left number past =
    let own = chain-few s device left number past in
    let more = chains-few s devices (left - length (chain s device left number past)) (number + length (chain s device left number past)) (after s number (chain s device left number past) past) in
    let whole = length-append (chain s device left number past) (chains s devices (left - length (chain s device left number past)) (number + length (chain s device left number past)) (after s number (chain s device left number past) past)) in
    omega (arith, own, more, whole)

pub plan-few : (s : Scene) (past : List Event) → length (plan s past) ≤ 8192
unfolding plan
plan-few s past = chains-few s (visited (views s.basis past)) steps_max 1 past
