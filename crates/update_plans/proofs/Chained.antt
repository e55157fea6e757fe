-- Plans that are made and checked step by step.
use Rattle.std.proofs.Common.{◌≡◌, ℕ, zero, suc, ◌+◌, ◌-◌, ◌<◌, Bool, true, false, List, [], ◌∷◌, ◌++◌, length, map, append_assoc, length-append, refl, sym, ap, ◌∙◌, subst, arith}
use Rattle.std.specs.Prelude.{Option, Some, None, option_map, slice_get, if◌then◌else◌}
use Rattle.std.specs.Option.{option_map_or}
use Rattle.std.proofs.lemmas.List.{append-nil}
use Rattle.fw_facts.specs.declared.view.DeviceView.{DeviceView}
use Rattle.release_catalogue.specs.Lookup.{Chosen}
use Rattle.update_log.specs.declared.event.Event.{Event}
use Rattle.update_log.specs.declared.live.LiveEntry.{LiveEntry}
use Rattle.update_log.specs.Boards.{Board, devices}
use Rattle.update_log.specs.Holding.{live}
use Rattle.update_log.specs.Known.{Known, known, view_of as view_in, views}
use Rattle.update_plans.specs.Following.{IsQuiet}
use Rattle.update_plans.specs.Plans.{Scene, after, chain, chains, device_at, first_bad, installed, installed_with, is_good, is_good_with, next_step, release_at}
use Rattle.update_plans.specs.declared.plan.PlanStep.{PlanStep}
use Rattle.update_plans.proofs.Installed.{installed-quiet}
use Rattle.update_plans.proofs.Planned.{after-append}

-- ---- devices keep their places

pub get-map : {X Y : Type 0} (f : X → Y) (xs : List X) (at : ℕ) → slice_get (map f xs) at ≡ option_map f (slice_get xs at)
get-map f [] at = refl
get-map f (x ∷ xs) zero = refl
get-map f (x ∷ xs) (suc at) = get-map f xs at

device-of : (entries : List LiveEntry) (k : Known) (o : Option Board) → option_map_or (λ (view : DeviceView). view.sheet.device) (option_map (view_in entries k) o) [] ≡ option_map_or (λ (b : Board). b.sheet.device) o []
device-of entries k None = refl
device-of entries k (Some b) = refl

-- the ID of the device at a place is that of its board, whatever happened
device-now : (s : Scene) (past : List Event) (at : ℕ) → device_at (views s.basis past) at ≡ option_map_or (λ (b : Board). b.sheet.device) (slice_get (devices s.basis.facts) at) []
device-now s past at =
    ap (λ (o : Option DeviceView). option_map_or (λ view. view.sheet.device) o []) (get-map (view_in (live past) (known s.basis past)) (devices s.basis.facts) at)
    ∙ device-of (live past) (known s.basis past) (slice_get (devices s.basis.facts) at)

pub device-stays : (s : Scene) (past now : List Event) (at : ℕ) → device_at (views s.basis now) at ≡ device_at (views s.basis past) at
device-stays s past now at = device-now s now at ∙ sym (device-now s past at)

-- ---- a good step is installed

pub record Good (s : Scene) (number : ℕ) (step : PlanStep) (past : List Event) : Type 0 where
  pub chosen : Chosen
  pub there : release_at s step.release ≡ Some chosen
  pub good : is_good_with s number step past chosen ≡ true
  pub installed_is : installed s number step past ≡ installed_with s number step chosen past

pub good-step : (s : Scene) (number : ℕ) (step : PlanStep) (past : List Event) → is_good s number step past ≡ true → Good s number step past
unfolding is_good installed
good-step s number step past h = of (release_at s step.release) refl h
  where
    of : (o : Option Chosen) → release_at s step.release ≡ o → option_map_or (is_good_with s number step past) o false ≡ true → Good s number step past
    of None e h = cc
    of (Some chosen) e h = record {
      chosen = chosen;
      there = e;
      good = h;
      installed_is = ap (λ (o : Option Chosen). option_map_or (λ chosen. installed_with s number step chosen past) o past) e;
    }

pub quiet-on : (s : Scene) (number : ℕ) (step : PlanStep) (past : List Event) → IsQuiet s past → is_good s number step past ≡ true → IsQuiet s (installed s number step past)
quiet-on s number step past q h =
    let g : Good s number step past = good-step s number step past h in
    subst (IsQuiet s) (sym g.installed_is) (installed-quiet s number step g.chosen past q g.there g.good)

-- ---- a chain, step by step

pub chain-some : (s : Scene) (device : List ℕ) (left number : ℕ) (past : List Event) (step : PlanStep) → next_step s number device past ≡ Some step
    → chain s device (suc left) number past ≡ step ∷ chain s device left (number + 1) (installed s number step past)
unfolding chain
chain-some s device left number past step e =
    ap (λ (o : Option PlanStep). option_map_or (λ step. step ∷ chain s device left (number + 1) (installed s number step past)) o []) e

pub chain-none : (s : Scene) (device : List ℕ) (left number : ℕ) (past : List Event) → next_step s number device past ≡ None → chain s device left number past ≡ []
unfolding chain
chain-none s device zero number past e = refl
chain-none s device (suc left) number past e =
    ap (λ (o : Option PlanStep). option_map_or (λ step. step ∷ chain s device left (number + 1) (installed s number step past)) o []) e

pub chain-zero : (s : Scene) (device : List ℕ) (number : ℕ) (past : List Event) → chain s device 0 number past ≡ []
unfolding chain
chain-zero s device number past = refl

-- the steps so far, with those still to come, are the whole, and so is the log
pub record Goes (s : Scene) (device : List ℕ) (steps whole : List PlanStep) (past end : List Event) : Type 0 where
  pub steps_are : steps ++ chain s device (8192 - length steps) (length steps + 1) past ≡ whole
  pub past_is : after s (length steps + 1) (chain s device (8192 - length steps) (length steps + 1) past) past ≡ end

pub goes-first : (s : Scene) (device : List ℕ) (steps : List PlanStep) (past : List Event)
    → Goes s device steps (steps ++ chain s device (8192 - length steps) (length steps + 1) past) past (after s (length steps + 1) (chain s device (8192 - length steps) (length steps + 1) past) past)
goes-first s device steps past = record { steps_are = refl; past_is = refl }

-- one more turn of the loop
pub goes-turn : (s : Scene) (device : List ℕ) (steps whole : List PlanStep) (past end : List Event) (step : PlanStep) → length steps < 8192 → next_step s (length steps + 1) device past ≡ Some step
    → Goes s device steps whole past end → Goes s device (steps ++ step ∷ []) whole (installed s (length steps + 1) step past) end
unfolding after
goes-turn s device steps whole past end step few e g =
    let longer : length (steps ++ step ∷ []) ≡ length steps + 1 = length-append steps (step ∷ []) in
    let left : 8192 - length steps ≡ suc (8192 - length (steps ++ step ∷ [])) = omega (arith, few, longer) in
    let next : length steps + 1 + 1 ≡ length (steps ++ step ∷ []) + 1 = omega (arith, longer) in
    let rest : List PlanStep = chain s device (8192 - length (steps ++ step ∷ [])) (length steps + 1 + 1) (installed s (length steps + 1) step past) in
    let same : rest ≡ chain s device (8192 - length (steps ++ step ∷ [])) (length (steps ++ step ∷ []) + 1) (installed s (length steps + 1) step past) =
    ap (λ (n : ℕ). chain s device (8192 - length (steps ++ step ∷ [])) n (installed s (length steps + 1) step past)) next in
    let more : chain s device (8192 - length steps) (length steps + 1) past ≡ step ∷ rest =
    ap (λ (n : ℕ). chain s device n (length steps + 1) past) left ∙ chain-some s device (8192 - length (steps ++ step ∷ [])) (length steps + 1) past step e in
    record {
      steps_are =
          ap (λ (xs : List PlanStep). (steps ++ step ∷ []) ++ xs) (sym same)
          ∙ append_assoc steps (step ∷ []) rest
          ∙ ap (λ (xs : List PlanStep). steps ++ xs) (sym more) ∙ g.steps_are;
      past_is =
          ap (λ (xs : List PlanStep). after s (length (steps ++ step ∷ []) + 1) xs (installed s (length steps + 1) step past)) (sym same)
          ∙ ap (λ (n : ℕ). after s n rest (installed s (length steps + 1) step past)) (sym next)
          ∙ ap (λ (xs : List PlanStep). after s (length steps + 1) xs past) (sym more) ∙ g.past_is;
    }

-- the loop ends where there is no next step, or where there are as many as there may be
pub goes-end : (s : Scene) (device : List ℕ) (steps whole : List PlanStep) (past end : List Event) → Goes s device steps whole past end
    → chain s device (8192 - length steps) (length steps + 1) past ≡ [] → (steps ≡ whole) × (past ≡ end)
unfolding after
goes-end s device steps whole past end g none = (
  sym (append-nil steps) ∙ ap (λ (xs : List PlanStep). steps ++ xs) (sym none) ∙ g.steps_are,
  ap (λ (xs : List PlanStep). after s (length steps + 1) xs past) (sym none) ∙ g.past_is,
)

-- ---- device behind device

chain-same : (s : Scene) (device : List ℕ) (left left' number number' : ℕ) (past past' : List Event) → left ≡ left' → number ≡ number' → past ≡ past' → chain s device left number past ≡ chain s device left' number' past'
chain-same s device left left' number number' past past' l n p =
    ap (λ (m : ℕ). chain s device m number past) l ∙ ap (λ (m : ℕ). chain s device left' m past) n ∙ ap (chain s device left' number') p

push-one : (s : Scene) (device : List ℕ) (own rest more : List PlanStep) (left number : ℕ) (past : List Event)
    → more ≡ rest ++ chain s device (left - length own - length rest) (number + length own + length rest) (after s (number + length own) rest (after s number own past))
    → own ++ more ≡ (own ++ rest) ++ chain s device (left - length (own ++ rest)) (number + length (own ++ rest)) (after s number (own ++ rest) past)
push-one s device own rest more left number past e =
    let many = length-append own rest in
    let last : List PlanStep = chain s device (left - length own - length rest) (number + length own + length rest) (after s (number + length own) rest (after s number own past)) in
    ap (λ (steps : List PlanStep). own ++ steps) e ∙ sym (append_assoc own rest last)
    ∙ ap (λ (steps : List PlanStep). (own ++ rest) ++ steps)
    (chain-same s device (left - length own - length rest) (left - length (own ++ rest)) (number + length own + length rest) (number + length (own ++ rest)) (after s (number + length own) rest (after s number own past)) (after s number (own ++ rest) past)
    (omega (arith, many)) (omega (arith, many)) (sym (after-append s number own rest past)))

pub chains-push : (s : Scene) (xs : List (List ℕ)) (device : List ℕ) (left number : ℕ) (past : List Event)
    → chains s (xs ++ device ∷ []) left number past
    ≡ chains s xs left number past ++ chain s device (left - length (chains s xs left number past)) (number + length (chains s xs left number past)) (after s number (chains s xs left number past) past)
unfolding chains after
chains-push s [] device left number past =
    append-nil (chain s device left number past) ∙ chain-same s device left (left - 0) number (number + 0) past past (omega arith) (omega arith) refl
chains-push s (x ∷ xs) device left number past =
    push-one s device (chain s x left number past) (chains s xs (left - length (chain s x left number past)) (number + length (chain s x left number past)) (after s number (chain s x left number past) past))
    (chains s (xs ++ device ∷ []) (left - length (chain s x left number past)) (number + length (chain s x left number past)) (after s number (chain s x left number past) past)) left number past
    (chains-push s xs device (left - length (chain s x left number past)) (number + length (chain s x left number past)) (after s number (chain s x left number past) past))

-- ---- checking, step by step

pub first_bad-good : (s : Scene) (number : ℕ) (step : PlanStep) (steps : List PlanStep) (past : List Event) → is_good s number step past ≡ true
    → first_bad s number (step ∷ steps) past ≡ first_bad s (number + 1) steps (installed s number step past)
unfolding first_bad
first_bad-good s number step steps past h = ap (λ (b : Bool). if b then first_bad s (number + 1) steps (installed s number step past) else Some number) h

pub first_bad-bad : (s : Scene) (number : ℕ) (step : PlanStep) (steps : List PlanStep) (past : List Event) → is_good s number step past ≡ false → first_bad s number (step ∷ steps) past ≡ Some number
unfolding first_bad
first_bad-bad s number step steps past h = ap (λ (b : Bool). if b then first_bad s (number + 1) steps (installed s number step past) else Some number) h

pub first_bad-nil : (s : Scene) (number : ℕ) (past : List Event) → first_bad s number [] past ≡ None
unfolding first_bad
first_bad-nil s number past = refl
