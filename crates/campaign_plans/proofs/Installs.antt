-- The installs of a plan, one after the other.
use Rattle.std.proofs.Common.{◌≡◌, ℕ, suc, ◌+◌, ◌<◌, List, [], ◌∷◌, ◌++◌, length, take, get_or, refl, sym, ap, ◌∙◌, append_assoc, add-one, arith}
use Rattle.std.specs.Prelude.{Option, Some, None, codes, find, option_map}
use Rattle.std.specs.Fmt.{decimal}
use Rattle.std.specs.Option.{option_map_or}
use Rattle.std.proofs.Math.Seq.{take-suc}
use Rattle.std.proofs.lemmas.List.{append-nil, length-take-le}
use Rattle.client_scripts.specs.declared.item.Item.{Item}
use Rattle.history_keeper.specs.declared.row.Row.{Row}
use Rattle.device_list.specs.declared.selector.Selector.{Selector}
use Rattle.release_catalogue.specs.Lookup.{Chosen, all_releases}
use Rattle.update_log.specs.Verdicts.{is_release}
use Rattle.update_log.specs.Known.{basis_of}
use Rattle.update_log.specs.declared.facts.Facts.{Facts}
use Rattle.update_log.specs.declared.request.Request.{Request}
use Rattle.update_plans.specs.Plans.{Scene, no_flags, release_at, request_of, scene}
use Rattle.update_plans.specs.declared.plan.PlanStep.{PlanStep}
use Rattle.campaign_plans.specs.Updating.{install_of, installs_from}

-- the install of a release that was found, by its version alone
pub install_some : (s : Scene) (number : ℕ) (step : PlanStep) (found : Option Chosen) (version : List ℕ) (items new : List Item) (asked : Request)
    → option_map (λ (chosen : Chosen). chosen.release.version) found ≡ Some version
    → ((chosen : Chosen) → chosen.release.version ≡ version → asked ≡ request_of s number step chosen)
    → new ≡ items ++ Item.Install asked ∷ []
    → new ≡ items ++ option_map_or (λ (chosen : Chosen). Item.Install (request_of s number step chosen) ∷ []) found []
install_some s number step None version items new asked e same put = cc
install_some s number step (Some chosen) version items new asked e same put =
    put ∙ ap (λ (r : Request). items ++ Item.Install r ∷ []) (same chosen (unwrapped e))
  where
    unwrapped : {x y : List ℕ} → Some x ≡ Some y → x ≡ y
    unwrapped e = cc

pub install_none : (s : Scene) (number : ℕ) (step : PlanStep) (found : Option Chosen) (items : List Item)
    → option_map (λ (chosen : Chosen). chosen.release.version) found ≡ None
    → items ≡ items ++ option_map_or (λ (chosen : Chosen). Item.Install (request_of s number step chosen) ∷ []) found []
install_none s number step None items e = sym (append-nil items)
install_none s number step (Some chosen) items e = cc

-- the same, from what the calls say of the facts and the tag
abbrev pub found_in : Facts → PlanStep → Option (List ℕ)
found_in facts step =
    option_map (λ (chosen : Chosen). chosen.release.version) (find (λ (chosen : Chosen). is_release chosen.at step.release) (all_releases facts.catalogue))

abbrev pub asked_for : List ℕ → ℕ → PlanStep → List ℕ → Request
asked_for tag number step version =
    record { tag = tag ++ codes "-" ++ decimal number; device = Selector.Id step.device; version = version; flags = no_flags; retry_of = None }

asked_same : (s : Scene) (tag : List ℕ) (number : ℕ) (step : PlanStep) (version : List ℕ) (chosen : Chosen) → s.tag ≡ tag → chosen.release.version ≡ version
    → asked_for tag number step version ≡ request_of s number step chosen
asked_same s tag number step version chosen t v =
    ap (λ (x : List ℕ). asked_for x number step version) (sym t) ∙ ap (asked_for s.tag number step) (sym v)

pub install_put : (s : Scene) (facts : Facts) (tag : List ℕ) (number : ℕ) (step : PlanStep) (version : List ℕ) (items new : List Item) (asked : Request)
    → s.basis.facts ≡ facts → s.tag ≡ tag → Some version ≡ found_in facts step → asked ≡ asked_for tag number step version
    → new ≡ items ++ Item.Install asked ∷ [] → new ≡ items ++ install_of s number step
install_put s facts tag number step version items new asked f t found is put =
    install_some s number step (release_at s step.release) version items new asked
    (ap (λ (x : Facts). found_in x step) f ∙ sym found)
    (λ chosen v. is ∙ asked_same s tag number step version chosen t v)
    put

pub install_unput : (s : Scene) (facts : Facts) (number : ℕ) (step : PlanStep) (items : List Item)
    → s.basis.facts ≡ facts → None ≡ found_in facts step → items ≡ items ++ install_of s number step
install_unput s facts number step items f found =
    install_none s number step (release_at s step.release) items (ap (λ (x : Facts). found_in x step) f ∙ sym found)

-- steps that are put behind others
installs-push : (s : Scene) (number : ℕ) (steps : List PlanStep) (step : PlanStep) (n : ℕ) → n ≡ number + length steps
    → installs_from s number (steps ++ step ∷ []) ≡ installs_from s number steps ++ install_of s n step
installs-push s number [] step n e = rw (let z : n ≡ number = omega (arith, e) in z) (append-nil (install_of s number step))
installs-push s number (x ∷ steps) step n e =
    ap (λ (items : List Item). install_of s number x ++ items) (installs-push s (number + 1) steps step n (omega (arith, e)))
    ∙ sym (append_assoc (install_of s number x) (installs_from s (number + 1) steps) (install_of s n step))

-- one more turn of the loop that puts them
pub installs_turn : (s : Scene) (steps : List PlanStep) (i : ℕ) (d : PlanStep) (old new : List Item) → i < length steps → length (take i steps) ≡ i
    → old ≡ installs_from s 1 (take i steps) → new ≡ old ++ install_of s (i + 1) (get_or steps i d) → new ≡ installs_from s 1 (take (i + 1) steps)
installs_turn s steps i d old new lt many so_far put =
    let longer : take (suc i) steps ≡ take i steps ++ get_or steps i d ∷ [] = take-suc steps i d lt in
    let at : i + 1 ≡ 1 + length (take i steps) = omega (arith, many) in
    put ∙ ap (λ (items : List Item). items ++ install_of s (i + 1) (get_or steps i d)) so_far
    ∙ sym (installs-push s 1 (take i steps) (get_or steps i d) (i + 1) at)
    ∙ ap (installs_from s 1) (sym longer)
    ∙ ap (λ (n : ℕ). installs_from s 1 (take n steps)) (sym (add-one i))

-- one more turn, where the loop goes over the same steps
pub installs_step : (s : Scene) (listed steps : List PlanStep) (i : ℕ) (step : PlanStep) (old new : List Item) → listed ≡ steps → i < length listed → step ≡ get_or listed i step
    → old ≡ installs_from s 1 (take i steps) → new ≡ old ++ install_of s (i + 1) step → new ≡ installs_from s 1 (take (i + 1) steps)
installs_step s listed steps i step old new e lt here so_far put =
    let many : length listed ≡ length steps = ap length e in
    let within : i < length steps = omega (arith, lt, many) in
    let there : step ≡ get_or steps i step = here ∙ ap (λ (xs : List PlanStep). get_or xs i step) e in
    installs_turn s steps i step old new within (length-take-le i steps (omega (arith, within))) so_far
    (put ∙ ap (λ (x : PlanStep). old ++ install_of s (i + 1) x) there)

-- the scene counts by its facts and its tag alone
pub installs_same : (facts : Facts) (rows other : List Row) (client : ℕ) (tag : List ℕ) (number : ℕ) (steps : List PlanStep)
    → installs_from (scene (basis_of facts other) client tag) number steps ≡ installs_from (scene (basis_of facts rows) client tag) number steps
installs_same facts rows other client tag number [] = refl
installs_same facts rows other client tag number (step ∷ steps) =
    ap (λ (items : List Item). install_of (scene (basis_of facts rows) client tag) number step ++ items) (installs_same facts rows other client tag (number + 1) steps)
