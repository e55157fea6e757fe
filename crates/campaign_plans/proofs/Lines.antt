-- The lines of steps, one after the other.
use Rattle.std.proofs.Common.{◌≡◌, ℕ, zero, suc, ◌+◌, ◌<◌, List, [], ◌∷◌, ◌++◌, length, drop, get_or, refl, sym, ap, ◌∙◌, add-one, append_assoc, arith, length-drop}
use Rattle.std.proofs.lemmas.List.{drop-drop}
use Rattle.fw_facts.specs.declared.view.DeviceView.{DeviceView}
use Rattle.update_log.specs.declared.facts.Facts.{Facts}
use Rattle.update_plans.specs.Choosing.{version_at}
use Rattle.update_plans.specs.declared.plan.PlanStep.{PlanStep}
use Rattle.campaign_plans.specs.Printed.{port_of, step_line, step_lines}

abbrev line_of : Facts → List DeviceView → ℕ → PlanStep → List ℕ
line_of facts views number step = step_line number (port_of views step.device) (version_at facts step.release)

-- one more line, where the rest begins with its step
by_rest : (facts : Facts) (views : List DeviceView) (number : ℕ) (rest after : List PlanStep) (d : PlanStep) (old whole new : List ℕ)
    → 0 < length rest → after ≡ drop 1 rest → old ++ step_lines facts views number rest ≡ whole
    → new ≡ old ++ line_of facts views number (get_or rest 0 d) → new ++ step_lines facts views (suc number) after ≡ whole
by_rest facts views number [] after d old whole new some next so_far put = absurd (omega arith)
by_rest facts views number (step ∷ rest) after d old whole new some next so_far put =
    ap (λ (t : List ℕ). t ++ step_lines facts views (suc number) after) put
    ∙ ap (λ (xs : List PlanStep). (old ++ line_of facts views number step) ++ step_lines facts views (suc number) xs) next
    ∙ append_assoc old (line_of facts views number step) (step_lines facts views (suc number) rest) ∙ so_far

get-drop : (i : ℕ) (xs : List PlanStep) (d : PlanStep) → get_or (drop i xs) 0 d ≡ get_or xs i d
get-drop zero xs d = refl
get-drop (suc i) [] d = refl
get-drop (suc i) (x ∷ xs) d = get-drop i xs d

-- a loop that puts a line for each: what is there, with what is still to come, is the whole
pub put_more : (facts : Facts) (views : List DeviceView) (i : ℕ) (steps : List PlanStep) (d : PlanStep) (old whole new : List ℕ) → i < length steps
    → old ++ step_lines facts views (i + 1) (drop i steps) ≡ whole
    → new ≡ old ++ line_of facts views (i + 1) (get_or steps i d)
    → new ++ step_lines facts views (i + 1 + 1) (drop (i + 1) steps) ≡ whole
put_more facts views i steps d old whole new lt so_far put =
    let next : drop (i + 1) steps ≡ drop 1 (drop i steps) = sym (drop-drop 1 i steps) in
    let some : 0 < length (drop i steps) = let n = length-drop i steps in omega (arith, n) in
    ap (λ (n : ℕ). new ++ step_lines facts views n (drop (i + 1) steps)) (add-one (i + 1))
    ∙ by_rest facts views (i + 1) (drop i steps) (drop (i + 1) steps) d old whole new some next so_far
    (put ∙ ap (λ (step : PlanStep). old ++ line_of facts views (i + 1) step) (sym (get-drop i steps d)))

-- the same, from what the calls say of the port and the version
pub put_turn : (facts : Facts) (views : List DeviceView) (i : ℕ) (steps : List PlanStep) (step : PlanStep) (port version old whole new : List ℕ) → i < length steps → step ≡ get_or steps i step
    → port ≡ port_of views step.device → version ≡ version_at facts step.release → old ++ step_lines facts views (i + 1) (drop i steps) ≡ whole
    → new ≡ old ++ step_line (i + 1) port version → new ++ step_lines facts views (i + 1 + 1) (drop (i + 1) steps) ≡ whole
put_turn facts views i steps step port version old whole new lt here is_port is_version so_far put =
    put_more facts views i steps step old whole new lt so_far
    (put ∙ ap (λ (p : List ℕ). old ++ step_line (i + 1) p version) is_port
    ∙ ap (λ (v : List ℕ). old ++ step_line (i + 1) (port_of views step.device) v) is_version
    ∙ ap (λ (x : PlanStep). old ++ line_of facts views (i + 1) x) here)
