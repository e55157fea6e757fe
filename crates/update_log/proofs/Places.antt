-- A step that is put behind the steps of a trace.
use Rattle.std.proofs.Common.{◌≡◌, ℕ, zero, suc, ◌<◌, ◌+◌, ◌-◌, List, [], ◌∷◌, ◌++◌, refl, ap, sym, ◌∙◌, arith, length, take, set, append_assoc}
use Rattle.std.specs.Prelude.{replicate}
use Rattle.std.proofs.Math.Seq.{set-append_seam}
use Rattle.std.proofs.lemmas.List.{length_push}
use Rattle.update_log.specs.declared.trace.TraceStep.{TraceStep}
use Rattle.update_log.specs.declared.trace.TraceSteps.TheInside.{Inside}
use Rattle.update_log.specs.Traces.{AreSteps, no_step, six_places, count_kept}

take-front : {X : Type 0} (xs ys : List X) (n : ℕ) → n ≡ length xs → take n (xs ++ ys) ≡ xs
take-front [] ys zero h = refl
take-front [] ys (suc n) h = absurd (omega arith)
take-front (x ∷ xs) ys zero h = absurd (omega arith)
take-front (x ∷ xs) ys (suc n) h = ap (λ l. x ∷ l) (take-front xs ys n (omega arith))

one-less : (n : ℕ) → n < 6 → replicate (6 - n) no_step ≡ no_step ∷ replicate (6 - (n + 1)) no_step
one-less n h = let e : 6 - n ≡ suc (6 - (n + 1)) = omega arith in ap (λ k. replicate k no_step) e

-- The array with the step is the steps with it, and nothing behind them.
put-at : (kept steps : List TraceStep) (n : ℕ) (step : TraceStep) → kept ≡ six_places steps → length steps ≡ n → n < 6 → set kept n step ≡ six_places (steps ++ step ∷ [])
put-at kept steps n step e l h =
    let short : length steps < 6 = omega arith in
    let open_place : kept ≡ steps ++ no_step ∷ replicate (6 - (length steps + 1)) no_step =
    e ∙ ap (λ r. steps ++ r) (one-less (length steps) short) in
    ap (λ k. set k n step) open_place
    ∙ ap (λ i. set (steps ++ no_step ∷ replicate (6 - (length steps + 1)) no_step) i step) (sym l)
    ∙ set-append_seam steps no_step (replicate (6 - (length steps + 1)) no_step) step
    ∙ sym (append_assoc steps (step ∷ []) (replicate (6 - (length steps + 1)) no_step))
    ∙ ap (λ k. (steps ++ step ∷ []) ++ replicate (6 - k) no_step) (sym (length_push steps step))

pub step-put : (s : Inside) (step : TraceStep) → AreSteps s → s.len < 6 → (set s.kept s.len step ≡ six_places (take s.len s.kept ++ step ∷ [])) × (take (s.len + 1) (set s.kept s.len step) ≡ take s.len s.kept ++ step ∷ [])
step-put s step h few =
    let n : length (take s.len s.kept) ≡ s.len = count_kept s h in
    let put : set s.kept s.len step ≡ six_places (take s.len s.kept ++ step ∷ []) = put-at s.kept (take s.len s.kept) s.len step h.is n few in (
      put,
      ap (take (s.len + 1)) put
          ∙ take-front (take s.len s.kept ++ step ∷ []) (replicate (6 - length (take s.len s.kept ++ step ∷ [])) no_step) (s.len + 1)
          (sym (length_push (take s.len s.kept) step ∙ ap (λ k. k + 1) n)),
    )

pub are-steps : (s : Inside) (step : TraceStep) → AreSteps s → s.len < 6 → AreSteps (record { kept = set s.kept s.len step; len = s.len + 1 })
are-steps s step h few =
    let p = step-put s step h few in
    record { few = omega arith; is = p.0 ∙ ap six_places (sym p.1) }
