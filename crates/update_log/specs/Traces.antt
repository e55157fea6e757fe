-- Up to six steps in an array, as a list.
use Rattle.std.specs.Prelude.{◌≡◌, ℕ, ◌+◌, ◌-◌, ◌≤◌, min, List, ◌++◌, length, take, replicate, Ok}
use Rattle.std.proofs.Common.{◌∙◌, sym, ap, arith, length-append}
use Rattle.std.proofs.lemmas.List.{length-take, length-replicate}
use Rattle.fw_facts.specs.declared.seen.Seen.{Seen}
use Rattle.update_log.specs.declared.event.Op.{Op}
use Rattle.update_log.specs.declared.trace.TraceStep.{TraceStep}
use Rattle.update_log.specs.declared.trace.TraceSteps.TheInside.{Inside}

-- What stands behind the steps that there are.
abbrev pub no_step : TraceStep
no_step = record { op = Op.Prepare; outcome = Ok tt; seen = Seen.Gone }

-- Six places: the steps, and nothing behind them.
abbrev pub six_places : List TraceStep → List TraceStep
six_places steps = steps ++ replicate (6 - length steps) no_step

-- The array is its first steps, and nothing behind them.
pub record AreSteps (s : Inside) : Type 0 where
  pub few : s.len ≤ 6
  pub is : s.kept ≡ six_places (take s.len s.kept)

-- The array and the count of a list of steps.
abbrev pub steps_kept : List TraceStep → Inside
steps_kept steps = record { kept = six_places steps; len = length steps }

pub count_kept : (s : Inside) → AreSteps s → length (take s.len s.kept) ≡ s.len
count_kept s h =
    let whole : length s.kept ≡ length (take s.len s.kept) + (6 - length (take s.len s.kept)) =
    ap length h.is ∙ length-append (take s.len s.kept) (replicate (6 - length (take s.len s.kept)) no_step)
    ∙ ap (λ n. length (take s.len s.kept) + n) (length-replicate (6 - length (take s.len s.kept)) no_step) in
    let front : length (take s.len s.kept) ≡ min s.len (length s.kept) = length-take s.len s.kept in
    let few : s.len ≤ 6 = h.few in
    omega arith

pub kept_again : (s : Inside) → AreSteps s → steps_kept (take s.len s.kept) ≡ s
kept_again s h =
    ap (λ (k : List TraceStep). let u : Inside = record { kept = k; len = length (take s.len s.kept) } in u) (sym h.is)
    ∙ ap (λ (n : ℕ). let u : Inside = record { kept = s.kept; len = n } in u) (count_kept s h)
