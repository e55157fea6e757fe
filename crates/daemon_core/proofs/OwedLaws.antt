-- How much room is owed.
use Rattle.std.proofs.Common.{ℕ, ◌≤◌, ◌+◌, ◌*◌, Bool, true, false, List, ◌∷◌, length, arith}
use Rattle.std.proofs.lemmas.List.Sums.{sum_by-le, sum_by-le-sum_by}
use Rattle.update_log.specs.Holding.{holds, live}
use Rattle.update_log.specs.Once.{strokes}
use Rattle.update_log.specs.Pasts.{off}
use Rattle.update_log.specs.declared.event.Event.{Event}
use Rattle.update_log.specs.declared.live.LiveEntry.{LiveEntry}
use Rattle.daemon_core.specs.Owed.{entry_needs, hold_needs, owed}

holds-most : (b : Bool) (n : ℕ) → hold_needs b * n ≤ 2 * n
holds-most true n = omega arith
holds-most false n = omega arith

holds-least : (b : Bool) (n : ℕ) → 1 * n ≤ hold_needs b * n
holds-least true n = omega arith
holds-least false n = omega arith

entry-most : (b : Bool) (s : ℕ) → entry_needs b s ≤ 15
entry-most true s = omega arith
entry-most false s = omega arith

entry-least : (b : Bool) (s : ℕ) → 1 ≤ entry_needs b s
entry-least true s = omega arith
entry-least false s = omega arith

-- At most two events a hold are owed, and fifteen an entry.
pub owed-most : (past : List Event) → owed past ≤ 2 * length (holds past) + 15 * length (live past)
owed-most past =
    let a = holds-most (off past) (length (holds past)) in
    let b = sum_by-le (λ (l : LiveEntry). entry_needs (off past) (length (strokes l.entry past))) 15 (live past) (λ i d h. entry-most (off past) (length (strokes _ past))) in
    omega (arith, a, b)

-- A cut leaves no more to be owed.
pub owed-cut : (past : List Event) → owed (Event.Cut ∷ past) ≤ owed past
owed-cut past =
    let a = holds-least (off past) (length (holds past)) in
    let b = sum_by-le-sum_by (λ (l : LiveEntry). 1) (λ (l : LiveEntry). entry_needs (off past) (length (strokes l.entry past))) (live past) (λ l. entry-least (off past) (length (strokes l.entry past))) in
    omega (arith, a, b)
