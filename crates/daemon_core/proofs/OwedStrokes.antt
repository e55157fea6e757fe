-- An entry has at most twelve strokes: op-six steps start and end.
use Rattle.std.proofs.Common.{◌≡◌, ℕ, List, [], ◌∷◌, ◌≤◌, ◌+◌, ◌*◌, arith, length}
use Rattle.history_keeper.specs.Histories.{IsHistory}
use Rattle.update_log.proofs.LegalOnce.{past-kept}
use Rattle.update_log.proofs.StepsFew.{op-six}
use Rattle.update_log.specs.declared.event.Event.{Event}
use Rattle.update_log.specs.declared.event.Op.{Op}
use Rattle.update_log.specs.Legal.{IsLegal}
use Rattle.update_log.specs.Once.{InOrder, Stroke, strokes}
use Rattle.update_log.specs.Shows.{Campaign}
use Rattle.update_log.specs.Steps.{op_number}

-- The strokes are no more than two for each step up to the last one.
abbrev Below : List Stroke → Type 0
Below [] = Unit {0}
Below (Stroke.Started op ∷ rest) = length rest + 2 ≤ 2 * op_number op
Below (Stroke.Ended op ∷ rest) = length rest + 1 ≤ 2 * op_number op

below : (s : List Stroke) → InOrder s → Below s
below [] i = tt
below (Stroke.Started op ∷ []) i = let e : op ≡ Op.Prepare = i in rw e (omega arith)
below (Stroke.Started op ∷ Stroke.Ended last ∷ rest) i =
    let b : length rest + 1 ≤ 2 * op_number last = below (Stroke.Ended last ∷ rest) i.1 in omega (arith, i.0)
below (Stroke.Ended op ∷ Stroke.Started last ∷ rest) i =
    let b : length rest + 2 ≤ 2 * op_number last = below (Stroke.Started last ∷ rest) i.1 in
    let e : op ≡ last = i.0 in rw e (omega arith)
below _ i = absurd i

twelve : (s : List Stroke) → Below s → length s ≤ 12
twelve [] b = omega arith
twelve (Stroke.Started op ∷ rest) b = omega (arith, b, op-six op)
twelve (Stroke.Ended op ∷ rest) b = omega (arith, b, op-six op)

-- Each entry of a past has so few.
abbrev pub FewStrokes : List Event → Type 0
FewStrokes past = (entry : ℕ) → length (strokes entry past) ≤ 12

pub few-strokes : (c : Campaign) (past : List Event) → IsHistory c.basis.opening → IsLegal c past → FewStrokes past
few-strokes c past v l =
    let k = past-kept c past v l in
    λ entry. twelve (strokes entry past) (below (strokes entry past) (k.steps.order entry))
