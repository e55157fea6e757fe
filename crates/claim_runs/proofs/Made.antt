-- Steps that a plugin made, one behind the other.
use Rattle.std.proofs.Common.{◌≡◌, ℕ, List, [], ◌∷◌, ◌++◌, ap, ◌∙◌, subst}
use Rattle.std.specs.Prelude.{Result, ⊤}
use Rattle.block_pool.specs.Views.{SealedBytes}
use Rattle.emulated_boards.specs.Boards.{BoardState}
use Rattle.emulated_boards.specs.declared.fault.BoardFault.{BoardFault}
use Rattle.plugin_trait.specs.Steps.{PluginSteps}
use Rattle.update_log.specs.declared.event.Op.{Op}
use Rattle.device_claims.specs.Claims.{Noted, StepGives}
use Rattle.device_claims.specs.declared.claim.Parts.{Parts}
use Rattle.claim_runs.specs.Made.{AreMade, StepMade}

pub are-made_on : (by : PluginSteps) (entry : ℕ) (payload : SealedBytes) (xs ys : List StepMade) (a b c : BoardState) → AreMade by entry payload a xs b → AreMade by entry payload b ys c → AreMade by entry payload a (xs ++ ys) c
are-made_on by entry payload [] ys a b c m n = subst (λ (x : BoardState). AreMade by entry payload x ys c) m n
are-made_on by entry payload (s ∷ xs) ys a b c m n = (m.0, m.1, m.2, are-made_on by entry payload xs ys m.0 b c m.3 n)

-- The step of a claim that began as another: with the payload and the board of that one.
pub given-of : (by : PluginSteps) (op : Op) (entry : ℕ) (was before : Parts) (answer : Result ⊤ BoardFault) (is : BoardState) → was.entry ≡ entry → before ≡ was → StepGives by op before.entry before.payload before.board answer is → StepGives by op entry was.payload was.board answer is
given-of by op entry was before answer is q e g =
    subst (λ (n : ℕ). StepGives by op n was.payload was.board answer is) q
    (subst (λ (p : Parts). StepGives by op p.entry p.payload p.board answer is) e g)

pub payload-of : (op : Op) (was before is : Parts) (answer : Result ⊤ BoardFault) → before ≡ was → Noted op before answer is → is.payload ≡ was.payload
payload-of op was before is answer e n = n.payload ∙ ap (λ (p : Parts). p.payload) e
