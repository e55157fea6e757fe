-- Small facts on what the tests play.
use Rattle.std.proofs.Common.{◌≡◌, ℕ, zero, suc, List, [], ◌∷◌, refl, subst, arith}
use Rattle.std.specs.Prelude.{Option, Some, None, slice_get}
use Rattle.std.proofs.lemmas.Option.{get_or_from_slice_get, slice_get_within}
use Rattle.update_log.specs.declared.event.Event.{Event}
use Rattle.update_log.specs.declared.request.Request.{Request}
use Rattle.update_log.specs.Holding.{live}
use Rattle.daemon_core.specs.Holds.{back_of}

-- A hold that is given back leaves the live entries.
pub back-quiet : (client : ℕ) (pending : Option ℕ) (request : Request) (past : List Event) → live (Event.GiveBack client (back_of pending request) ∷ past) ≡ live past
back-quiet client None request past = refl
back-quiet client (Some entry) request past = refl

-- What is in a list of two.
pub pair-get : {X : Type 0} (P : X → Type 0) (a b : X) (i : ℕ) (y : X) → slice_get (a ∷ b ∷ []) i ≡ Some y → P a → P b → P y
pair-get P a b zero y h p q = subst P (get_or_from_slice_get (a ∷ b ∷ []) zero y a h) p
pair-get P a b (suc zero) y h p q = subst P (get_or_from_slice_get (a ∷ b ∷ []) (suc zero) y a h) q
pair-get P a b (suc (suc n)) y h p q = let low = slice_get_within (a ∷ b ∷ []) (suc (suc n)) y h in absurd (omega arith)
