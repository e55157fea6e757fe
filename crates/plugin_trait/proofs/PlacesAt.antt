-- The steps of the plugin at a place.
use Rattle.std.proofs.Common.{◌≡◌, ℕ, ◌<◌, zero, suc, List, [], ◌∷◌, length, get_or, ap, sym, arith}
use Rattle.plugin_trait.specs.Steps.{PluginSteps, steps_at}

-- They are those of what stands there.
pub steps-at : {P : Type 0} (steps : P → PluginSteps) (plugins : List P) (place : ℕ) (p : P) → place < length plugins → p ≡ get_or plugins place p → steps_at steps plugins place ≡ steps p
steps-at steps [] place p l e = absurd (omega arith)
steps-at steps (q ∷ plugins) zero p l e = ap steps (sym e)
steps-at steps (q ∷ plugins) (suc place) p l e = steps-at steps plugins place p (omega arith) e
