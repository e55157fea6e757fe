-- What the search for heights keeps.
use Rattle.std.specs.Prelude.{◌≡◌, ℕ, ◌+◌, ◌<◌, ◌⊎◌, List, Option, Some, None, IsTrue, slice_index, vec_len}
use Rattle.plugin_order.specs.declared.rules.Rules.{Rules}
use Rattle.plugin_order.specs.declared.levels.Levels.{Levels}
use Rattle.plugin_order.specs.declared.levels.Levels.TheVariants.{Heights, Cycle}
use Rattle.plugin_order.specs.Chains.{IsLongest, IsCycle, IsApart}
use Rattle.plugin_order.specs.Table.{holds, height_of}

-- each height is the length of the longest chain from its plugin, or there is a cycle of plugins that differ
abbrev pub IsLevels : Rules → Levels → Type 0
IsLevels rules (Heights all) = (vec_len all ≡ rules.count) × ((p : ℕ) → p < rules.count → IsLongest (holds rules) p (slice_index all.items p))
IsLevels rules (Cycle cycle) = IsCycle (holds rules) cycle.items × IsApart cycle.items

-- more than each height that a rule of p leads to, and no more than it has to be
pub record IsHeight (rules : Rules) (heights : List (Option ℕ)) (p height : ℕ) : Type 0 where
  pub above : (q g : ℕ) → IsTrue (holds rules p q) → height_of heights q ≡ Some g → g < height
  pub reached : (height ≡ 0) ⊎ ((q : ℕ) × (g : ℕ) × IsTrue (holds rules p q) × (height_of heights q ≡ Some g) × (height ≡ g + 1))

-- each plugin without a height has a rule that leads to another one without
abbrev pub IsStuck : Rules → List (Option ℕ) → Type 0
IsStuck rules heights = (p : ℕ) → p < rules.count → height_of heights p ≡ None
    → (q : ℕ) × (q < rules.count) × IsTrue (holds rules p q) × (height_of heights q ≡ None)
