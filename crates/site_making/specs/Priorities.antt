-- What plugins add to the priority of their boards.
use Rattle.std.specs.Prelude.{◌≡◌, ℕ, ◌<◌, ◌≤◌, false, List, length, map, filter, position, slice_index, slice_index_or, bytes_eq, IsTrue, Option, Some, None}
use Rattle.plugin_order.specs.declared.sheet.PluginSheet.{PluginSheet}
use Rattle.plugin_order.specs.declared.arrangement.Arrangement.{Arrangement}
use Rattle.plugin_order.specs.Sheets.{name_at}
use Rattle.plugin_order.specs.Arranged.{IsArrangement, CanBeArranged, IsPriority, enabled}

-- ---- by the arrangement

-- the plugins that run, in their order: those of the order that are enabled
abbrev pub running : Arrangement → List ℕ
running arrangement = filter (λ p. slice_index_or arrangement.enabled p false) arrangement.order

-- their priorities
abbrev pub priorities_of : Arrangement → List ℕ
priorities_of arrangement = map (λ p. slice_index arrangement.priority p) (running arrangement)

-- the number at a place, and 0 where there is no place
abbrev pub number_at : Option ℕ → List ℕ → ℕ
number_at None numbers = 0
number_at (Some at) numbers = slice_index numbers at

-- what a name adds, where plugins of these names run and have these priorities: the priority of the
-- plugin with the name, and 0 where none of them has it
abbrev pub priority_of : List (List ℕ) → List ℕ → List ℕ → ℕ
priority_of names priorities name = number_at (position (λ other. bytes_eq other name) names) priorities

-- ---- by the sheets of all plugins

-- this is an arrangement of the sheets, and the plugins with these names are the enabled ones, in its order
pub record AreEnabledOf (sheets : List PluginSheet) (arrangement : Arrangement) (names : List (List ℕ)) : Type 0 where
  pub few : length sheets ≤ 64
  pub possible : CanBeArranged sheets
  pub arranged : IsArrangement sheets arrangement
  pub named : names ≡ map (name_at sheets) (running arrangement)

-- the plugins with these names are the enabled ones of an arrangement
abbrev pub AreEnabled : Arrangement → List (List ℕ) → Type 0
AreEnabled arrangement names = (sheets : List PluginSheet) × AreEnabledOf sheets arrangement names

-- what a plugin of this name adds to the priority of its boards: its own priority where it is there
-- and enabled, and 0 where it is missing or disabled
pub record Adds (sheets : List PluginSheet) (order : List ℕ) (name : List ℕ) (priority : ℕ) : Type 0 where
  pub own : (p : ℕ) → p < length sheets → name_at sheets p ≡ name → IsTrue (enabled sheets order p) → IsPriority sheets p priority
  pub nothing : ((p : ℕ) → p < length sheets → name_at sheets p ≡ name → enabled sheets order p ≡ false) → priority ≡ 0
