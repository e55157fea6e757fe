-- What an arrangement of plugins is, and when there is none.
use Rattle.std.specs.Prelude.{◌≡◌, ℕ, ◌<◌, ◌≤◌, ◌⊎◌, Bool, false, not, if◌then◌else◌, List, [], ◌∷◌, ◌++◌, length, map, slice_index, slice_index_or, All, IsPermutation, IsSorted}
use Rattle.std.specs.declared.cmp.Ordering.{Ordering}
use Rattle.std.specs.Ordering.{nat_cmp, ordering_then, is_lt}
use Rattle.std.specs.Cmp.Lexicographic.{slice_cmp}
use Rattle.std.specs.List.{range_with_len}
use Rattle.plugin_order.specs.declared.sheet.PluginSheet.{PluginSheet}
use Rattle.plugin_order.specs.declared.arrangement.Arrangement.{Arrangement}
use Rattle.plugin_order.specs.declared.arrangement.OrderFault.{OrderFault}
use Rattle.plugin_order.specs.declared.arrangement.OrderFault.TheVariants.{DuplicateName, Cycle, NoMemory}
use Rattle.plugin_order.specs.Chains.{IsLongest, Leads, IsCycle, IsApart}
use Rattle.plugin_order.specs.Sheets.{names, runs_before, is_better, name_at, conflicts_at}

-- k is the length of the longest chain of order rules that ends in p
pub record IsPlace (sheets : List PluginSheet) (p k : ℕ) : Type 0 where
  pub shown : (ps : List ℕ) × Leads (runs_before sheets) ps p × (length ps ≡ k)
  pub most : (ps : List ℕ) → Leads (runs_before sheets) ps p → length ps ≤ k

-- k is the length of the longest chain of better-than rules that starts at p
abbrev pub IsPriority : List PluginSheet → ℕ → ℕ → Type 0
IsPriority sheets = IsLongest (is_better sheets)

-- by place, then by name
abbrev pub by_place : List PluginSheet → List ℕ → ℕ → ℕ → Ordering
by_place sheets places p q = ordering_then (nat_cmp (slice_index places p) (slice_index places q)) (slice_cmp nat_cmp (name_at sheets p) (name_at sheets q))

-- each plugin once, by place and then by name
pub record IsInOrder (sheets : List PluginSheet) (places order : List ℕ) : Type 0 where
  pub once : IsPermutation (range_with_len 0 (length sheets)) order
  pub sorted : IsSorted (by_place sheets places) order

-- the names that are disabled once a plugin had its turn: where its own is not among them, it adds
-- all that it conflicts with
abbrev pub off_after : List PluginSheet → List (List ℕ) → ℕ → List (List ℕ)
off_after sheets off p = if names off (name_at sheets p) then off else off ++ conflicts_at sheets p

-- the names that are disabled once each of these plugins had its turn
abbrev pub disabled : List PluginSheet → List (List ℕ) → List ℕ → List (List ℕ)
disabled sheets off [] = off
disabled sheets off (p ∷ ps) = disabled sheets (off_after sheets off p) ps

-- those plugins are on whose names are not disabled
abbrev pub IsOff : List PluginSheet → List (List ℕ) → List Bool → Type 0
IsOff sheets off on = (p : ℕ) → p < length sheets → slice_index_or on p false ≡ not (names off (name_at sheets p))

-- a plugin is enabled where the walk in order leaves its name alone
abbrev pub enabled : List PluginSheet → List ℕ → ℕ → Bool
enabled sheets order p = not (names (disabled sheets [] order) (name_at sheets p))

-- the plugins in order, those that stay enabled, and the priorities
pub record IsArrangement (sheets : List PluginSheet) (a : Arrangement) : Type 0 where
  pub places : List ℕ
  pub place : (p : ℕ) → p < length sheets → IsPlace sheets p (slice_index places p)
  pub order : IsInOrder sheets places a.order
  pub enabled_len : length a.enabled ≡ length sheets
  pub enabled_each : (p : ℕ) → p < length sheets → slice_index_or a.enabled p false ≡ enabled sheets a.order p
  pub priority_len : length a.priority ≡ length sheets
  pub priority_each : (p : ℕ) → p < length sheets → IsPriority sheets p (slice_index a.priority p)

-- an earlier sheet has the same name
abbrev pub IsRepeat : List PluginSheet → ℕ → Type 0
IsRepeat sheets p = (q : ℕ) × (q < p) × (name_at sheets q ≡ name_at sheets p)

-- no two sheets have one name
abbrev pub HasNoRepeat : List PluginSheet → Type 0
HasNoRepeat sheets = (p : ℕ) → p < length sheets → IsRepeat sheets p → ⊥

-- the name of the first sheet that repeats one
pub record IsFirstRepeated (sheets : List PluginSheet) (name : List ℕ) : Type 0 where
  pub at : ℕ
  pub there : at < length sheets
  pub named : name ≡ name_at sheets at
  pub repeats : IsRepeat sheets at
  pub first : (p : ℕ) → p < at → IsRepeat sheets p → ⊥

-- the names of a cycle of plugins that differ, from the least of them on
pub record ShowsCycle (rule : ℕ → ℕ → Bool) (sheets : List PluginSheet) (shown : List (List ℕ)) : Type 0 where
  pub plugins : List ℕ
  pub cycle : IsCycle rule plugins
  pub apart : IsApart plugins
  pub named : shown ≡ map (name_at sheets) plugins
  pub least : All (λ name. is_lt (slice_cmp nat_cmp name (slice_index_or shown 0 [])) ≡ false) shown

abbrev pub HasNoCycle : (ℕ → ℕ → Bool) → Type 0
HasNoCycle rule = (cycle : List ℕ) → IsCycle rule cycle → ⊥

-- each plugin has a name of its own, and neither order rules nor better-than rules form a cycle
pub record CanBeArranged (sheets : List PluginSheet) : Type 0 where
  pub names : HasNoRepeat sheets
  pub order : HasNoCycle (runs_before sheets)
  pub better : HasNoCycle (is_better sheets)

-- when each fault comes: a repeated name first, then a cycle of order rules, then one of better-than rules
abbrev pub HasCause : List PluginSheet → OrderFault → Type 0
HasCause sheets (DuplicateName name) = IsFirstRepeated sheets name
HasCause sheets (Cycle shown) = HasNoRepeat sheets × (ShowsCycle (runs_before sheets) sheets shown
    ⊎ (HasNoCycle (runs_before sheets) × ShowsCycle (is_better sheets) sheets shown))
HasCause sheets NoMemory = Unit {0}
