-- Which rules the sheets make.
use Rattle.std.specs.Prelude.{ℕ, Bool, false, ◌||◌, List, [], Option, Some, None, slice_get, bytes_eq}
use Rattle.std.specs.List.{list_any}
use Rattle.plugin_order.specs.declared.sheet.PluginSheet.{PluginSheet}
use Rattle.plugin_order.specs.declared.rules.Kind.{Kind}
use Rattle.plugin_order.specs.declared.rules.Kind.TheVariants.{RunsAfter, IsBetter}

-- the list has the name
abbrev pub names : List (List ℕ) → List ℕ → Bool
names list name = list_any (λ other. bytes_eq other name) list

-- what a rule of a kind says of two sheets: the first runs after the second, or is better than it
abbrev pub rule_of : Kind → PluginSheet → PluginSheet → Bool
rule_of RunsAfter s t = names s.after t.name || names t.before s.name
rule_of IsBetter s t = names s.better_than t.name

-- a rule between two sheets that are there
abbrev pub related : (PluginSheet → PluginSheet → Bool) → Option PluginSheet → Option PluginSheet → Bool
related rule None t = false
related rule (Some s) None = false
related rule (Some s) (Some t) = rule s t

-- the same of the places of two sheets
abbrev pub between : (PluginSheet → PluginSheet → Bool) → List PluginSheet → ℕ → ℕ → Bool
between rule sheets p q = related rule (slice_get sheets p) (slice_get sheets q)

-- plugin p runs after plugin q
abbrev pub runs_after : List PluginSheet → ℕ → ℕ → Bool
runs_after = between (rule_of RunsAfter)

-- plugin p runs before plugin q
abbrev pub runs_before : List PluginSheet → ℕ → ℕ → Bool
runs_before sheets p q = runs_after sheets q p

-- plugin p is better than plugin q
abbrev pub is_better : List PluginSheet → ℕ → ℕ → Bool
is_better = between (rule_of IsBetter)

-- the name of the plugin at a place
abbrev pub name_of : Option PluginSheet → List ℕ
name_of None = []
name_of (Some s) = s.name

abbrev pub name_at : List PluginSheet → ℕ → List ℕ
name_at sheets p = name_of (slice_get sheets p)

-- the names that the plugin at a place conflicts with
abbrev pub conflicts_of : Option PluginSheet → List (List ℕ)
conflicts_of None = []
conflicts_of (Some s) = s.conflicts

abbrev pub conflicts_at : List PluginSheet → ℕ → List (List ℕ)
conflicts_at sheets p = conflicts_of (slice_get sheets p)
