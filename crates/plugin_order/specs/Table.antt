-- What a table of rules says.
use Rattle.std.specs.Prelude.{ℕ, ◌+◌, ◌*◌, Bool, false, ◌&&◌, nat_lt, Option, None, slice_index_or, List}
use Rattle.plugin_order.specs.declared.rules.Rules.{Rules}

-- a table of this many rows has a rule from p to q
abbrev pub table_holds : ℕ → List Bool → ℕ → ℕ → Bool
table_holds count table p q = nat_lt p count && (nat_lt q count && slice_index_or table (p * 64 + q) false)

abbrev pub holds : Rules → ℕ → ℕ → Bool
holds rules = table_holds rules.count rules.table

-- the height that was found, if any
abbrev pub height_of : List (Option ℕ) → ℕ → Option ℕ
height_of heights p = slice_index_or heights p None
