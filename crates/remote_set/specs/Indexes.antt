-- The index of the releases: under each the rank of the first remote that offers it.
use Rattle.std.specs.Prelude.{ℕ, Bool, false, List, Option}
use Rattle.std.specs.BTreeMap.{is_at}
use Rattle.std.specs.Map.{lookup}
use Rattle.std.specs.Option.{option_map_or}
use Rattle.remote_set.specs.declared.key.ReleaseKey.{ReleaseKey}
use Rattle.remote_set.specs.declared.rank.Rank.{Rank}
use Rattle.remote_set.specs.Keys.{key_cmp}
use Rattle.remote_set.specs.Merged.{comes_before}

-- The rank that stands under a release.
abbrev pub first_rank : List ℕ → List ℕ → List (ReleaseKey × Rank) → Option Rank
first_rank id version entries = lookup (is_at (key_cmp (record { id = id; version = version }))) entries

-- It comes before this one.
abbrev pub is_offered_before : List (ReleaseKey × Rank) → Rank → List ℕ → List ℕ → Bool
is_offered_before entries rank id version = option_map_or (λ first. comes_before first rank) (first_rank id version entries) false
