use Rattle.std.proofs.Common.{◌≡◌, ◌||◌, ℕ, List, drop}
use Rattle.std.specs.List.{list_any}
use Rattle.remote_set.specs.declared.rank.Rank.{Rank}
use Rattle.remote_set.specs.Indexes.{is_offered_before}
use Rattle.remote_set.specs.Merged.{is_hidden, placed_from}
use Rattle.remote_set.proofs.Noting.{hides}
use Rattle.remote_set.proofs.index.index_of.Given as goal

abbrev pub invariant-loop-place : goal.invariant-loop-place
invariant-loop-place l = (rank : Rank) (id version : List ℕ)
    → (is_offered_before l.index.entries rank id version || list_any (hides rank id version) (placed_from l.place (drop l.place l.remotes))) ≡ is_hidden l.remotes rank id version
