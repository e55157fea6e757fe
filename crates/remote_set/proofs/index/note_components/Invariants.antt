use Rattle.std.proofs.Common.{◌≡◌, ◌||◌, ◌&&◌, ℕ, List, take}
use Rattle.remote_set.specs.declared.rank.Rank.{Rank}
use Rattle.remote_set.specs.Indexes.{is_offered_before}
use Rattle.remote_set.specs.Merged.{comes_before, offers}
use Rattle.remote_set.proofs.index.note_components.Given as goal

abbrev pub invariant-loop-component : goal.invariant-loop-component
invariant-loop-component l = (rank : Rank) (id version : List ℕ)
    → is_offered_before l.index.entries rank id version ≡ (is_offered_before l.fn.index.entries rank id version || (comes_before l.own rank && offers id version (take l.component-index l.components)))
