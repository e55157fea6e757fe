use Rattle.std.proofs.Common.{◌≡◌, ◌||◌, ◌&&◌, ℕ, List, take}
use Rattle.std.specs.List.{list_any}
use Rattle.std.specs.Str.{bytes_eq}
use Rattle.version_formats.specs.VersionOrder.{same_version}
use Rattle.remote_set.specs.declared.rank.Rank.{Rank}
use Rattle.remote_set.specs.Indexes.{is_offered_before}
use Rattle.remote_set.specs.Merged.{comes_before}
use Rattle.remote_set.proofs.index.note_releases.Given as goal

abbrev pub invariant-loop-release : goal.invariant-loop-release
invariant-loop-release l = (rank : Rank) (id version : List ℕ)
    → is_offered_before l.index.entries rank id version
    ≡ (is_offered_before l.fn.index.entries rank id version
    || (comes_before l.own rank && (bytes_eq l.of id && list_any (λ release. same_version release.version version) (take l.release-index l.releases))))
