-- Equal versions are offered and hidden alike.
use Rattle.std.proofs.Common.{◌≡◌, ℕ, Bool, true, ◌&&◌, List, ap}
use mathlib.Core.Path.{fun_ext}
use Rattle.std.specs.Cmp.{Equal-is}
use Rattle.std.specs.List.{list_any}
use Rattle.std.specs.Ordering.{is_eq}
use Rattle.std.specs.Str.{bytes_eq}
use Rattle.std.proofs.lemmas.Cmp.{alike_right}
use Rattle.version_formats.specs.VersionOrder.{same_version, version_cmp}
use Rattle.version_formats.proofs.VersionLaws.{version_cmp-total}
use Rattle.fw_facts.specs.declared.release.Component.{Component}
use Rattle.fw_facts.specs.declared.release.Release.{Release}
use Rattle.remote_set.specs.declared.rank.Rank.{Rank}
use Rattle.remote_set.specs.declared.remote.Remote.{Remote}
use Rattle.remote_set.specs.Merged.{comes_before, is_hidden, offers, placed_from, rank_of}

-- A release has a version.
abbrev pub has : List ℕ → Release → Bool
has version release = same_version release.version version

pub shown_alike : (shown version other : List ℕ) → same_version version other ≡ true → same_version shown version ≡ same_version shown other
shown_alike shown version other e = ap is_eq (alike_right version_cmp-total version other shown ((Equal-is (version_cmp version other)).0 e))

pub has_alike : (version other : List ℕ) → same_version version other ≡ true → has version ≡ has other
has_alike version other e = fun_ext (λ (r : Release). shown_alike r.version version other e)

offers_alike : (id version other : List ℕ) (components : List Component) → same_version version other ≡ true
    → offers id version components ≡ offers id other components
offers_alike id version other components e =
    ap (λ (test : Release → Bool). list_any (λ component. bytes_eq component.id id && list_any test component.releases) components)
    (has_alike version other e)

pub hidden_alike : (remotes : List Remote) (rank : Rank) (id version other : List ℕ) → same_version version other ≡ true
    → is_hidden remotes rank id version ≡ is_hidden remotes rank id other
hidden_alike remotes rank id version other e =
    ap (λ (test : List Component → Bool). list_any (λ other. other.remote.enabled && (comes_before (rank_of other) rank && test other.remote.catalogue)) (placed_from 0 remotes))
    (fun_ext (λ (cs : List Component). offers_alike id version other cs e))
