-- The order of the keys of releases: by ID, then by version.
use Rattle.std.specs.Prelude.{ℕ, List}
use Rattle.std.specs.Cmp.{IsTotalOrder, on_total, then_total, nat_cmp_total}
use Rattle.std.specs.Cmp.Lexicographic.{slice_cmp, lists_total}
use Rattle.std.specs.Ordering.{nat_cmp, on, then_cmp}
use Rattle.std.specs.declared.cmp.Ordering.{Ordering}
use Rattle.version_formats.specs.VersionOrder.{version_cmp}
use Rattle.version_formats.proofs.VersionLaws.{version_cmp-total}
use Rattle.remote_set.specs.declared.key.ReleaseKey.{ReleaseKey}

abbrev pub id_of : ReleaseKey → List ℕ
id_of key = key.id

abbrev pub version_of : ReleaseKey → List ℕ
version_of key = key.version

abbrev pub key_cmp : ReleaseKey → ReleaseKey → Ordering
key_cmp = then_cmp (on id_of (slice_cmp nat_cmp)) (on version_of version_cmp)

pub key_cmp_total : IsTotalOrder key_cmp
key_cmp_total = then_total (on_total id_of (lists_total nat_cmp_total)) (on_total version_of version_cmp-total)
