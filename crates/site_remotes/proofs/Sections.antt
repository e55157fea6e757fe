-- What is true of the remotes that were read, one more at a time.
use Rattle.std.proofs.Common.{◌≡◌, ◌+◌, ◌≤◌, false, List, [], ◌∷◌, ◌++◌, length, None, sym, ap, ◌∙◌, subst, arith}
use Rattle.std.proofs.lemmas.List.Sums.{sum_by-append, sum_by-cons}
use Rattle.std.specs.List.{list_any}
use Rattle.std.specs.Str.{bytes_eq}
use Rattle.release_catalogue.specs.Components.{releases_in}
use Rattle.remote_set.specs.declared.remote.Remote.{Remote}
use Rattle.remote_set.specs.Merged.{first_repeated}
use Rattle.remote_set.proofs.Names.{still_named}
use Rattle.site_remotes.specs.Remotes.{IsWithin, components_of, releases_of}

pub within_more : (all before : List Remote) (r : Remote) → all ≡ before ++ r ∷ [] → components_of before + length r.catalogue ≤ 4096
    → releases_of before + releases_in r.catalogue ≤ 20000 → IsWithin all
within_more all before r is few few_releases =
    subst IsWithin (sym is)
    (record {
      few = omega (arith, sum_by-append (λ (r : Remote). length r.catalogue) before (r ∷ []), sum_by-cons (λ (r : Remote). length r.catalogue) r [], few);
      few_releases = omega (arith, sum_by-append (λ (r : Remote). releases_in r.catalogue) before (r ∷ []), sum_by-cons (λ (r : Remote). releases_in r.catalogue) r [], few_releases);
    })

pub named_more : (all before : List Remote) (r : Remote) → all ≡ before ++ r ∷ [] → first_repeated before ≡ None
    → list_any (λ other. bytes_eq other.name r.name) before ≡ false → first_repeated all ≡ None
named_more all before r is named new = ap first_repeated is ∙ still_named [] before r new named
