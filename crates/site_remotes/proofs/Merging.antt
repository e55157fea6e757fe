-- What comes of merging the remotes of a document.
use Rattle.std.proofs.Common.{◌≡◌, ℕ, ◌≤◌, false, List, length, Option, None, Result, Ok, Err, refl, sym, ap, ◌∙◌, subst, arith}
use Rattle.std.specs.Prelude.{nat_lt}
use Rattle.std.proofs.lemmas.Bool.Decides.{nat_tests}
use Rattle.fw_facts.specs.declared.release.Component.{Component}
use Rattle.release_catalogue.specs.Components.{releases_in}
use Rattle.remote_set.specs.declared.merging.MergeFault.{MergeFault}
use Rattle.remote_set.specs.declared.merging.MergeFault.TheVariants.{TooMany}
use Rattle.remote_set.specs.declared.remote.Remote.{Remote}
use Rattle.remote_set.specs.Answers.{AnswersFault, Whole, whole_of, within, with_kept as with_numbers}
use Rattle.remote_set.specs.Merged.{first_repeated, kept, merged}
use Rattle.remote_set.proofs.Sizes.{few_merged, few_releases_merged}
use Rattle.site_remotes.specs.Remotes.{IsWithin}

fits : (remotes : List Remote) → IsWithin remotes → within (merged remotes) ≡ Ok (merged remotes)
fits remotes small =
    let few : length (merged remotes) ≤ 4096 = omega (arith, few_merged remotes, small.few) in
    let few_releases : releases_in (merged remotes) ≤ 20000 = omega (arith, few_releases_merged remotes, small.few_releases) in
    let first : nat_lt 4096 (length (merged remotes)) ≡ false = grind (arith, nat_tests) in
    let second : nat_lt 20000 (releases_in (merged remotes)) ≡ false = grind (arith, nat_tests) in
    rw (first, second) refl

all_merged : (remotes : List Remote) → IsWithin remotes → first_repeated remotes ≡ None
    → whole_of (first_repeated remotes) remotes ≡ Ok (record { catalogue = merged remotes; kept = kept remotes })
all_merged remotes small named = ap (λ (o : Option (List ℕ)). whole_of o remotes) named ∙ ap (λ (w : Result (List Component) MergeFault). with_numbers (kept remotes) w) (fits remotes small)

never : (remotes : List Remote) (fault : MergeFault) → IsWithin remotes → first_repeated remotes ≡ None
    → whole_of (first_repeated remotes) remotes ≡ Err fault → ⊥
never remotes fault small named so =
    let whole : Whole = record { catalogue = merged remotes; kept = kept remotes } in
    let good : Result Whole MergeFault = Ok whole in
    let both : good ≡ Err fault = sym (all_merged remotes small named) ∙ so in
    cc

pub not_too_many : (remotes : List Remote) (fault : MergeFault) (components releases : ℕ) → fault ≡ TooMany components releases → IsWithin remotes → first_repeated remotes ≡ None
    → AnswersFault fault (whole_of (first_repeated remotes) remotes) → ⊥
not_too_many remotes fault components releases is small named answers =
    never remotes (TooMany components releases) small named
    (subst (λ (f : MergeFault). AnswersFault f (whole_of (first_repeated remotes) remotes)) is answers)
