use Rattle.std.proofs.Common.{◌∙◌, ap, List, ℕ, take}
use Rattle.uuid.specs.Parts.{with_version, with_variant}
use Rattle.uuid.specs.declared.Version.TheVariants.{Sha1}
use Rattle.uuid.specs.declared.Variant.TheVariants.{RFC4122}
use Rattle.guid_ids.proofs.hardware.named_by.Goals as goal

pub returns : goal.returns
returns c =
    λ name held.
    c.from_bytes.ensures ∙ c.as_bytes.ensures ∙ c.as_uuid.ensures ∙ c.from_sha1_bytes.ensures.value
    ∙ ap (λ (xs : List ℕ). with_version (with_variant xs RFC4122) Sha1)
    (c.copy_from_slice.ensures.after ∙ ap (λ (xs : List ℕ). take 16 xs) (c.finalize-digest.ensures _ held))
