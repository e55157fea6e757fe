use Rattle.std.proofs.Common.{◌≡◌, ℕ, ◌≤◌, ◌∙◌, arith}
use Rattle.version_formats.specs.Formats.{render}
use Rattle.update_plans.specs.Fields.{fields}
use Rattle.update_plans.proofs.Likely.{are_numbers, render-fields}
use Rattle.update_plans.proofs.Options.{fits_some, some_and}
use Rattle.update_plans.proofs.raw.dotted_raw.Goals as goal

pub returns-in_err-numbers : goal.returns-in_err-numbers
returns-in_err-numbers c =
    λ raw h same. absurd (c.in_err-numbers.ensures (fields c.args.format raw) (are_numbers c.args.format raw c.args.version.now c.requires h same))

pub returns : goal.returns
returns c =
    λ raw h same.
    let read = c.in_ok-numbers.ensures (fields c.args.format raw) (are_numbers c.args.format raw c.args.version.now c.requires h same) in
    let is : c.as_slice.result.now ≡ fields c.args.format raw = c.as_slice.ensures.value ∙ read in
    let least : c.packed.result ≤ raw = c.packed.ensures.least raw h is in
    let alike = c.packed.ensures.same raw h is ∙ is in
    some_and c.of_32_bits.result c.packed.result
    (λ (number : ℕ). (number ≤ raw) × (render c.args.format number ≡ render c.args.format raw))
    (c.of_32_bits.ensures ∙ fits_some c.packed.result (omega arith))
    (least, render-fields c.args.format c.packed.result raw c.requires alike)
