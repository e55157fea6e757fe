use Rattle.std.proofs.Common.{◌≡◌, ℕ, List, ap, ◌∙◌, arith}
use Rattle.std.proofs.lemmas.Nat.{from_be_bytes-to_be_bytes_4}
use Rattle.std.specs.Int.{w32, from_be_bytes, to_be_bytes}
use Rattle.std.specs.Result.{result_ok}
use Rattle.hex.specs.Hex.{decode_sized}
use Rattle.version_formats.specs.Formats.{render}
use Rattle.version_formats.specs.declared.format.Format.TheVariants.{Hex}
use Rattle.update_plans.proofs.Likely.{decoded-hex}
use Rattle.update_plans.proofs.Options.{answered, not_none}
use Rattle.update_plans.proofs.raw.hex_raw.Goals as goal

pub returns-in_err-ok : goal.returns-in_err-ok
returns-in_err-ok c =
    λ raw h same.
    let told = ap (λ (text : List ℕ). decode_sized text 4) c.last_eight.ensures ∙ decoded-hex raw c.args.version.now h same in
    let decoded = answered _ (to_be_bytes w32 raw) _ _ c.decode_to_slice.ensures.value told in
    absurd (not_none (c.ok.ensures.value ∙ ap result_ok decoded.0) c.in_err-ok.was)

pub returns : goal.returns
returns c =
    λ raw h same.
    let told = ap (λ (text : List ℕ). decode_sized text 4) c.last_eight.ensures ∙ decoded-hex raw c.args.version.now h same in
    let decoded = answered _ (to_be_bytes w32 raw) _ _ c.decode_to_slice.ensures.value told in
    let number : c.from_be_bytes.result ≡ raw =
    c.from_be_bytes.ensures ∙ ap (from_be_bytes w32) decoded.1 ∙ from_be_bytes-to_be_bytes_4 raw h in
    (omega arith, ap (render Hex) number)
