use Rattle.std.proofs.Common.{◌∙◌, ap, sym, List, ℕ, ◌∷◌, ◌*◌, length, append-nil}
use Rattle.hex.specs.Hex.{encode_lower}
use Rattle.version_formats.specs.Formats.{render}
use Rattle.version_formats.proofs.Accepted.{hex-accepted}
use Rattle.version_formats.proofs.FormatLemmas.{written_if_fits}
use Rattle.version_formats.proofs.rendering.hex.Goals as goal

pub keep-requires-clause-accepted : goal.keep-requires-clause-accepted
keep-requires-clause-accepted c =
    let bytes = c.as_slice.ensures ∙ c.to_be_bytes.ensures in
    let fits = c.encode_to_slice.ensures.fits.1 (ap (λ (xs : List ℕ). 2 * length xs) (sym bytes)) in
    let written = written_if_fits _ _ c.encode_to_slice.ensures.written fits in
    hex-accepted _ c.args.raw (ap (λ (xs : List ℕ). 48 ∷ 120 ∷ xs) (append-nil _ ∙ written ∙ ap encode_lower bytes))

pub returns : goal.returns
unfolding render
returns c =
    let bytes = c.as_slice.ensures ∙ c.to_be_bytes.ensures in
    let fits = c.encode_to_slice.ensures.fits.1 (ap (λ (xs : List ℕ). 2 * length xs) (sym bytes)) in
    let written = written_if_fits _ _ c.encode_to_slice.ensures.written fits in
    c.keep.ensures ∙ ap (λ (xs : List ℕ). 48 ∷ 120 ∷ xs) (append-nil _ ∙ written ∙ ap encode_lower bytes)
