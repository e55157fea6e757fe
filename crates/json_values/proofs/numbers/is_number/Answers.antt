use Rattle.std.specs.Prelude.{◌≡◌, ◌==◌, drop, get_or, is_some, true}
use Rattle.std.proofs.Common.{sym, ap, ◌∙◌, arith, take_all, length-drop}
use Rattle.fast_float.specs.Text.{scan}
use Rattle.serde_json.specs.Read.{number_from, number_of}
use Rattle.json_values.proofs.Numerals.{fits_below}
use Rattle.json_values.proofs.numbers.is_number.Goals as goal

pub returns-then-has_minus : goal.returns-then-has_minus
returns-then-has_minus c =
    let s = c.as_bytes-bytes.result.now in
    let minus : (get_or s 0 0 == 45) ≡ true = sym c.if-has_minus.ensures.value in
    let parts : c.scan.result ≡ scan (drop 1 s) = c.scan.ensures.parts ∙ ap scan (take_all _ (drop 1 s) (omega (arith, length-drop 1 s))) in
    fits_below s c.is_below_zero.result minus (c.is_below_zero.ensures ∙ ap (λ p. is_some (number_from true p)) parts)
    ∙ ap (λ x. is_some (number_of x)) c.as_bytes-bytes.ensures.value
