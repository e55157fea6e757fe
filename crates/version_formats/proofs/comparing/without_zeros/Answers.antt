use Rattle.std.proofs.Common.{◌∙◌, ap, ℕ, drop}
use Rattle.std.proofs.lemmas.List.{take_rest}
use Rattle.version_formats.proofs.comparing.without_zeros.Goals as goal

pub returns : goal.returns
returns c =
    take_rest c.args.digits.now c.leading_zeros.result ∙ ap (λ (n : ℕ). drop n c.args.digits.now) c.leading_zeros.ensures.value
