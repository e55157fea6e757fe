use Rattle.std.proofs.Common.{◌≡◌, ◌∙◌, sym}
use Rattle.version_formats.proofs.DigitLemmas.{nat_cmp-runs, significant}
use Rattle.version_formats.proofs.comparing.compare_numbers.Goals as goal

pub returns : goal.returns
returns c =
    let left_is : c.without_zeros-left.result.now ≡ significant c.args.left.now = c.without_zeros-left.ensures in
    let right_is : c.without_zeros-right.result.now ≡ significant c.args.right.now = c.without_zeros-right.ensures in
    c.then.ensures
    ∙ rw (c.cmp.ensures, c.cmp-2.ensures, left_is, right_is)
    (sym (nat_cmp-runs c.args.left.now c.args.right.now c.requires.left_digits c.requires.right_digits))
