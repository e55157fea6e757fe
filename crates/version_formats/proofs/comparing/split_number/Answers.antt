use Rattle.version_formats.proofs.OrderLemmas.{take_while-passes}
use Rattle.std.specs.Char.{is_ascii_digit}
use Rattle.version_formats.proofs.comparing.split_number.Goals as goal

pub returns-clause-digits : goal.returns-clause-digits
returns-clause-digits c = rw (c.split_at.ensures.front, c.leading_digits.ensures.value) (take_while-passes is_ascii_digit c.args.text.now)
