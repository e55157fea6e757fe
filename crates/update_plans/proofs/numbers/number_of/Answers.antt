use Rattle.std.proofs.Common.{◌≡◌, ◌+◌, ◌*◌, ◌^◌, ◌<◌, Some, get_or, sym, ap, ◌∙◌, arith}
use Rattle.std.proofs.lemmas.List.{at_drop_all}
use Rattle.std.specs.Char.{digit_value}
use Rattle.std.specs.Str.Parse.{digits_value_after}
use Rattle.update_plans.proofs.Options.{fits_some, not_none, same_some}
use Rattle.update_plans.proofs.Reading.{digit-fits, digit-read, whole_section}
use Rattle.update_plans.proofs.numbers.number_of.Goals as goal

pub returns-in_err-digit_of : goal.returns-in_err-digit_of
returns-in_err-digit_of c =
    λ number small h.
    let read = digit-read c.args.section.now number c.loop-byte.byte-index (whole_section c.args.section.now number h) c.loop-byte-test.true in
    absurd (not_none (c.digit_of.ensures ∙ read) c.in_err-digit_of.was)

pub returns-in_err-number : goal.returns-in_err-number
returns-in_err-number c =
    λ number small h.
    let digits = whole_section c.args.section.now number h in
    let at = c.loop-byte.byte-index in
    let read = digit-read c.args.section.now number at digits c.loop-byte-test.true in
    let same : c.in_ok-digit_of.field-0 ≡ digit_value (get_or c.args.section.now at 0) = same_some c.in_ok-digit_of.was (c.digit_of.ensures ∙ read) in
    let fits = digit-fits c.args.section.now number c.loop-byte.number at digits c.loop-byte-test.true c.loop-byte.invariant in
    let next : c.loop-byte.number * 10 + c.in_ok-digit_of.field-0 < 2 ^ 32 = omega (arith, same, fits, small) in
    absurd (not_none (c.with_digit.ensures ∙ fits_some _ next) c.in_err-number.was)

pub returns : goal.returns
returns c =
    λ number small h.
    let digits = whole_section c.args.section.now number h in
    ap Some
    (sym (at_drop_all (digits_value_after 10 c.loop-byte.number) c.args.section.now c.loop-byte.byte-index c.loop-byte-test.false)
    ∙ c.loop-byte.invariant ∙ digits.value)
