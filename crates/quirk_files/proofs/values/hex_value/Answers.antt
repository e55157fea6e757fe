use Rattle.quirk_files.proofs.Readings.{hex_step}
use Rattle.quirk_files.proofs.values.hex_value.Goals as goal

pub loop-digit-preserved : goal.loop-digit-preserved
loop-digit-preserved c =
    let next = hex_step c.args.digits.now c.loop-digit.digit-index c.loop-digit.value c.hex_digit.result c.requires.digits c.requires.short c.loop-digit-test.true
    c.loop-digit.invariant.so_far c.loop-digit.invariant.small c.hex_digit.ensures in
    record { so_far = next.0; small = next.1 }
