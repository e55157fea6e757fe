use Rattle.std.proofs.Common.{◌≡◌, slice_index, arith}
use Rattle.update_plans.proofs.Fields.{decimal_byte, least-Bcd}
use Rattle.update_plans.proofs.packing.packed.Goals as goal

pub returns-in-Bcd : goal.returns-in-Bcd
returns-in-Bcd c =
    let a : c.decimal_byte.result ≡ decimal_byte (slice_index c.args.fields.now 0) = omega (arith, c.decimal_byte.ensures.value, c.field-a.ensures.value) in
    let b : c.decimal_byte-in-Bcd.result ≡ decimal_byte (slice_index c.args.fields.now 1) = omega (arith, c.decimal_byte-in-Bcd.ensures.value, c.field-b.ensures.value) in
    let e : c.decimal_byte-in-Bcd-2.result ≡ decimal_byte (slice_index c.args.fields.now 2) = omega (arith, c.decimal_byte-in-Bcd-2.ensures.value, c.field-c.ensures.value) in
    let d : c.decimal_byte-in-Bcd-3.result ≡ decimal_byte (slice_index c.args.fields.now 3) = omega (arith, c.decimal_byte-in-Bcd-3.ensures.value, c.field-d.ensures.value) in
    rw c.in-Bcd.is (least-Bcd c.args.fields.now _ (omega (arith, a, b, e, d)))
