use Rattle.std.proofs.Common.{◌≡◌, ◌≤◌, true, length, take, get_or, ◌∙◌, ap, arith, length-take}
use Rattle.std.specs.Char.{digit_value}
use Rattle.std.proofs.lemmas.Bool.{lt-ltb, and_from}
use Rattle.std.proofs.lemmas.Int.Digits.{digits_value_more}
use Rattle.std.proofs.lemmas.List.Folds.{list_all_more}
use Rattle.emulated_boards.proofs.Digits.{is_hex, digits_value-seven}
use Rattle.emulated_boards.proofs.image.read_hex.Goals as goal

pub overflow_mul-value : goal.overflow_mul-value
overflow_mul-value c =
    let so_far = take c.digits.byte-index c.args.digits.now in
    let few : length so_far ≤ 7 = simp length-take (omega arith) in
    let small = digits_value-seven so_far c.digits.invariant.digits few in
    omega arith

pub overflow_add-value : goal.overflow_add-value
overflow_add-value c =
    let so_far = take c.digits.byte-index c.args.digits.now in
    let few : length so_far ≤ 7 = simp length-take (omega arith) in
    let small = digits_value-seven so_far c.digits.invariant.digits few in
    let digit = c.in_ok-digit.ensures.value in
    omega arith

pub digits-preserved : goal.digits-preserved
digits-preserved c =
    let xs = c.args.digits.now in
    let i = c.digits.byte-index in
    let read = digits_value_more 16 xs i c.digits-test.true in
    let all = list_all_more is_hex xs i 0 c.digits-test.true in
    let digit = c.in_ok-digit.ensures.value in
    let same : digit_value c.from.result ≡ digit_value (get_or xs i 0) = ap digit_value c.from.ensures in
    let test : is_hex (get_or xs i 0) ≡ true = lt-ltb (digit_value (get_or xs i 0)) 16 (omega arith) in
    record {
      read = omega (arith, c.digits.invariant.read);
      digits = all ∙ and_from _ _ c.digits.invariant.digits test;
    }
