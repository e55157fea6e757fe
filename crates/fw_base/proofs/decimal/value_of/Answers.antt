use Rattle.fw_base.proofs.Numbers.{read_whole, read_past, read_more, kept_fits, digit_there}
use Rattle.fw_base.proofs.decimal.value_of.Goals as goal

pub returns-in-None : goal.returns-in-None
returns-in-None c =
    read_past c.args.digits.now c.loop-digit.digit-index c.loop-digit.value c.requires c.loop-digit-test.true c.loop-digit.invariant.so_far c.in-None.ensures

pub loop-digit-preserved : goal.loop-digit-preserved
loop-digit-preserved c = record {
  so_far = read_more c.args.digits.now c.loop-digit.digit-index c.loop-digit.value c.in-Some.more c.requires c.loop-digit-test.true c.loop-digit.invariant.so_far c.in-Some.ensures;
  in_range = kept_fits _ c.in-Some.more (c.in-Some.ensures (digit_there c.args.digits.now c.loop-digit.digit-index c.requires c.loop-digit-test.true));
}

pub returns : goal.returns
returns c =
    read_whole c.args.digits.now c.loop-digit.digit-index c.loop-digit.value c.loop-digit-test.false c.loop-digit.invariant.so_far c.loop-digit.invariant.in_range
