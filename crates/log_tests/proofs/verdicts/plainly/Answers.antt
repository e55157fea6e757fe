use Rattle.std.proofs.Common.{ap, arith, length}
use Rattle.log_tests.proofs.verdicts.plainly.Goals as goal

pub plain_verdict-requires : goal.plain_verdict-requires
plain_verdict-requires c = let same = ap length c.views.ensures in omega (arith, same)
