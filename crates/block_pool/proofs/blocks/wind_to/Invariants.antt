use Rattle.std.proofs.Common.{◌≡◌, ◌+◌, ◌-◌, ◌≤◌}
use Rattle.block_pool.specs.Bytes.{unwound}
use Rattle.block_pool.proofs.blocks.wind_to.Given as goal

abbrev pub invariant-on : goal.invariant-on
invariant-on l = record {
  all : l.passed.count + l.rest.count ≡ l.fn.passed.count + l.fn.rest.count;
  same : unwound l.passed.blocks l.rest.blocks ≡ unwound l.fn.passed.blocks l.fn.rest.blocks;
}

abbrev pub decreases-on : goal.decreases-on
decreases-on l = l.place - l.passed.count

abbrev pub invariant-back : goal.invariant-back
invariant-back l = record {
  all : l.passed.count + l.rest.count ≡ l.fn.passed.count + l.fn.rest.count;
  enough : l.place ≤ l.passed.count;
  same : unwound l.passed.blocks l.rest.blocks ≡ unwound l.fn.passed.blocks l.fn.rest.blocks;
}

abbrev pub decreases-back : goal.decreases-back
decreases-back l = l.passed.count
