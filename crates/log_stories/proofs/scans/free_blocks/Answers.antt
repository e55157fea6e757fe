use Rattle.std.proofs.Common.{arith}
use Rattle.log_stories.proofs.LogScans.{held-in, live-in}
use Rattle.log_stories.proofs.scans.free_blocks.Goals as goal

pub returns : goal.returns
returns c = let h = held-in c.args.log.now in let l = live-in c.args.log.now in omega (arith, h, l)
