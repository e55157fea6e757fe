use Rattle.std.proofs.Common.{◌++◌, take}
use Rattle.std.specs.List.{concat}
use Rattle.block_pool.proofs.Hashing.{hashed-more}
use Rattle.block_pool.proofs.chain.Chain.digest_of_first.Goals as goal

pub walk-preserved : goal.walk-preserved
walk-preserved c =
    let block = c.deref-block.result.now in
    let known = c.walk.invariant in (
      known.0 ++ c.first_of-piece.result.now,
      c.update.ensures known.0 known.1,
      hashed-more known.0 block.bytes block.rest c.walk.here.now c.walk.left _ (take c.args.len (concat c.args.self.now)) (cc) c.first_of-piece.ensures known.2,
    )
