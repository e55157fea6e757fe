use Rattle.std.proofs.Common.{◌∙◌, ap, length}
use Rattle.std.proofs.lemmas.List.Elements.{All-same}
use Rattle.block_pool.proofs.Moving.{IsBlock}
use Rattle.block_pool.proofs.Written.{AreBlocks-first_overwritten, length-first_overwritten}
use Rattle.block_pool.proofs.stack.Stack.write_first.Goals as goal

pub invariant_of-self : goal.invariant_of-self
invariant_of-self c =
    let was = c.args.self.now in
    record {
      whole = All-same IsBlock _ _ c.write_first.ensures (AreBlocks-first_overwritten was.blocks c.args.at c.args.piece.now c.requires was.whole);
      counted = ap length c.write_first.ensures ∙ length-first_overwritten was.blocks c.args.at c.args.piece.now ∙ was.counted;
    }
