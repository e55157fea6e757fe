use Rattle.std.proofs.Common.{length, ap, ◌∙◌, take}
use Rattle.std.proofs.lemmas.List.{take_at, length-take-le}
use Rattle.block_pool.specs.Bytes.{first_block}
use Rattle.block_pool.proofs.Head.{head-bytes, head-in-front}
use Rattle.block_pool.proofs.payload.Payload.head.Goals as goal

pub returns-clause-bytes : goal.returns-clause-bytes
returns-clause-bytes c =
    let it = c.self.inside in
    let known = c.min-known.result in
    let near = head-in-front it.stack.blocks it.len known it.stack.whole it.fits c.min-known.ensures in
    let copied = c.copy_from_slice.ensures.after ∙ ap (λ bytes. take known bytes) c.front-front.ensures in
    let long = ap length copied ∙ length-take-le known (first_block it.stack.blocks) near in
    let front = head-bytes it.stack.blocks it.len known it.stack.whole it.fits c.min-known.ensures in
    let seen = ap (λ s. take 14 s.bytes) c.self.view_is in
    take_at c.copy_from_slice.new.self _ known long ∙ copied ∙ front ∙ seen
