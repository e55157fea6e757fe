use Rattle.std.proofs.Common.{◌≡◌, ◌+◌, ◌*◌, ◌/◌, ◌%◌, ◌≤◌, ◌++◌, length, refl, ◌∙◌, arith}
use Rattle.std.proofs.lemmas.List.{take-append-drop}
use Rattle.block_pool.specs.Bytes.{overwritten}
use Rattle.block_pool.proofs.Written.{overwritten-append}
use Rattle.block_pool.proofs.blocks.Blocks.fill.Goals as goal

pub pieces-preserved : goal.pieces-preserved
pieces-preserved c =
    let it = c.pieces in
    let now = c.split_at.result.0.now in
    let later = c.split_at.result.1.now in
    let place : 4096 * (it.at / 4096) + it.at % 4096 ≡ it.at = omega arith in
    let whole : now ++ later ≡ it.left.now =
    rw (c.split_at.ensures.front, c.split_at.ensures.back) (take-append-drop c.min.result it.left.now) in
    let all : length now + length later ≡ length it.left.now = omega arith in
    let sized = it.self.sized in
    let fits : it.at + length now ≤ length it.self.bytes = omega arith in
    let step = overwritten-append it.self.bytes it.at now later fits in
    let written : c.write_block.new.self.bytes ≡ overwritten it.self.bytes it.at now = rw c.write_block.ensures.written (rw place refl) in
    record {
      count = c.write_block.ensures.count ∙ it.invariant.count;
      fits = omega arith;
      goes_on = rw (written, step, whole) it.invariant.goes_on;
    }
