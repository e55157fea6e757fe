use Rattle.std.proofs.Common.{arith, length, ◌<◌, ◌+◌, take}
use Rattle.std.proofs.lemmas.Result.{err_from_is_err_and}
use Rattle.outer_traits.proofs.Pieces.{more_came, some_came}
use Rattle.outer_traits.proofs.source.read_by_pieces.Goals as goal

pub returns-then-count-limit-clause-too_long : goal.returns-then-count-limit-clause-too_long
returns-then-count-limit-clause-too_long g c =
    λ _. let over : c.args.limit < length c.loop-bytes.bytes.items + c.in_ok-count.count = (let len = c.loop-bytes.bytes.ok in omega arith) in
    more_came c.args.limit c.in_ok-count.count c.loop-bytes.bytes.items c.read.new.into _ _ _ c.loop-bytes.invariant.came c.in_ok-count.ensures.came c.in_ok-count.ensures.bound over

pub returns-then-count-limit-clause-front : goal.returns-then-count-limit-clause-front
returns-then-count-limit-clause-front g c =
    some_came c.loop-bytes.bytes.items (take c.in_ok-count.count c.read.new.into) _ _ _ c.loop-bytes.invariant.came c.in_ok-count.ensures.came

pub returns-in_err-extend_from_slice-clause-front : goal.returns-in_err-extend_from_slice-clause-front
returns-in_err-extend_from_slice-clause-front g c =
    let p = err_from_is_err_and c.from_residual-in_err-extend_from_slice.result c.from_residual-in_err-extend_from_slice.ensures.1 in
    rw p.1 (some_came c.loop-bytes.bytes.items (take c.in_ok-count.count c.read.new.into) _ _ _ c.loop-bytes.invariant.came c.in_ok-count.ensures.came)
