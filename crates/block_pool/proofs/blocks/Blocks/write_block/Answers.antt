use Rattle.std.proofs.Common.{◌≡◌, ◌+◌, ◌<◌, length, ap, refl, ◌∙◌, arith}
use Rattle.std.specs.List.{concat}
use Rattle.block_pool.proofs.Written.{overwritten-row, length-row, length-first_overwritten}
use Rattle.block_pool.proofs.blocks.Blocks.write_block.Goals as goal

pub invariant_of-self-inside : goal.invariant_of-self-inside
invariant_of-self-inside c =
    let passed = c.wind_to.new.passed in
    let rest = c.write_first.new.self in
    let same = ap length c.write_first.ensures ∙ length-first_overwritten c.wind_to.new.rest.blocks c.args.start c.args.piece.now in
    let all : passed.count + rest.count ≡ c.self.inside.count =
    omega (arith, rest.counted, c.wind_to.new.rest.counted, c.self.inside.counted) in
    (all, (length-row passed.blocks rest.blocks c.self.inside.count passed.whole rest.whole (omega (arith, passed.counted, rest.counted)), tt))

pub returns-clause-written : goal.returns-clause-written
returns-clause-written c =
    let passed = c.wind_to.new.passed in
    let rest = c.wind_to.new.rest in
    let counts = ap (λ h. h.count) c.self.view_is in
    let there : 0 < length rest.blocks = omega (arith, passed.counted, rest.counted, c.self.inside.counted) in
    let row = overwritten-row passed.blocks rest.blocks c.args.start c.args.piece.now passed.whole rest.whole there c.requires.fits in
    let place : length passed.blocks ≡ c.args.block = passed.counted ∙ c.wind_to.ensures.place in
    let bytes = ap concat c.wind_to.ensures.same ∙ ap (λ h. h.bytes) c.self.view_is in
    rw (c.write_first.ensures, row, bytes, place) refl
