use Rattle.std.proofs.Common.{◌≡◌, ◌≢◌, get_or, sym, ◌∙◌, arith}
use Rattle.std.proofs.lemmas.List.{get_or_past}
use Rattle.emulated_boards.proofs.Images.{bad_end, good_ends}
use Rattle.emulated_boards.proofs.image.image_raw.Goals as goal

pub returns-then-bytes-lt-IMAGE_HEAD_BYTES : goal.returns-then-bytes-lt-IMAGE_HEAD_BYTES
returns-then-bytes-lt-IMAGE_HEAD_BYTES c =
    let bytes = c.args.bytes.now in
    let none : get_or bytes 13 0 ≡ 0 = get_or_past bytes 13 0 (omega arith) in
    let other : get_or bytes 13 0 ≢ 10 = omega arith in
    bad_end bytes other

pub returns-then-bytes-ne10 : goal.returns-then-bytes-ne10
returns-then-bytes-ne10 c = bad_end c.args.bytes.now c.if-bytes-ne10.true

pub returns : goal.returns
returns c =
    c.read_hex.ensures ∙ good_ends c.args.bytes.now (sym c.starts_with.ensures.value ∙ c.if-not-starts_with.false) c.if-bytes-ne10.false
