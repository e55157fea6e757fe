use Rattle.std.proofs.Common.{arith}
use Rattle.site_making.proofs.NumberedNames.{numbered}
use Rattle.site_making.proofs.scripts.made_request.Goals as goal

pub numbered_name-requires : goal.numbered_name-requires
numbered_name-requires c = numbered 116 c.args.board (omega arith) (omega arith) c.requires
