use Rattle.std.proofs.Common.{arith}
use Rattle.site_making.proofs.NumberedNames.{numbered}
use Rattle.site_making.proofs.sheets.made_port.Goals as goal

pub numbered_name-requires : goal.numbered_name-requires
numbered_name-requires c = numbered 98 c.args.board (omega arith) (omega arith) c.requires
