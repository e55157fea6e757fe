use Rattle.std.proofs.Common.{rules}
use Rattle.history_sqlite.proofs.ReadBack.{is_read_back}
use Rattle.history_sqlite.proofs.laws.row_is_read_back.Goals as goal

pub returns : goal.returns
returns c =
    is_read_back c.args.row (search rules) (record {
      tag = search rules;
      component = search rules;
      version_old = search rules;
      version_new = search rules;
      protocol = search rules;
    })
