use Rattle.std.proofs.Common.{sym, subst}
use Rattle.site_types.specs.Limits.{CanBeSettled}
use Rattle.site_making.proofs.MadeLaws.{can_be_settled, none_shared}
use Rattle.site_making.proofs.making.make_site.Goals as goal

pub returns-clause-settled : goal.returns-clause-settled
returns-clause-settled c = subst CanBeSettled (sym c.in_ok-made_boards.ensures) (can_be_settled c.args.boards)

pub returns-clause-apart : goal.returns-clause-apart
returns-clause-apart c = none_shared c.args.clients
