use Rattle.site_remotes.proofs.Telling.{as_many_kept, told_all}
use Rattle.site_remotes.proofs.gathering.gather.Goals as goal

pub with_kept-requires : goal.with_kept-requires
with_kept-requires c = cc (as_many_kept c.args.remotes.items, c.in_ok-merged.ensures.kept, c.in_ok-stated.ensures)

pub returns-clause-remotes : goal.returns-clause-remotes
returns-clause-remotes c = cc (told_all c.args.remotes.items, c.in_ok-told.ensures, c.in_ok-merged.ensures.kept, c.in_ok-stated.ensures)
