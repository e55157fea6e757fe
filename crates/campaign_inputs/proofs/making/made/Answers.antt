use Rattle.campaign_inputs.proofs.MadeSites.{can_be_run, where_ok}
use Rattle.campaign_inputs.proofs.making.made.Goals as goal

pub returns-clause-can_run : goal.returns-clause-can_run
returns-clause-can_run c = where_ok c.make_site.result (can_be_run c.args.boards c.args.clients c.requires.few_boards c.requires.few_clients)
