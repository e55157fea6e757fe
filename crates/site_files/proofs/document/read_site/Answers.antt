use Rattle.site_files.proofs.SoundSites.{can_be_settled}
use Rattle.site_files.proofs.document.read_site.Goals as goal

pub returns-in-Ok-clause-settleable : goal.returns-in-Ok-clause-settleable
returns-in-Ok-clause-settleable c = can_be_settled c.args.bytes.now c.in-Ok.site c.in-Ok.ensures
