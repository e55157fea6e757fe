use Rattle.sqlite.specs.Files.{over_files}
use Rattle.host_service.proofs.OpeningLaws.{no-others, ok-so}
use Rattle.host_service.proofs.over.HistoryFileFileHistory.open_file.Goals as goal

pub returns-clause-no_others : goal.returns-clause-no_others
returns-clause-no_others c = ok-so c.open.result c.open.ensures.tells (λ new tells rows holds. no-others over_files _ new.keeper rows (tells rows holds))
