use Rattle.fwupd_service.specs.Plugged.{plugin_words, plugins_with}
use Rattle.fwupd_service.proofs.Completing.{make-complete}
use Rattle.fwupd_service.proofs.laws.make_completes.Goals as goal

pub returns : goal.returns
returns g c = λ boards clients sheets vetoes. make-complete boards clients (plugins_with sheets vetoes (plugin_words g.Q.Plugin.own_sheet g.Q.Plugin.own_vetoes g.Q.Plugin.steps))
