use Rattle.history_keeper.specs.Signs.{signs_of}
use Rattle.fwupd_service.specs.Plugged.{plugin_words, plugins_with}
use Rattle.fwupd_service.proofs.PlanCompleting.{update-complete}
use Rattle.fwupd_service.proofs.laws.update_completes.Goals as goal

pub returns : goal.returns
returns g c = λ sheets vetoes. update-complete (signs_of g.K.Keeper.tells g.K.Keeper.doubt g.K.Keeper.faults) (plugins_with sheets vetoes (plugin_words g.Q.Plugin.own_sheet g.Q.Plugin.own_vetoes g.Q.Plugin.steps))
