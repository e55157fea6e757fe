use Rattle.host_service.proofs.BringingLaws.{few-plugins, words-brought}
use Rattle.host_service.proofs.running.run_over_folder.Goals as goal

pub run_campaign-requires-clause-few_plugins : goal.run_campaign-requires-clause-few_plugins
run_campaign-requires-clause-few_plugins g c = λ κs lives. few-plugins _ _ _ c.requires.four

pub returns-clause-ends : goal.returns-clause-ends
returns-clause-ends g c = words-brought _ _ _ _ _ _ _ _ _ _ _ c.in_ok-shelves.ensures c.requires.four c.run_campaign.ensures.ends

pub returns-clause-marks_told : goal.returns-clause-marks_told
returns-clause-marks_told g c = c.run_campaign.ensures.marks_told
