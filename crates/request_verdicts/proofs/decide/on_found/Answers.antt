use Rattle.request_verdicts.proofs.decide.on_found.Goals as goal

pub on_release-requires-clause-few : goal.on_release-requires-clause-few
on_release-requires-clause-few c = c.requires.few _ _ c.in-Some.ensures.component
