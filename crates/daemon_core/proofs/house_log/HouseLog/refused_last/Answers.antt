use Rattle.std.proofs.Common.{List, ap, ◌∙◌}
use Rattle.std.specs.Prelude.{find, option_and_then, reverse}
use Rattle.update_log.specs.declared.event.Event.{Event}
use Rattle.daemon_core.specs.Housed.{HouseLogView, past_in}
use Rattle.daemon_core.specs.Resumes.{is_refused, refused_by}
use Rattle.daemon_core.proofs.ResumeHolds.{refused-found}
use Rattle.daemon_core.proofs.house_log.HouseLog.refused_last.Goals as goal

pub returns : goal.returns
returns c = λ entry refusal w.
    c.refused_last.ensures
    ∙ ap (λ (l : List Event). option_and_then refused_by (find is_refused (reverse l))) (c.log.ensures ∙ ap (λ (a : HouseLogView). a.core.log) c.self.view_is)
    ∙ refused-found (past_in c.args.self.now) entry refusal w.event w.last w.refused
