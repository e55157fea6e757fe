use Rattle.std.proofs.Common.{sym, subst, ◌∷◌, []}
use Rattle.history_keeper.specs.Signs.{signs_of}
use Rattle.daemon_core.proofs.Planned.{keeps-same}
use Rattle.client_plays.specs.Tools.{files_alone}
use Rattle.daemon_tasks.specs.Judged.{HouseTried, to_judge_in}
use Rattle.daemon_tasks.proofs.JudgePlays.{tried, tried-stays}
use Rattle.daemon_tasks.proofs.judging.judge_next.Goals as goal

pub returns-clause-more : goal.returns-clause-more
returns-clause-more g c basis files =
    let o = c.judge-outcome in
    subst (λ t. HouseTried (signs_of g.K.Keeper.tells g.K.Keeper.doubt g.K.Keeper.faults) basis (files_alone files) t c.args.wanting (to_judge_in c.args.house.now.house_log (c.args.entry ∷ [])) c.args.house.now o.new.self) (sym c.told.ensures)
    (tried (signs_of g.K.Keeper.tells g.K.Keeper.doubt g.K.Keeper.faults) basis (files_alone files) c.args.entry c.requires.row.0 c.args.wanting c.args.house.now o.new.self c.known.ensures.house_log c.requires.idle c.requires.row.1 o.ensures.fared o.ensures.counts
    (keeps-same c.args.house.now.places o.new.self.places o.ensures.places) o.result o.ensures.turn)

pub returns-clause-stays : goal.returns-clause-stays
returns-clause-stays g c =
    tried-stays c.args.entry c.judge-outcome.result c.args.house.now.house_log c.judge-outcome.new.self.house_log c.requires.idle.no_live c.judge-outcome.ensures.turn
