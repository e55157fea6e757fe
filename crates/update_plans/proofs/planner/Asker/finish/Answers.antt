use Rattle.std.proofs.Common.{◌∙◌, arith}
use Rattle.update_log.specs.Pasts.{past_of}
use Rattle.update_log.specs.Steps.{all_ops}
use Rattle.update_log.specs.Known.{basis_of}
use Rattle.update_plans.specs.Plans.{scene}
use Rattle.update_plans.proofs.Puts.{ends-so, finish-next, finished, putting-live, rows-finished, rows-fit}
use Rattle.update_plans.proofs.planner.Asker.finish.Goals as goal

pub end_of-ended-requires : goal.end_of-ended-requires
end_of-ended-requires g c =
    putting-live (scene (basis_of c.args.self.now.facts.now g.at.opening) c.args.self.now.client c.args.self.now.tag.now) c.args.step.now (record g.at { gone = all_ops }) c.args.state.now c.requires.0 c.args.entry c.requires.1.0

pub step-requires : goal.step-requires
step-requires g c =
    let s = scene (basis_of c.args.self.now.facts.now g.at.opening) c.args.self.now.client c.args.self.now.tag.now in
    let e = ends-so s c.args.step.now g.at c.args.state.now c.requires.0 c.args.entry c.requires.1.0 in
    let none = rows-finished s.basis (past_of c.args.state.now.log) c.args.self.now.client c.args.entry c.end_of-ended.result in
    let fit = rows-fit s.basis c.args.state.now c.requires.0.stands in
    (c.requires.0.stands, (finish-next s c.args.step.now g.at c.args.state.now c.requires.0 c.args.entry c.requires.1.0 c.end_of-ended.result (c.end_of-ended.ensures s.basis e.t c.requires.0.stands e.traced ∙ e.ends), (omega (arith, c.requires.1.1), (omega (arith, none, fit)))))

pub returns-clause-past : goal.returns-clause-past
returns-clause-past g c =
    let s = scene (basis_of c.args.self.now.facts.now g.at.opening) c.args.self.now.client c.args.self.now.tag.now in
    let e = ends-so s c.args.step.now g.at c.args.state.now c.requires.0 c.args.entry c.requires.1.0 in
    finished s c.args.step.now g.at c.args.state.now c.requires.0 c.args.entry c.requires.1.0 c.end_of-ended.result (c.end_of-ended.ensures s.basis e.t c.requires.0.stands e.traced ∙ e.ends)
    c.step.new.state.log c.step.ensures.log

pub returns-clause-stands : goal.returns-clause-stands
returns-clause-stands g c = c.step.ensures.stands
