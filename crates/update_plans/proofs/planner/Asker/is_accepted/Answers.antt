use Rattle.std.proofs.Common.{Bool, List, length, nat_lt, ◌&&◌, sym, ap, ◌∙◌}
use Rattle.history_keeper.specs.declared.row.Row.{Row}
use Rattle.update_log.specs.declared.decision.Stage.{Stage}
use Rattle.update_log.specs.declared.request.Request.{Request}
use Rattle.update_log.specs.Known.{basis_of, rows}
use Rattle.update_log.specs.Pasts.{past_of}
use Rattle.update_log.specs.Verdicts.{verdict}
use Rattle.update_plans.specs.Plans.{accepts}
use Rattle.update_plans.proofs.planner.Asker.is_accepted.Goals as goal

pub returns-then-accepts : goal.returns-then-accepts
returns-then-accepts c = λ opening chosen stands same.
    let facts = c.args.self.now.facts.now in
    let past = past_of c.args.state.now.log in
    let so =
    ap (λ (r : Request). accepts c.args.step.now.release (verdict (basis_of facts opening) past c.args.self.now.client r Stage.Ask)) (sym (c.request-request.ensures opening chosen same))
    ∙ ap (accepts c.args.step.now.release) (sym (c.verdict-decision.ensures opening stands)) ∙ sym c.accepts.ensures ∙ c.if-accepts.true in
    ap (λ (rs : List Row). nat_lt (length rs) 65536) (c.rows.ensures ∙ stands.rows)
    ∙ sym (ap (λ (b : Bool). b && nat_lt (length (rows (basis_of facts opening) past)) 65536) so)

pub returns-else-accepts : goal.returns-else-accepts
returns-else-accepts c = λ opening chosen stands same.
    let facts = c.args.self.now.facts.now in
    let past = past_of c.args.state.now.log in
    let so =
    ap (λ (r : Request). accepts c.args.step.now.release (verdict (basis_of facts opening) past c.args.self.now.client r Stage.Ask)) (sym (c.request-request.ensures opening chosen same))
    ∙ ap (accepts c.args.step.now.release) (sym (c.verdict-decision.ensures opening stands)) ∙ sym c.accepts.ensures ∙ c.if-accepts.false in
    c.if-accepts.false ∙ sym (ap (λ (b : Bool). b && nat_lt (length (rows (basis_of facts opening) past)) 65536) so)
