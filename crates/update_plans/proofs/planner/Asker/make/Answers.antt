use Rattle.std.proofs.Common.{false, true, ap, sym, ◌∙◌, arith, refl, Option}
use Rattle.update_log.specs.declared.event.Event.{Event}
use Rattle.update_log.specs.declared.event.Op.{Op}
use Rattle.update_log.specs.Pasts.{past_of}
use Rattle.update_log.specs.Known.{basis_of}
use Rattle.update_log.proofs.Pasts.{past-push}
use Rattle.update_plans.specs.Plans.{is_next, scene}
use Rattle.update_plans.proofs.Puts.{end-next, putting-left, putting-live, putting-taken, rows-fit, start-next}
use Rattle.update_plans.proofs.planner.Asker.make.Goals as goal

pub trace-requires : goal.trace-requires
trace-requires g c =
    putting-live (scene (basis_of c.args.self.now.facts.now g.at.opening) c.args.self.now.client c.args.self.now.tag.now) c.args.step.now g.at c.args.state.now c.requires.0 c.args.entry c.requires.1.1.1.0

pub returns-then-not-is_next-clause-put : goal.returns-then-not-is_next-clause-put
returns-then-not-is_next-clause-put g c =
    let s = scene (basis_of c.args.self.now.facts.now g.at.opening) c.args.self.now.client c.args.self.now.tag.now in
    putting-left s c.args.step.now g.at c.args.state.now c.requires.0 c.args.entry c.requires.1.1.1.0 c.trace.result (c.trace.ensures s.basis c.requires.0.stands) c.args.op
    (sym (c.is_next.ensures ∙ ap (λ (o : Option Op). is_next o c.args.op) c.next_op.ensures) ∙ c.if-not-is_next.true)

pub step-requires : goal.step-requires
step-requires g c =
    let s = scene (basis_of c.args.self.now.facts.now g.at.opening) c.args.self.now.client c.args.self.now.tag.now in
    let next = sym (c.is_next.ensures ∙ ap (λ (o : Option Op). is_next o c.args.op) c.next_op.ensures) ∙ c.if-not-is_next.false in
    (c.requires.0.stands, (start-next s c.args.step.now g.at c.args.state.now c.requires.0 c.args.entry c.requires.1.1.1.0 c.trace.result (c.trace.ensures s.basis c.requires.0.stands) c.args.op next c.requires.1.0, (omega (arith, c.requires.1.1.1.1), (rows-fit s.basis c.args.state.now c.requires.0.stands))))

pub step-requires-2 : goal.step-requires-2
step-requires-2 g c =
    let s = scene (basis_of c.args.self.now.facts.now g.at.opening) c.args.self.now.client c.args.self.now.tag.now in
    let next = sym (c.is_next.ensures ∙ ap (λ (o : Option Op). is_next o c.args.op) c.next_op.ensures) ∙ c.if-not-is_next.false in (
      c.step.ensures.stands,
      (
        end-next s c.args.step.now g.at c.args.state.now c.requires.0 c.args.entry c.requires.1.1.1.0 c.trace.result (c.trace.ensures s.basis c.requires.0.stands) c.args.op next c.requires.1.0
            c.marks-told.result c.shown-seen.result c.args.digest c.marks-told.ensures c.shown-seen.ensures c.requires.1.1.0 (past_of c.step.new.state.log)
            (ap past_of c.step.ensures.log ∙ past-push c.args.state.now.log (Event.Start s.client c.args.entry c.args.op)),
        (omega (arith, c.requires.1.1.1.1, c.step.ensures.room), (rows-fit s.basis c.step.new.state c.step.ensures.stands)),
      ),
    )

pub returns-clause-put : goal.returns-clause-put
returns-clause-put g c =
    let s = scene (basis_of c.args.self.now.facts.now g.at.opening) c.args.self.now.client c.args.self.now.tag.now in
    let next = sym (c.is_next.ensures ∙ ap (λ (o : Option Op). is_next o c.args.op) c.next_op.ensures) ∙ c.if-not-is_next.false in
    putting-taken s c.args.step.now g.at c.args.state.now c.requires.0 c.args.entry c.requires.1.1.1.0 c.trace.result (c.trace.ensures s.basis c.requires.0.stands) c.args.op next c.requires.1.0
    c.marks-told.result c.shown-seen.result c.args.digest c.marks-told.ensures c.shown-seen.ensures c.requires.1.1.0 c.step.new.state.log c.step-2.new.state.log c.step-2.new.state c.step.ensures.log c.step-2.ensures.log refl
    c.step-2.ensures.stands

pub returns-clause-room : goal.returns-clause-room
returns-clause-room g c = omega (arith, c.step.ensures.room, c.step-2.ensures.room)
