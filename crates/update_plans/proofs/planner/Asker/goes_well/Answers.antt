use Rattle.std.proofs.Common.{List, ℕ, ap, refl, sym, ◌∙◌}
use Rattle.version_formats.specs.VersionOrder.{same_version}
use Rattle.update_plans.specs.Plans.{scene}
use Rattle.update_plans.proofs.Good.{bad_accepted, bad_written, good_ends}
use Rattle.update_plans.proofs.Released.{chosen_at}
use Rattle.update_plans.proofs.planner.Asker.goes_well.Goals as goal
use Rattle.update_log.specs.Known.{basis_of}

pub returns-then-not-is_same : goal.returns-then-not-is_same
returns-then-not-is_same c = λ opening stands quiet.
    let s = scene (basis_of c.args.self.now.facts.now opening) c.args.self.now.client c.args.self.now.tag.now in
    sym (bad_written s c.args.number c.args.step.now c.args.state.now c.args.component.now c.args.release.now c.args.view.now stands quiet c.requires.component c.requires.release c.requires.view (ap (λ (t : List ℕ). same_version t c.args.release.now.version) (sym c.render.ensures) ∙ sym c.is_same.ensures ∙ c.if-not-is_same.true))

pub returns-then-not-is_accepted : goal.returns-then-not-is_accepted
returns-then-not-is_accepted c = λ opening stands quiet.
    let s = scene (basis_of c.args.self.now.facts.now opening) c.args.self.now.client c.args.self.now.tag.now in
    sym (bad_accepted s c.args.number c.args.step.now c.args.state.now c.args.component.now c.args.release.now c.args.view.now stands quiet c.requires.component c.requires.release c.requires.view (sym (c.is_accepted.ensures opening (chosen_at c.args.step.now.release.component c.args.step.now.release.release c.args.component.now c.args.release.now) stands refl) ∙ c.if-not-is_accepted.true))

pub returns : goal.returns
returns c = λ opening stands quiet.
    let s = scene (basis_of c.args.self.now.facts.now opening) c.args.self.now.client c.args.self.now.tag.now in
    c.ends_well.ensures ∙ sym (good_ends s c.args.number c.args.step.now c.args.state.now c.args.component.now c.args.release.now c.args.view.now stands quiet c.requires.component c.requires.release c.requires.view (ap (λ (t : List ℕ). same_version t c.args.release.now.version) (sym c.render.ensures) ∙ sym c.is_same.ensures ∙ c.if-not-is_same.false) (sym (c.is_accepted.ensures opening (chosen_at c.args.step.now.release.component c.args.step.now.release.release c.args.component.now c.args.release.now) stands refl) ∙ c.if-not-is_accepted.false))
