use Rattle.std.proofs.Common.{◌≡◌, ◌≤◌, ◌+◌, ◌∷◌, [], ◌++◌, List, ap, sym, ◌∙◌, subst, arith, length}
use Rattle.history_keeper.specs.declared.row.Row.{Row}
use Rattle.core_state.specs.Core.{Stands}
use Rattle.update_log.specs.Known.{basis_of, rows}
use Rattle.update_log.specs.Pasts.{past_of}
use Rattle.log_stories.specs.Stories.{RunsOn, StoryTold, past}
use Rattle.log_stories.proofs.Growing.{runs-next, story-grown}
use Rattle.log_stories.proofs.story.Story.append.Goals as goal

pub step-requires : goal.step-requires
step-requires g c = (
  subst (λ (o : List Row). Stands (basis_of c.self.inside.facts o) c.self.inside.state) (ap (λ (s : StoryTold). s.basis.opening) c.self.view_is ∙ c.requires.0) c.self.invariant.stands,
  (
    runs-next (basis_of c.self.inside.facts g.before) (past_of c.self.inside.state.log) c.args.event (subst (λ (s : StoryTold). RunsOn (basis_of s.basis.facts g.before) (c.args.event ∷ past s)) (sym c.self.view_is) c.requires.1.0),
    (
      (let r = c.requires.1.1.0 in let v = ap (λ (s : StoryTold). s.core.room) c.self.view_is in omega (arith, r, v)),
      subst (λ (s : StoryTold). length (rows (basis_of s.basis.facts g.before) (c.args.event ∷ past s)) ≤ length s.core.rows + s.core.row_room) (sym c.self.view_is) c.requires.1.1.1,
    ),
  ),
)

pub invariant_of-self : goal.invariant_of-self
invariant_of-self g c =
    let before : c.self.inside.opening.items ≡ g.before = ap (λ (s : StoryTold). s.basis.opening) c.self.view_is ∙ c.requires.0 in
    story-grown c.args.event (basis_of c.self.inside.facts c.self.inside.opening.items) c.self.inside.state c.step.new.state
    (subst (λ (o : List Row). RunsOn (basis_of c.self.inside.facts o) (c.args.event ∷ past_of c.self.inside.state.log)) (sym before) (subst (λ (s : StoryTold). RunsOn (basis_of s.basis.facts g.before) (c.args.event ∷ past s)) (sym c.self.view_is) c.requires.1.0))
    c.step.ensures.log
    (subst (λ (o : List Row). Stands (basis_of c.self.inside.facts o) c.step.new.state) (sym before) c.step.ensures.stands)

pub returns : goal.returns
returns g c =
    record {
      grown = record {
        basis = ap (λ (s : StoryTold). s.basis) c.self.view_is;
        log = c.step.ensures.log ∙ ap (λ (s : StoryTold). s.core.log ++ c.args.event ∷ []) c.self.view_is;
      };
    }
