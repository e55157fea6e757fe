use Rattle.std.proofs.Common.{ℕ, List, length, refl, ap, ◌∙◌, ◌+◌, subst}
use Rattle.history_keeper.specs.declared.row.Row.{Row}
use Rattle.log_stories.proofs.Growing.{claim-rows, claim-story}
use Rattle.log_stories.proofs.story.Story.claim_held.Goals as goal
use Rattle.update_log.specs.declared.answer.ClaimAnswer.{ClaimAnswer}
use Rattle.update_log.specs.declared.event.Event.{Event}
use Rattle.log_stories.specs.Stories.{Grown}

pub append-requires : goal.append-requires
append-requires c = (
  refl,
  (
    claim-story c.args.self.now c.args.client c.args.held.now c.args.note.now c.known.ensures c.requires.held c.requires.claimable (c.row_count.result + 1) (ap (λ n. n + 1) c.row_count.ensures),
    (
      c.requires.room,
      claim-rows c.args.self.now.basis c.args.self.now.core c.args.client c.args.held.now.request c.args.note.now (c.row_count.result + 1) c.known.ensures.stands c.requires.row_room,
    ),
  ),
)

pub returns : goal.returns
returns c =
    record {
      grown = subst (λ (n : ℕ). Grown (Event.Claim c.args.client c.args.held.now.request c.args.note.now (ClaimAnswer.Entry n)) c.args.self.now c.append.new.self)
          (ap (λ (n : ℕ). n + 1) c.row_count.ensures ∙ ap (λ (rs : List Row). length rs + 1) c.known.ensures.stands.rows) c.append.ensures.grown;
    }
