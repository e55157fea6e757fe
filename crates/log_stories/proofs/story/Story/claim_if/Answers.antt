use Rattle.std.proofs.Common.{sym, ◌∙◌}
use Rattle.log_stories.specs.Stories.{claim_event, claim_if_claimable}
use Rattle.log_stories.proofs.Growing.{claimable-few}
use Rattle.log_stories.proofs.Staying.{claim-none, claim-one, none-comes, one-comes}
use Rattle.log_stories.proofs.story.Story.claim_if.Goals as goal

pub claim_held-requires : goal.claim_held-requires
claim_held-requires c =
    let claimable = sym c.is_claimable.ensures ∙ c.if-not-is_claimable.false in
    record {
      held = c.requires.held;
      claimable = claimable;
      few = claimable-few c.args.self.now c.args.client c.args.held.now c.args.note.now c.known.ensures c.requires.held claimable;
      room = c.requires.room;
      row_room = c.requires.row_room;
    }

pub returns-then-not-is_claimable-clause-grown : goal.returns-then-not-is_claimable-clause-grown
returns-then-not-is_claimable-clause-grown c =
    none-comes (claim_if_claimable c.args.self.now c.args.client c.args.note.now c.args.held.now) c.args.self.now
    (claim-none c.args.self.now c.args.client c.args.note.now c.args.held.now (sym c.is_claimable.ensures ∙ c.if-not-is_claimable.true))

pub returns-clause-grown : goal.returns-clause-grown
returns-clause-grown c =
    one-comes (claim_if_claimable c.args.self.now c.args.client c.args.note.now c.args.held.now) (claim_event c.args.self.now c.args.client c.args.note.now c.args.held.now) c.args.self.now c.claim_held.new.self
    (claim-one c.args.self.now c.args.client c.args.note.now c.args.held.now (sym c.is_claimable.ensures ∙ c.if-not-is_claimable.false)) c.claim_held.ensures.grown
