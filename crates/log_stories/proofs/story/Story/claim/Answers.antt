use Rattle.std.proofs.Common.{◌≡◌, ap, sym, ◌∙◌, subst}
use Rattle.std.specs.Prelude.{Option, Some, None, is_some}
use Rattle.update_log.specs.Holding.{hold}
use Rattle.update_log.specs.declared.event.Event.{Event}
use Rattle.log_stories.specs.Stories.{GrownBy, StoryTold, claim_if_held, past}
use Rattle.log_stories.proofs.Staying.{claim-held, claim-told, claim-unheld, grown-as, none-comes}
use Rattle.log_stories.proofs.story.Story.claim.Goals as goal

pub returns-in-Some-clause-grown : goal.returns-in-Some-clause-grown
returns-in-Some-clause-grown c =
    let mid : StoryTold = c.reserve.new.self in
    let new : StoryTold = c.claim_if.new.self in
    let e = c.reserve.ensures.stayed in
    let h : hold (past mid) c.args.client ≡ Some c.in-Some.held = sym c.hold.ensures ∙ c.in-Some.is in
    grown-as (λ s. claim_if_held s c.args.client c.args.note.now) c.args.self.now mid new (ap (λ s. claim_if_held s c.args.client c.args.note.now) e) e
    (subst (λ (o : Option Event). GrownBy o mid new) (sym (claim-held mid c.args.client c.args.note.now c.in-Some.held h)) c.claim_if.ensures.grown)

pub returns-in-Some-clause-told : goal.returns-in-Some-clause-told
returns-in-Some-clause-told c =
    let mid : StoryTold = c.reserve.new.self in
    let h : hold (past mid) c.args.client ≡ Some c.in-Some.held = sym c.hold.ensures ∙ c.in-Some.is in
    c.claim_if.ensures.told ∙ sym (claim-told mid c.args.client c.args.note.now c.in-Some.held) ∙ ap is_some (sym (claim-held mid c.args.client c.args.note.now c.in-Some.held h))
    ∙ ap (λ (s : StoryTold). is_some (claim_if_held s c.args.client c.args.note.now)) c.reserve.ensures.stayed

pub returns-in-None-clause-grown : goal.returns-in-None-clause-grown
returns-in-None-clause-grown c =
    let mid : StoryTold = c.reserve.new.self in
    let e = c.reserve.ensures.stayed in
    let h : hold (past mid) c.args.client ≡ None = sym c.hold.ensures ∙ c.in-None.is in
    grown-as (λ s. claim_if_held s c.args.client c.args.note.now) c.args.self.now mid mid (ap (λ s. claim_if_held s c.args.client c.args.note.now) e) e
    (none-comes (claim_if_held mid c.args.client c.args.note.now) mid (claim-unheld mid c.args.client c.args.note.now h))

pub returns-in-None-clause-told : goal.returns-in-None-clause-told
returns-in-None-clause-told c =
    let mid : StoryTold = c.reserve.new.self in
    let h : hold (past mid) c.args.client ≡ None = sym c.hold.ensures ∙ c.in-None.is in
    ap is_some (sym (claim-unheld mid c.args.client c.args.note.now h)) ∙ ap (λ (s : StoryTold). is_some (claim_if_held s c.args.client c.args.note.now)) c.reserve.ensures.stayed
