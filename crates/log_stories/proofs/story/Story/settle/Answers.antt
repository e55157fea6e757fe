use Rattle.std.proofs.Common.{ap, sym, ◌∙◌}
use Rattle.std.specs.List.{list_any}
use Rattle.std.specs.Prelude.{not}
use Rattle.update_log.specs.declared.event.Event.{Event}
use Rattle.update_log.specs.declared.event.Query.{Query}
use Rattle.log_stories.specs.Stories.{StoryTold, settle_if_none_waits, waits}
use Rattle.log_stories.proofs.Staying.{grown-as, none-comes, one-comes, settle-none, settle-one}
use Rattle.log_stories.proofs.story.Story.settle.Goals as goal

pub returns-then-has_waiting-clause-grown : goal.returns-then-has_waiting-clause-grown
returns-then-has_waiting-clause-grown c =
    let mid : StoryTold = c.reserve.new.self in
    let e = c.reserve.ensures.stayed in
    grown-as (λ s. settle_if_none_waits s c.args.client c.args.device.now) c.args.self.now mid mid (ap (λ s. settle_if_none_waits s c.args.client c.args.device.now) e) e
    (none-comes (settle_if_none_waits mid c.args.client c.args.device.now) mid (settle-none mid c.args.client c.args.device.now (sym c.has_waiting.ensures ∙ c.if-has_waiting.true)))

pub returns-then-has_waiting-clause-told : goal.returns-then-has_waiting-clause-told
returns-then-has_waiting-clause-told c =
    ap not (sym c.if-has_waiting.true ∙ c.has_waiting.ensures ∙ ap (λ (s : StoryTold). list_any waits s.core.rows) c.reserve.ensures.stayed)

pub returns-clause-grown : goal.returns-clause-grown
returns-clause-grown c =
    let mid : StoryTold = c.reserve.new.self in
    let new : StoryTold = c.settle_now.new.self in
    let e = c.reserve.ensures.stayed in
    grown-as (λ s. settle_if_none_waits s c.args.client c.args.device.now) c.args.self.now mid new (ap (λ s. settle_if_none_waits s c.args.client c.args.device.now) e) e
    (one-comes (settle_if_none_waits mid c.args.client c.args.device.now) (Event.Query c.args.client (Query.Settle c.args.device.now)) mid new
    (settle-one mid c.args.client c.args.device.now (sym c.has_waiting.ensures ∙ c.if-has_waiting.false)) c.settle_now.ensures.grown)

pub returns-clause-told : goal.returns-clause-told
returns-clause-told c = ap not (sym c.if-has_waiting.false ∙ c.has_waiting.ensures ∙ ap (λ (s : StoryTold). list_any waits s.core.rows) c.reserve.ensures.stayed)
