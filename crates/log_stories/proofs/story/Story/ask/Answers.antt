use Rattle.std.proofs.Common.{ap, sym, ◌∙◌}
use Rattle.log_stories.specs.Stories.{StoryTold, ask_event, ask_if_free, is_free, past}
use Rattle.log_stories.proofs.Growing.{free-by}
use Rattle.log_stories.proofs.Staying.{ask-none, ask-one, grown-as, none-comes, one-comes}
use Rattle.log_stories.proofs.story.Story.ask.Goals as goal

pub ask_free-requires : goal.ask_free-requires
ask_free-requires c =
    record {
      free = free-by (past c.reserve.new.self) c.args.client (sym c.is_free.ensures ∙ c.if-not-is_free.false);
      room = c.in_ok-reserve.ensures.room;
    }

pub returns-then-not-is_free-clause-grown : goal.returns-then-not-is_free-clause-grown
returns-then-not-is_free-clause-grown c =
    let mid : StoryTold = c.reserve.new.self in
    let e = c.reserve.ensures.stayed in
    grown-as (λ s. ask_if_free s c.args.client c.args.request.now) c.args.self.now mid mid (ap (λ s. ask_if_free s c.args.client c.args.request.now) e) e
    (none-comes (ask_if_free mid c.args.client c.args.request.now) mid (ask-none mid c.args.client c.args.request.now (sym c.is_free.ensures ∙ c.if-not-is_free.true)))

pub returns-then-not-is_free-clause-told : goal.returns-then-not-is_free-clause-told
returns-then-not-is_free-clause-told c = sym c.if-not-is_free.true ∙ c.is_free.ensures ∙ ap (λ (s : StoryTold). is_free (past s) c.args.client) c.reserve.ensures.stayed

pub returns-clause-grown : goal.returns-clause-grown
returns-clause-grown c =
    let mid : StoryTold = c.reserve.new.self in
    let new : StoryTold = c.ask_free.new.self in
    let e = c.reserve.ensures.stayed in
    grown-as (λ s. ask_if_free s c.args.client c.args.request.now) c.args.self.now mid new (ap (λ s. ask_if_free s c.args.client c.args.request.now) e) e
    (one-comes (ask_if_free mid c.args.client c.args.request.now) (ask_event mid c.args.client c.args.request.now) mid new
    (ask-one mid c.args.client c.args.request.now (sym c.is_free.ensures ∙ c.if-not-is_free.false)) c.ask_free.ensures.grown)

pub returns-clause-told : goal.returns-clause-told
returns-clause-told c = sym c.if-not-is_free.false ∙ c.is_free.ensures ∙ ap (λ (s : StoryTold). is_free (past s) c.args.client) c.reserve.ensures.stayed
