use Rattle.std.proofs.Common.{Bor, List, ℕ, map}
use Rattle.std.proofs.lemmas.Result.{IfOk-weaker}
use Rattle.history_keeper.proofs.Following.{goes-with, no_from, yes_from}
use Rattle.history_keeper.proofs.history.goes_on.Goals as goal

pub returns-then-not-branch-clause-yes : goal.returns-then-not-branch-clause-yes
returns-then-not-branch-clause-yes c =
    λ g. no_from c.in_ok-follows.field-0 _ c.in_ok-follows.ensures.yes c.if-not-branch.true g.follows

pub returns-clause-yes : goal.returns-clause-yes
returns-clause-yes c =
    let tags : List (List ℕ) = map (λ (tag : Bor (List ℕ)). tag.now) c.args.tags.now.keys in
    let f = yes_from c.in_ok-follows.field-0 _ c.in_ok-follows.ensures.yes c.if-not-branch.false in
    IfOk-weaker c.links.result _ _ (goes-with c.args.before.now tags c.args.waiting.now.keys c.args.retried.now.keys c.args.row.now f) c.links.ensures.yes
