use Rattle.std.proofs.Common.{[], ◌∙◌, arith}
use Rattle.site_making.proofs.Turns.{numbers_turn}
use Rattle.site_making.proofs.making.no_features.Goals as goal

pub loop-client-preserved : goal.loop-client-preserved
loop-client-preserved c =
    numbers_turn (λ client. []) c.loop-client._client c.loop-client.features.items _ _ (omega arith) c.loop-client.invariant c.in_ok-push.ensures.items
    (c.of.ensures ∙ c.new.ensures.items)
