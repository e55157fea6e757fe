use Rattle.std.proofs.Common.{arith}
use Rattle.site_making.specs.Made.{made_script}
use Rattle.site_making.proofs.Turns.{numbers_turn}
use Rattle.site_making.proofs.scripts.made_scripts.Goals as goal

pub loop-client-preserved : goal.loop-client-preserved
loop-client-preserved c =
    numbers_turn (made_script c.args.boards c.args.clients) c.loop-client.client c.loop-client.scripts.items _ _ (omega arith) c.loop-client.invariant
    c.in_ok-push.ensures.items c.in_ok-made_script.ensures
