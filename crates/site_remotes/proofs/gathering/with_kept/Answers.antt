use Rattle.site_remotes.proofs.Telling.{told_more}
use Rattle.site_remotes.proofs.gathering.with_kept.Goals as goal

pub loop-i-preserved : goal.loop-i-preserved
loop-i-preserved c =
    told_more c.args.stated.now c.args.kept.now c.loop-i.i c.index-stated-i.result c.loop-i.told.items c.push.new.self.items c.requires c.loop-i-test.true
    c.index-stated-i.is c.in_ok-push.ensures.items c.loop-i.invariant
