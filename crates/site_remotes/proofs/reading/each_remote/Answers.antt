use Rattle.std.proofs.Common.{arith}
use Rattle.std.proofs.lemmas.Grind.{common_steps}
use Rattle.site_remotes.proofs.Sections.{named_more, within_more}
use Rattle.site_remotes.proofs.reading.each_remote.Goals as goal

pub loop-i-preserved : goal.loop-i-preserved
loop-i-preserved c =
    let told = rw c.as_slice.ensures.value at c.in_ok-remote.ensures in
    record {
      so_far = grind (arith, common_steps);
      read = grind (arith, common_steps);
      within = within_more c.push.new.self.items c.loop-i.read.items c.in_ok-remote.remote c.in_ok-push.ensures.items told.few told.few_releases;
      named = named_more c.push.new.self.items c.loop-i.read.items c.in_ok-remote.remote c.in_ok-push.ensures.items c.loop-i.invariant.named told.named;
    }
