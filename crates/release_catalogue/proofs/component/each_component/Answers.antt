use Rattle.std.proofs.Common.{arith}
use Rattle.std.proofs.lemmas.Grind.{common_steps}
use Rattle.release_catalogue.proofs.FewRequirements.{one_more}
use Rattle.release_catalogue.proofs.component.each_component.Goals as goal

pub loop-i-preserved : goal.loop-i-preserved
loop-i-preserved c = record {
  so_far = grind (arith, common_steps);
  read = grind (arith, common_steps);
  taken = grind (arith, common_steps);
  few = grind (arith, common_steps);
  requirements = one_more c.push.new.self.items c.loop-i.read.items c.in_ok-component.component c.in_ok-push.ensures.items c.loop-i.invariant.requirements c.in_ok-component.ensures.few;
}
