use Rattle.std.proofs.Common.{rules, sym, arith}
use Rattle.std.proofs.lemmas.Grind.{common_steps}
use Rattle.site_files.proofs.Loop.{latest_pushed}
use Rattle.site_files.proofs.planned.each_planned.Goals as goal

pub loop-value-preserved : goal.loop-value-preserved
loop-value-preserved c = record {
  rest = first_of (search rules, grind (arith, common_steps));
  call = rw c.in_ok-push.ensures.items (sym (latest_pushed 0 c.loop-value.read.items c.in_ok-next.next));
}
