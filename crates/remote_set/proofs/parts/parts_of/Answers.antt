use Rattle.std.proofs.Common.{◌∙◌, arith}
use Rattle.std.proofs.lemmas.Grind.{common_steps}
use Rattle.remote_set.proofs.PartsLeft.{kept_more, part_more}
use Rattle.remote_set.proofs.parts.parts_of.Goals as goal

pub loop-remote-preserved : goal.loop-remote-preserved
loop-remote-preserved c = record {
  parts =
      part_more c.args.index.now.entries c.args.remotes.items c.loop-remote.yielded c.in-Some.remote c.loop-remote.parts.items c.push-in-loop-remote.new.self.items c.in_ok-part.part c.len.result
      c.requires.index (c.len.ensures ∙ c.loop-remote.invariant.at) c.in_ok-part.ensures c.in_ok-push-2.ensures.items c.loop-remote.invariant.parts;
  at = grind (arith, common_steps);
  as_many = grind (arith, common_steps);
  kept =
      kept_more c.args.index.now.entries c.args.remotes.items c.loop-remote.yielded c.in-Some.remote c.loop-remote.kept.items c.push.new.self.items c.in_ok-part.part c.len.result c.kept_of.result
      c.requires.index (c.len.ensures ∙ c.loop-remote.invariant.at) c.in_ok-part.ensures c.kept_of.ensures c.in_ok-push.ensures.items c.loop-remote.invariant.kept;
}
