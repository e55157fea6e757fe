use Rattle.outer_traits.proofs.Fronts.{still_less}
use Rattle.outer_traits.proofs.sink.write_whole.Goals as goal

pub loop-rest-preserved : goal.loop-rest-preserved
loop-rest-preserved g c = record {
  so_far = rw c.split_at.ensures.back (still_less c.args.bytes.now c.loop-rest.rest.now c.in_ok-count.count (g.T.Sink.taken c.args.out.now) (g.T.Sink.taken c.loop-rest.out) (g.T.Sink.taken c.write.new.self) c.loop-rest.invariant.so_far c.in_ok-count.ensures.took);
  quiet = rw c.in_ok-count.ensures.quiet c.loop-rest.invariant.quiet;
}
