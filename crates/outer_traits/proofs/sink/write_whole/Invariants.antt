use Rattle.std.proofs.Common.{◌≡◌, length}
use Rattle.outer_traits.proofs.Fronts.{StillToWrite}
use Rattle.outer_traits.proofs.sink.write_whole.Given as goal

abbrev pub invariant-loop-rest : goal.invariant-loop-rest
invariant-loop-rest g l = record {
  so_far : StillToWrite l.bytes l.rest (g.T.Sink.taken l.fn.out) (g.T.Sink.taken l.out);
  quiet : g.T.Sink.faults l.out ≡ g.T.Sink.faults l.fn.out;
}

abbrev pub decreases-loop-rest : goal.decreases-loop-rest
decreases-loop-rest g l = length l.rest
