use Rattle.client_scripts.specs.Places.{line_at}
use Rattle.client_scripts.proofs.Pieces.{PutUpTo}
use Rattle.client_scripts.proofs.releases.put_lines.Given as goal

abbrev pub invariant-loop-at : goal.invariant-loop-at
invariant-loop-at l = PutUpTo (line_at l.catalogue l.shown) l.places l.at-index l.fn.out.items l.out.items
