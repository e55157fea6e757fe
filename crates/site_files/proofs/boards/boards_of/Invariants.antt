use Rattle.std.proofs.Common.{◌≡◌, ◌++◌, map}
use Rattle.site_files.proofs.boards.boards_of.Given as goal

abbrev pub invariant-loop-next : goal.invariant-loop-next
invariant-loop-next l = l.boards.items ++ map (λ p. p.board) l.next-iterator.rest.items ≡ map (λ p. p.board) l.fn.placed.items
