use Rattle.std.proofs.Common.{◌≡◌, List, [], ◌∷◌, rules, subst}
use Rattle.std.specs.Prelude.{Some, slice_get}
use Rattle.emulated_boards.specs.Boards.{BoardState}
use Rattle.daemon_core.specs.House.{IsNewBoard}
use Rattle.shared_daemon_tests.proofs.Plays.{pair-get}
use Rattle.shared_daemon_tests.proofs.scenes.boards.Goals as goal

pub returns-clause-fresh : goal.returns-clause-fresh
returns-clause-fresh c =
    let e : c.push-2.new.self.items ≡ c.new_board.result ∷ c.new_board-2.result ∷ [] = search rules in
    λ number b h. pair-get IsNewBoard c.new_board.result c.new_board-2.result number b
    (subst (λ (l : List BoardState). slice_get l number ≡ Some b) e h) c.new_board.ensures c.new_board-2.ensures
