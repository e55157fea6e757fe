use Rattle.std.proofs.Common.{ℕ, ap, sym, ◌∙◌}
use Rattle.std.specs.Prelude.{None, Option}
use Rattle.emulated_boards.specs.Boards.{BoardState}
use Rattle.daemon_core.specs.Housed.{Place}
use Rattle.daemon_core.proofs.house.claiming.leave.Goals as goal

pub returns-clause-board : goal.returns-clause-board
returns-clause-board c = ap (λ (p : Place). p.board) (sym c.place.view_is) ∙ sym c.take.ensures.value ∙ c.unwrap.ensures

pub returns-clause-place : goal.returns-clause-place
returns-clause-place c =
    let emptied : Option BoardState → Place = λ o. record { board = o; told = c.place.inside.told } in
    let told : ℕ → Place = λ n. record { board = None; told = n } in
    ap emptied c.take.ensures.after ∙ ap told (ap (λ (p : Place). p.told) c.place.view_is)
