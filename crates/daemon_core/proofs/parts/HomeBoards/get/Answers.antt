use Rattle.std.proofs.Common.{List, ap, sym, ◌∙◌}
use Rattle.std.specs.Prelude.{option_and_then, slice_get}
use Rattle.emulated_boards.specs.Boards.{BoardState}
use Rattle.daemon_core.specs.Housed.{Place}
use Rattle.daemon_core.proofs.PartsKept.{boards-get}
use Rattle.daemon_core.proofs.parts.HomeBoards.get.Goals as goal

pub returns : goal.returns
returns c =
    c.board_in.ensures
    ∙ ap (option_and_then (λ (p : Place). p.board)) (c.place_at.ensures ∙ ap (λ (ps : List Place). slice_get ps c.args.number) c.deref.ensures.value)
    ∙ sym (boards-get c.self.inside.places.items c.args.number c.self.invariant)
    ∙ ap (λ (bs : List BoardState). slice_get bs c.args.number) c.self.view_is
