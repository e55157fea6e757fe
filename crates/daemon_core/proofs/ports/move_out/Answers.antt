use Rattle.std.proofs.Common.{◌≡◌, refl, ◌∙◌, subst}
use Rattle.emulated_boards.specs.Conditions.{unplugged}
use Rattle.daemon_core.specs.Housed.{Place}
use Rattle.daemon_core.specs.Plugging.{Moved}
use Rattle.daemon_core.specs.Returns.{place_at}
use Rattle.daemon_core.proofs.Moves.{index-place}
use Rattle.daemon_core.proofs.ports.move_out.Goals as goal

pub returns : goal.returns
returns c =
    let at : c.index_mut.result.now ≡ place_at c.args.places.now.items c.args.number =
    c.index_mut.ensures.value ∙ index-place c.args.places.now.items c.args.number c.index_mut.result.now c.requires.within in
    (c.take_from_port.new.place, subst (λ (p : Place). Moved unplugged p c.take_from_port.new.place) at c.take_from_port.ensures, refl)
