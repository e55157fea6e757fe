use Rattle.std.proofs.Common.{◌≡◌, refl, ◌∙◌, subst}
use Rattle.emulated_boards.specs.Conditions.{plugged}
use Rattle.daemon_core.specs.Housed.{Place}
use Rattle.daemon_core.specs.Plugging.{MovedShowing}
use Rattle.daemon_core.specs.Returns.{place_at}
use Rattle.daemon_core.proofs.Moves.{index-place}
use Rattle.daemon_core.proofs.ports.move_back.Goals as goal

pub returns : goal.returns
returns c =
    let at : c.index_mut.result.now ≡ place_at c.args.places.now.items c.args.number =
    c.index_mut.ensures.value ∙ index-place c.args.places.now.items c.args.number c.index_mut.result.now c.requires.within in
    (c.put_into_port.new.place, subst (λ (p : Place). MovedShowing plugged p c.put_into_port.new.place c.put_into_port.result) at c.put_into_port.ensures, refl)
