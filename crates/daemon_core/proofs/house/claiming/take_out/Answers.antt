use Rattle.std.proofs.Common.{◌≡◌, ap, sym, ◌∙◌}
use Rattle.std.specs.Prelude.{None, slice_set}
use Rattle.daemon_core.specs.Housed.{Place}
use Rattle.daemon_core.specs.Returns.{place_at}
use Rattle.daemon_core.proofs.Moves.{index-place}
use Rattle.daemon_core.proofs.house.claiming.take_out.Goals as goal

pub returns : goal.returns
returns c =
    let at : c.index_mut.result.now ≡ place_at c.args.places.now.items c.args.number =
    c.index_mut.ensures.value ∙ index-place c.args.places.now.items c.args.number c.index_mut.result.now c.requires.within in
    record {
      board = ap (λ (p : Place). p.board) (sym at) ∙ c.leave.ensures.board;
      places = ap (λ (p : Place). slice_set c.args.places.now.items c.args.number p) (c.leave.ensures.place ∙ ap (λ (p : Place). record p { board = None }) at);
    }
