use Rattle.std.proofs.Common.{refl, ap, sym, ◌∙◌}
use Rattle.daemon_core.specs.Housed.{Place}
use Rattle.daemon_core.proofs.ports.put_into_port.Goals as goal

pub returns : goal.returns
returns c = (
  c.unwrap-board.result,
  c.plug.new.self,
  record {
    was = ap (λ (p : Place). p.board) (sym c.place.view_is) ∙ sym c.take.ensures.value ∙ c.unwrap-board.ensures;
    is = refl;
    condition = c.plug.ensures.condition;
    same = c.plug.ensures.same;
    told = ap (λ (p : Place). p.told) c.place.view_is;
  },
  c.view-seen.ensures.shown,
)
