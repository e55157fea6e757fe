use Rattle.std.proofs.Common.{length, ap, sym, ◌∙◌}
use Rattle.daemon_core.proofs.PartsKept.{boards-length}
use Rattle.daemon_core.proofs.parts.HomeBoards.len.Goals as goal

pub returns : goal.returns
returns c =
    c.count.ensures ∙ ap length c.deref.ensures.value ∙ sym (boards-length c.self.inside.places.items c.self.invariant) ∙ ap length c.self.view_is
