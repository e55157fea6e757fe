use Rattle.std.proofs.Common.{sym, ◌∙◌}
use Rattle.client_scripts.proofs.Newest.{noted}
use Rattle.client_scripts.proofs.devices.note.Goals as goal

pub returns-in_ok-insert : goal.returns-in_ok-insert
returns-in_ok-insert c = λ q. noted _ _ _ _ _ (sym c.is_pending.ensures ∙ c.if-is_pending.true) (c.in_ok-insert.ensures.updates.0 q)
