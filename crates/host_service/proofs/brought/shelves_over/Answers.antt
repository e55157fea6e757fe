use Rattle.std.proofs.Common.{refl}
use Rattle.host_service.proofs.brought.shelves_over.Goals as goal

pub returns : goal.returns
returns c = rw c.in_ok-shelves.ensures refl
