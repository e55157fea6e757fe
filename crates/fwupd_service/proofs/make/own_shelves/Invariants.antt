use Rattle.std.proofs.Common.{◌≡◌}
use Rattle.std.specs.Prelude.{replicate}
use Rattle.fwupd_service.specs.Makes.{own_memory}
use Rattle.fwupd_service.proofs.make.own_shelves.Given as goal

abbrev pub invariant-loop : goal.invariant-loop
invariant-loop l = l.shelves.items ≡ replicate l.counter own_memory
