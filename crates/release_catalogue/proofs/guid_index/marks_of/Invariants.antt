use Rattle.std.proofs.Common.{◌≡◌, ℕ, false, get_or, take}
use Rattle.std.specs.List.{list_any}
use Rattle.release_catalogue.specs.Places.{is_listed}
use Rattle.release_catalogue.proofs.guid_index.marks_of.Given as goal

abbrev pub invariant-loop-guid : goal.invariant-loop-guid
invariant-loop-guid l = (place : ℕ) → get_or l.marks place false ≡ list_any (λ guid. is_listed guid place l.index.entries) (take l.guid-index l.guids)
