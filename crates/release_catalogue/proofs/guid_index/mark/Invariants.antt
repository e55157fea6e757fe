use Rattle.std.proofs.Common.{◌≡◌, ℕ, ◌||◌, false, eqb, get_or, take}
use Rattle.std.specs.List.{list_any}
use Rattle.release_catalogue.proofs.guid_index.mark.Given as goal

abbrev pub invariant-loop-at : goal.invariant-loop-at
invariant-loop-at l = (place : ℕ) → get_or l.marks place false ≡ (get_or l.fn.marks place false || list_any (λ at. eqb at place) (take l.at-index l.places))
