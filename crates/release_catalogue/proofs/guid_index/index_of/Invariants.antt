use Rattle.std.proofs.Common.{◌≡◌, ℕ, List, [], ◌∷◌, ◌&&◌, ltb}
use Rattle.release_catalogue.specs.Places.{is_listed, provides_at}
use Rattle.release_catalogue.proofs.guid_index.index_of.Given as goal

abbrev pub invariant-loop-at : goal.invariant-loop-at
invariant-loop-at l = (guid : List ℕ) (place : ℕ) → is_listed guid place l.index.entries ≡ (ltb place l.at && provides_at (guid ∷ []) place l.components)
