use Rattle.std.proofs.Common.{◌≡◌, ℕ, List, ◌||◌, ◌&&◌, false, eqb, take}
use Rattle.std.specs.List.{list_any}
use Rattle.std.specs.Str.{bytes_eq}
use Rattle.release_catalogue.specs.Places.{is_listed}
use Rattle.release_catalogue.proofs.guid_index.note_all.Given as goal

abbrev pub invariant-loop-guid : goal.invariant-loop-guid
invariant-loop-guid l = (guid : List ℕ) (place : ℕ)
    → is_listed guid place l.index.entries ≡ (is_listed guid place l.fn.index.entries || (eqb l.at place && list_any (λ own. bytes_eq own guid || false) (take l.guid-index l.guids)))
