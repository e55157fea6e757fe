use Rattle.std.proofs.Common.{◌≡◌, ◌<◌, ℕ, List, [], map, length, get_or, None}
use Rattle.std.specs.Str.{bytes_eq}
use Rattle.indexmap.specs.IndexMap.{get}
use Rattle.quirk_files.specs.Places.{LastBelow}
use Rattle.quirk_files.proofs.index.note_all.Given as goal

abbrev pub invariant-loop-at : goal.invariant-loop-at
invariant-loop-at l = record {
  long : length l.before.items ≡ l.at;
  last_is : (q : List ℕ) → LastBelow (map (λ quirk. quirk.group) l.quirks) q l.at (get bytes_eq l.last q);
  before_is : (k : ℕ) → k < l.at → LastBelow (map (λ quirk. quirk.group) l.quirks) (get_or (map (λ quirk. quirk.group) l.quirks) k []) k (get_or l.before.items k None);
}
