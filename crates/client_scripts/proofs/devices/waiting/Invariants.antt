use Rattle.std.proofs.Common.{◌≡◌, ℕ, List, take}
use Rattle.std.specs.Str.{bytes_eq}
use Rattle.indexmap.specs.IndexMap.{get}
use Rattle.client_scripts.specs.Replies.{waiting}
use Rattle.client_scripts.proofs.devices.waiting.Given as goal

abbrev pub invariant-loop-row : goal.invariant-loop-row
invariant-loop-row l = (device : List ℕ) → get bytes_eq l.waiting device ≡ waiting (take l.row-index l.rows) device
