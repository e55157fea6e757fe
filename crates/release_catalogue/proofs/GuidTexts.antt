-- Reading the GUIDs of some texts one after the other.
use Rattle.std.proofs.Common.{ℕ, List, ◌++◌, map, Option, Bor}
use Rattle.std.specs.Option.{option_map}

-- The texts behind some references.
abbrev pub texts : List (Bor (List ℕ)) → List (List ℕ)
texts parts = map (λ part. part.now) parts

-- What is read behind a front.
abbrev pub behind : List (List ℕ) → Option (List (List ℕ)) → Option (List (List ℕ))
behind front rest = option_map (λ guids. front ++ guids) rest
