use Rattle.std.proofs.Common.{◌≡◌, ℕ, List, ◌++◌, take}
use Rattle.std.specs.List.{concat}
use Rattle.sha2.specs.Hashers.{Holds256}
use Rattle.block_pool.proofs.chain.Chain.digest_of_first.Given as goal

abbrev pub invariant-walk : goal.invariant-walk
invariant-walk l =
    (hashed : List ℕ) × Holds256 l.hasher hashed × (hashed ++ take l.left (concat l.here) ≡ take l.fn.len (concat l.fn.self))
