-- What contracts see of blocks that are out, of payloads and of the pool.
use Rattle.std.specs.Prelude.{◌≡◌, ℕ, ◌*◌, ◌≤◌, List, length}
use Rattle.sha2.specs.Sha256.{sha256}

-- so many blocks, and the bytes in them, 4,096 in each
pub record BlockBytes : Type 0 where
  pub count : ℕ
  pub bytes : List ℕ
  pub sized : length bytes ≡ 4096 * count

-- bytes, the blocks that they lie in, and their SHA-256
pub record SealedBytes : Type 0 where
  pub bytes : List ℕ
  pub count : ℕ
  pub digest : List ℕ
  pub within : length bytes ≤ 4096 * count
  pub hashed : digest ≡ sha256 bytes

-- how many blocks there are, and how many of them lie in the pool
pub record PoolCounts : Type 0 where
  pub capacity : ℕ
  pub free : ℕ
  pub within : free ≤ capacity
