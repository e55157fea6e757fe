-- The tag of a plan, and those of its requests.
use Rattle.std.specs.Prelude.{◌≡◌, ◌≤◌, ℕ, List, length, Ok}
use Rattle.fw_base.specs.Names.{name_read}

-- The tag is a name of at most 56 bytes, so that the tag of each step is a name.
pub record IsTag (tag : List ℕ) : Type 0 where
  pub few : length tag ≤ 56
  pub read : name_read tag ≡ Ok tag
