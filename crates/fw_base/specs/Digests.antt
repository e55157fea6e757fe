-- Which bytes are the text of a digest.
use Rattle.std.specs.Prelude.{ℕ, List, Bool, nat_le, ◌||◌, ◌&&◌, Option, None, if◌then◌else◌}
use Rattle.std.specs.Result.{result_ok}
use Rattle.std.specs.List.{list_all}
use Rattle.hex.specs.Hex.{decode_sized}

-- a hex digit whose letters are in lower case
abbrev pub is_lower_digit : ℕ → Bool
is_lower_digit b = nat_le 48 b && nat_le b 57 || nat_le 97 b && nat_le b 102

-- the 32 bytes that 64 digits in lower case write
abbrev pub digest_read : List ℕ → Option (List ℕ)
digest_read text = if list_all is_lower_digit text then result_ok (decode_sized text 32) else None
