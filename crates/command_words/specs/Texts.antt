-- Which bytes are a text.
use Rattle.std.specs.Prelude.{ℕ, List, length, Bool, nat_lt, nat_le, not, ◌==◌, ◌||◌, ◌&&◌, Option, Some, None, if◌then◌else◌}
use Rattle.std.specs.List.{list_any}
use Rattle.std.specs.Str.{is_utf8}

-- a control byte
abbrev pub is_control : ℕ → Bool
is_control b = nat_lt b 0x20 || b == 0x7F

-- 1 to 255 bytes of UTF-8 without a control byte
abbrev pub is_text : List ℕ → Bool
is_text bytes = nat_le 1 (length bytes) && (nat_le (length bytes) 255 && (not (list_any is_control bytes) && is_utf8 bytes))

-- the bytes, where they are a text
abbrev pub text_read : List ℕ → Option (List ℕ)
text_read bytes = if is_text bytes then Some bytes else None
