-- Which bytes are a line.
use Rattle.std.specs.Prelude.{ℕ, List, length, Bool, nat_lt, ◌==◌, ◌||◌, Option, Some, None, Result, Ok, Err, if◌then◌else◌, position}
use Rattle.fw_base.specs.declared.line.LineFault.{LineFault}
use Rattle.fw_base.specs.declared.line.LineFault.TheVariants.{TooLong, BadByte}

-- a byte that no line has: a control byte
abbrev pub is_no_line_byte : ℕ → Bool
is_no_line_byte b = nat_lt b 0x20 || b == 0x7F

-- the bytes, where none of them is bad
abbrev pub line_unless : Option ℕ → List ℕ → Result (List ℕ) LineFault
line_unless (Some at) bytes = Err (BadByte at)
line_unless None bytes = Ok bytes

-- up to 255 bytes without a bad one are a line, or else the first fault
abbrev pub line_read : List ℕ → Result (List ℕ) LineFault
line_read bytes =
    if nat_lt 255 (length bytes) then Err (TooLong (length bytes))
    else line_unless (position is_no_line_byte bytes) bytes
