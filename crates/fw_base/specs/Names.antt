-- Which bytes are a name.
use Rattle.std.specs.Prelude.{ℕ, List, length, Bool, nat_lt, ◌==◌, ◌||◌, Option, Some, None, Result, Ok, Err, if◌then◌else◌, position}
use Rattle.fw_base.specs.declared.name.NameFault.{NameFault}
use Rattle.fw_base.specs.declared.name.NameFault.TheVariants.{Empty, TooLong, BadByte}

-- a byte that no name has: a blank, a control byte, or one past ASCII
abbrev pub is_no_name_byte : ℕ → Bool
is_no_name_byte b = nat_lt b 0x21 || nat_lt 0x7E b

-- the bytes, where none of them is bad
abbrev pub name_unless : Option ℕ → List ℕ → Result (List ℕ) NameFault
name_unless (Some at) bytes = Err (BadByte at)
name_unless None bytes = Ok bytes

-- 1 to 64 bytes without a bad one are a name, or else the first fault
abbrev pub name_read : List ℕ → Result (List ℕ) NameFault
name_read bytes =
    if length bytes == 0 then Err Empty
    else if nat_lt 64 (length bytes) then Err (TooLong (length bytes))
    else name_unless (position is_no_name_byte bytes) bytes
