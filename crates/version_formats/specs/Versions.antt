-- Which bytes are a version.
use Rattle.std.specs.Prelude.{ℕ, List, length, Bool, nat_lt, ◌==◌, ◌||◌, Option, Some, None, Result, Ok, Err, if◌then◌else◌, position}
use Rattle.version_formats.specs.declared.version.VersionFault.{VersionFault}
use Rattle.version_formats.specs.declared.version.VersionFault.TheVariants.{Empty, TooLong, BadByte}

-- a byte that no version has: a blank, a control byte, or one past ASCII
abbrev pub is_no_version_byte : ℕ → Bool
is_no_version_byte b = nat_lt b 0x21 || nat_lt 0x7E b

-- the bytes, where none of them is bad
abbrev pub version_unless : Option ℕ → List ℕ → Result (List ℕ) VersionFault
version_unless (Some at) bytes = Err (BadByte at)
version_unless None bytes = Ok bytes

-- 1 to 64 bytes without a bad one are a version, or else the first fault
abbrev pub version_read : List ℕ → Result (List ℕ) VersionFault
version_read bytes =
    if length bytes == 0 then Err Empty
    else if nat_lt 64 (length bytes) then Err (TooLong (length bytes))
    else version_unless (position is_no_version_byte bytes) bytes
