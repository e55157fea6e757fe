-- Which bytes are a decimal number, and which number.
use Rattle.std.specs.Prelude.{ℕ, ◌^◌, List, length, Bool, nat_lt, ◌==◌, ◌||◌, ◌&&◌, Option, Some, None, Result, Ok, Err, if◌then◌else◌, position, slice_index}
use Rattle.std.specs.Str.Parse.{digits_value}
use Rattle.fw_base.specs.declared.decimal.NumberFault.{NumberFault}
use Rattle.fw_base.specs.declared.decimal.NumberFault.TheVariants.{Empty, BadByte, TooLarge}

-- a byte that no number has
abbrev pub is_no_digit : ℕ → Bool
is_no_digit b = nat_lt b 48 || nat_lt 57 b

-- the place of the first byte that doesn't belong: a zero before other bytes, else the first that is no digit
abbrev pub first_bad_digit : List ℕ → Option ℕ
first_bad_digit bytes =
    if nat_lt 1 (length bytes) && slice_index bytes 0 == 48 then Some 0 else position is_no_digit bytes

-- the number that the digits write, where it is below 2 ^ 64
abbrev pub number_unless : Option ℕ → List ℕ → Result ℕ NumberFault
number_unless (Some at) bytes = Err (BadByte at)
number_unless None bytes = if nat_lt (digits_value 10 bytes) (2 ^ 64) then Ok (digits_value 10 bytes) else Err TooLarge

-- one digit or more without a leading zero, or else the first fault
abbrev pub number_read : List ℕ → Result ℕ NumberFault
number_read bytes = if length bytes == 0 then Err Empty else number_unless (first_bad_digit bytes) bytes
