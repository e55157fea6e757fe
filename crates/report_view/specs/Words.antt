-- The words of a line: what stands between its blanks.
use Rattle.std.specs.Prelude.{ℕ, zero, suc, List, Bool, ◌==◌, Option, Some, None, Result, Ok, Err}
use Rattle.std.specs.List.{before_first, after_first}
use Rattle.std.specs.Str.{bytes_eq}
use Rattle.fw_base.specs.declared.decimal.NumberFault.{NumberFault}
use Rattle.fw_base.specs.Decimals.{number_read}

abbrev pub is_blank : ℕ → Bool
is_blank b = b == 32

-- the word at a place from 0: what stands behind so many blanks, up to the next; nothing where there are fewer
unfoldable pub word : ℕ → List ℕ → List ℕ
word zero line = before_first is_blank line
word (suc at) line = word at (after_first is_blank line)

-- the word at a place is this text
abbrev pub is : ℕ → List ℕ → List ℕ → Bool
is at text line = bytes_eq (word at line) text

abbrev pub number_of : Result ℕ NumberFault → Option ℕ
number_of (Ok value) = Some value
number_of (Err fault) = None

-- the number that the word at a place writes
abbrev pub number : ℕ → List ℕ → Option ℕ
number at line = number_of (number_read (word at line))
