-- The words behind a command's name: those before the first `--`, and those behind it.
use Rattle.std.specs.Prelude.{ℕ, List, ◌++◌, Bool, nat_eq, codes, Option, Some, None, if◌then◌else◌}
use Rattle.std.specs.List.{list_any, starts_with}
use Rattle.std.specs.Str.{bytes_eq}

-- the word `--`, which ends the options
abbrev pub is_end : List ℕ → Bool
is_end word = bytes_eq word (codes "--")

-- a word that begins with `-`
abbrev pub is_dashed : List ℕ → Bool
is_dashed word = starts_with nat_eq word (codes "-")

-- the values: all words, where those before `--` don't begin with `-`
abbrev pub values_of : List (List ℕ) → List (List ℕ) → Option (List (List ℕ))
values_of before behind = if list_any is_dashed before then None else Some (before ++ behind)
