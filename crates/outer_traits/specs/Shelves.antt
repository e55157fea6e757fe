-- The files of a shelf: a list of names and bytes, in which the first of a name counts.
use Rattle.std.specs.Prelude.{◌≡◌, ℕ, List, [], length, take, drop, Option, option_map, unwrap_or, find}
use Rattle.std.specs.Str.{bytes_eq}

-- The bytes under a name, if there are any.
abbrev pub file_of : List (List ℕ × List ℕ) → List ℕ → Option (List ℕ)
file_of files name = option_map (λ file. file.1) (find (λ file. bytes_eq file.0 name) files)

-- The bytes under a name; a name that isn't there has none.
abbrev pub bytes_of : List (List ℕ × List ℕ) → List ℕ → List ℕ
bytes_of files name = unwrap_or (file_of files name) []

-- These bytes stand in the file from that place on.
abbrev pub StandsAt : List ℕ → ℕ → List ℕ → Type 0
StandsAt file at bytes = take (length bytes) (drop at file) ≡ bytes
