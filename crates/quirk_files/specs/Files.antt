-- Quirk files: the first fault of a file, and the quirks that it gives. Each line is looked at by
-- itself, and belongs to the last group line before it.
use Rattle.std.specs.Prelude.{ℕ, ◌+◌, ◌-◌, ◌==◌, nat_le, nat_lt, Bool, not, ◌&&◌, ◌||◌, if◌then◌else◌, List, [], length, take, drop, map, slice_index, slice_range, Option, Some, None, is_some, position, get_or}
use Rattle.std.specs.List.{list_all, slice_split, slice_get, last_or, filter_map, range_with_len}
use Rattle.std.specs.Option.{option_map}
use Rattle.guid_ids.specs.Identifiers.{guid}
use Rattle.quirk_files.specs.declared.fault.QuirkFault.{QuirkFault}
use Rattle.quirk_files.specs.declared.fault.QuirkFault.TheVariants.{NoGroup, BadGroup, NoEquals, NotText, TooLarge}
use Rattle.quirk_files.specs.declared.quirk.Quirk.{Quirk}
use Rattle.quirk_files.specs.Texts.{is_text, is_empty, trimmed}
use Rattle.quirk_files.specs.Keys.{key_read}

-- ---- one line, without the blanks round it

-- An empty line or a comment.
abbrev pub is_passed_over : List ℕ → Bool
is_passed_over line = is_empty line || (slice_index line 0 == 35)

-- A group line begins with `[`.
abbrev pub is_group_line : List ℕ → Bool
is_group_line line = not (is_empty line) && (slice_index line 0 == 91)

-- 1 to 255 bytes without brackets.
abbrev pub is_group_name : List ℕ → Bool
is_group_name name = nat_le 1 (length name) && nat_le (length name) 255 && list_all (λ b. not ((b == 91) || (b == 93))) name

-- The name of a group line: what stands between its `[` and the `]` that ends it.
abbrev pub group_name : List ℕ → Option (List ℕ)
group_name line =
    if nat_le 2 (length line) && (slice_index line (length line - 1) == 93) && is_group_name (slice_range line 1 (length line - 1))
    then Some (slice_range line 1 (length line - 1)) else None

-- The GUID of the group that the line begins, if it is a group line.
abbrev pub group_begun : List ℕ → Option (List ℕ)
group_begun line = if is_group_line line then option_map guid (group_name line) else None

-- Where the line is split into key and value.
abbrev pub equals_sign : List ℕ → Option ℕ
equals_sign line = position (λ b. b == 61) line

-- The quirk of a group with this word and this value, where the word is a key's.
abbrev pub quirk_of : List ℕ → List ℕ → List ℕ → Option Quirk
quirk_of group word value = option_map (λ key. record { group = group; key = key; value = trimmed value }) (key_read (trimmed word))

-- The quirk of a line of the group that is split there.
abbrev pub split_at : List ℕ → List ℕ → Option ℕ → Option Quirk
split_at group line None = None
split_at group line (Some at) = quirk_of group (take at line) (drop (at + 1) line)

-- The quirk that a line of a group gives.
abbrev pub quirk_given : Option (List ℕ) → List ℕ → Option Quirk
quirk_given None line = None
quirk_given (Some group) line =
    if is_passed_over line || is_group_line line then None else split_at group line (equals_sign line)

-- What is wrong with a line of that number, where a group stands before it or not.
abbrev pub form_fault : Bool → ℕ → List ℕ → Option QuirkFault
form_fault in_group number line =
    if is_passed_over line then None
    else if is_group_line line then (if is_some (group_name line) then None else Some (BadGroup number))
    else if not in_group then Some (NoGroup number)
    else if is_some (equals_sign line) then None
    else Some (NoEquals number)

-- What is wrong with a line as it stands: it is no text, or its form is wrong.
abbrev pub line_fault : Bool → ℕ → List ℕ → Option QuirkFault
line_fault in_group number line = if is_text line then form_fault in_group number (trimmed line) else Some (NotText number)

-- ---- the lines of a file

-- The lines of a file: what stands between newlines, each without a carriage return at its end.
abbrev pub without_return : List ℕ → List ℕ
without_return line = if not (is_empty line) && (slice_index line (length line - 1) == 13) then take (length line - 1) line else line

abbrev pub lines_of : List ℕ → List (List ℕ)
lines_of bytes = map without_return (slice_split (λ b. b == 10) bytes)

-- The line at a place.
abbrev pub line_at : List (List ℕ) → ℕ → List ℕ
line_at lines at = get_or lines at []

-- The group of the line at a place: that of the last group line before it.
unfoldable pub group_at : List (List ℕ) → ℕ → Option (List ℕ)
group_at lines at = last_or None (filter_map (λ line. group_begun (trimmed line)) (take at lines))

-- What is wrong with the line at a place. Lines are counted from 1.
abbrev pub fault_at : List (List ℕ) → ℕ → Option QuirkFault
fault_at lines at = line_fault (is_some (group_at lines at)) (at + 1) (line_at lines at)

-- The quirk that the line at a place gives.
abbrev pub quirk_at : List (List ℕ) → ℕ → Option Quirk
quirk_at lines at = quirk_given (group_at lines at) (trimmed (line_at lines at))

-- The places of the lines, from 0.
abbrev pub places : List (List ℕ) → List ℕ
places lines = range_with_len 0 (length lines)

-- ---- a file

-- The most bytes of a quirk file.
abbrev pub file_max : ℕ
file_max = 1048576

-- The first of the faults of the lines.
unfoldable pub first_fault : List (List ℕ) → Option QuirkFault
first_fault lines = slice_get (filter_map (fault_at lines) (places lines)) 0

-- What is wrong with a file: it is too large, or else the first fault of a line.
abbrev pub file_fault : List ℕ → Option QuirkFault
file_fault bytes = if nat_lt file_max (length bytes) then Some (TooLarge (length bytes)) else first_fault (lines_of bytes)

-- The quirks of a file: those of its lines, in their order.
unfoldable pub quirks_of : List (List ℕ) → List Quirk
quirks_of lines = filter_map (quirk_at lines) (places lines)

abbrev pub file_quirks : List ℕ → List Quirk
file_quirks bytes = quirks_of (lines_of bytes)
