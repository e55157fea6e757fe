-- Texts of quirk files: what a text line is, and what stands between blanks and commas.
use Rattle.std.specs.Prelude.{ℕ, ◌-◌, ◌==◌, nat_lt, Bool, not, ◌&&◌, ◌||◌, List, length, take, drop, map, filter}
use Rattle.std.specs.List.{list_all, prefix_len, suffix_len, slice_split}
use Rattle.std.specs.Str.{is_utf8}

-- A space or a tab.
abbrev pub is_blank : ℕ → Bool
is_blank b = (b == 32) || (b == 9)

-- The text without the blanks at its start.
abbrev pub without_front : List ℕ → List ℕ
without_front text = drop (prefix_len is_blank text) text

-- The text without the blanks at its end.
abbrev pub without_back : List ℕ → List ℕ
without_back text = take (length text - suffix_len is_blank text) text

-- The text without the blanks at both ends.
abbrev pub trimmed : List ℕ → List ℕ
trimmed text = without_back (without_front text)

-- A byte that a text line may have: no control byte but the tab.
abbrev pub is_text_byte : ℕ → Bool
is_text_byte b = not ((nat_lt b 0x20 && not (b == 9)) || (b == 0x7F))

-- The line is text: such bytes alone, in UTF-8.
abbrev pub is_text : List ℕ → Bool
is_text line = list_all is_text_byte line && is_utf8 line

-- The text has no byte.
abbrev pub is_empty : List ℕ → Bool
is_empty text = length text == 0

-- The elements among the parts of a comma list: the parts without blanks round them, but the empty ones.
abbrev pub elements_among : List (List ℕ) → List (List ℕ)
elements_among parts = filter (λ part. not (is_empty part)) (map trimmed parts)

-- The elements of a comma list, which is parted at its commas.
abbrev pub elements_of : List ℕ → List (List ℕ)
elements_of value = elements_among (slice_split (λ b. b == 44) value)
