-- The line of a row: the compact JSON text of an object, and a newline.
use Rattle.std.specs.Prelude.{ℕ, List, [], ◌∷◌, ◌++◌, codes, Option, Some, None}
use Rattle.hex.specs.Hex.{encode_lower}
use Rattle.json.specs.Print.{quoted}
use Rattle.serde_json.specs.Data.{Data, Members, unsigned, null, number, string, object, member, no_members}
use Rattle.serde_json.specs.Written.{compact_text}
use Rattle.history_keeper.specs.declared.row.Row.{Row}
use Rattle.history_keeper.specs.declared.row.RowState.{RowState}
use Rattle.history_keeper.specs.declared.row.RowState.TheVariants as states

-- The word of a state.
abbrev pub state_word : RowState → List ℕ
state_word states.Pending = codes "pending"
state_word states.Success = codes "success"
state_word states.Failed = codes "failed"
state_word states.NeedsReboot = codes "needs-reboot"
state_word states.Begun = codes "begun"

-- A number, a text, or `null` where there is none.
abbrev pub number_data : ℕ → Data
number_data n = number (unsigned n)

abbrev pub number_or_null : Option ℕ → Data
number_or_null None = null
number_or_null (Some n) = number_data n

abbrev pub text_or_null : Option (List ℕ) → Data
text_or_null None = null
text_or_null (Some text) = string text

-- The members with these keys and values, in order.
abbrev pub members : List (List ℕ × Data) → Members
members [] = no_members
members (pair ∷ pairs) = member pair.0 pair.1 (members pairs)

-- What a report tells of a row, by the keys, in three parts.
abbrev pub told_first : Row → List (List ℕ × Data)
told_first row =
    (codes "changed", number_data row.time_changed)
    ∷ (codes "component", string row.component)
    ∷ (codes "device", string (encode_lower row.device))
    ∷ (codes "digest", string (encode_lower row.digest))
    ∷ (codes "duration", number_data row.duration) ∷ []

abbrev pub told_next : Row → List (List ℕ × Data)
told_next row =
    (codes "entry", number_data row.entry)
    ∷ (codes "new", string row.version_new)
    ∷ (codes "old", string row.version_old)
    ∷ (codes "protocol", text_or_null row.protocol) ∷ []

abbrev pub told_last : Row → List (List ℕ × Data)
told_last row =
    (codes "reason", number_data row.reason)
    ∷ (codes "retry-of", number_or_null row.retry_of)
    ∷ (codes "state", string (state_word row.state))
    ∷ (codes "tag", string row.tag) ∷ []

-- The object of a row, its members in the order of their keys.
abbrev pub object_of : Row → Data
object_of row = object (members (told_first row ++ told_next row ++ told_last row))

unfoldable pub line : Row → List ℕ
line row = compact_text (object_of row) ++ codes "\n"

-- ---- the text in parts, as it is written

-- A key and its colon.
unfoldable pub key_text : List ℕ → List ℕ
key_text key = quoted key ++ 58 ∷ []

-- A member as it stands in the text of an object: its key, a colon and its value.
unfoldable pub member_text : List ℕ → Data → List ℕ
member_text key value = key_text key ++ compact_text value

-- Members, the first of which stands behind this byte, and each other one behind a comma.
abbrev pub members_behind : ℕ → List (List ℕ × Data) → List ℕ
members_behind before [] = []
members_behind before (pair ∷ pairs) = (before ∷ member_text pair.0 pair.1) ++ members_behind 44 pairs

unfoldable pub first_text : Row → List ℕ
first_text row = members_behind 123 (told_first row)

unfoldable pub next_text : Row → List ℕ
next_text row = members_behind 44 (told_next row)

unfoldable pub last_text : Row → List ℕ
last_text row = members_behind 44 (told_last row) ++ codes "}\n"
