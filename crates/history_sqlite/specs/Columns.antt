-- A row as the columns of the table, and back.
use Rattle.std.specs.Prelude.{ℕ, pos, nat_lt, ◌==◌, ◌^◌, if◌then◌else◌, List, [], ◌∷◌, ◌++◌, length, Option, Some, None, option_map}
use Rattle.std.specs.Result.{result_ok}
use Rattle.fw_base.specs.Names.{name_read}
use Rattle.version_formats.specs.Versions.{version_read}
use Rattle.sqlite.specs.declared.types.Value.{Value}
use Rattle.sqlite.specs.declared.types.Value.TheVariants.{Null, Int, Text, Blob}
use Rattle.sqlite.specs.Order.{column}
use Rattle.sqlite.specs.Values.{or_null}
use Rattle.history_keeper.specs.declared.row.Row.{Row}
use Rattle.history_keeper.specs.declared.row.RowState.{RowState}
use Rattle.history_keeper.specs.declared.row.RowState.TheVariants.{Pending, Success, Failed, NeedsReboot, Begun}

-- The number of a state.
abbrev pub state_number : RowState → ℕ
state_number Pending = 1
state_number Success = 2
state_number Failed = 3
state_number NeedsReboot = 4
state_number Begun = 100

-- The columns of a row in a table of schema 1, in the order of that table.
abbrev pub older_columns_of : Row → List Value
older_columns_of row =
    Int (pos row.entry) ∷ Text row.tag ∷ Int (pos row.client) ∷ Blob row.device ∷ Text row.component ∷ Text row.version_old ∷ Text row.version_new
    ∷ Blob row.digest ∷ Int (pos row.flags) ∷ Int (pos (state_number row.state)) ∷ Int (pos row.reason) ∷ Int (pos row.time_added) ∷ Int (pos row.time_changed) ∷ []

-- The columns of a row, in the order of the table: those of schema 1, and three more. What is missing is NULL.
abbrev pub columns_of : Row → List Value
columns_of row = older_columns_of row ++ Int (pos row.duration) ∷ or_null Text row.protocol ∷ or_null (λ entry. Int (pos entry)) row.retry_of ∷ []

-- The row as it is taken over from schema 1, which tells no duration, no protocol and no row that was tried again.
abbrev pub taken_over : Row → Row
taken_over row = record row { duration = 0; protocol = None; retry_of = None }

-- What the update is given: the entry of a row, and what it gets.
abbrev pub values_of : ℕ → RowState → ℕ → ℕ → List Value
values_of entry state reason time = Int (pos entry) ∷ Int (pos (state_number state)) ∷ Int (pos reason) ∷ Int (pos time) ∷ []

-- What follows, where there is something.
infixl 10 ◌>>=◌
abbrev pub ◌>>=◌ : {A B : Type 0} → Option A → (A → Option B) → Option B
None >>= next = None
(Some a) >>= next = next a

-- The value has a kind, and no other value has it.
abbrev pub integer_in : Value → Option ℕ
integer_in (Int (pos n)) = Some n
integer_in _ = None

abbrev pub text_in : Value → Option (List ℕ)
text_in (Text t) = Some t
text_in _ = None

abbrev pub blob_in : Value → Option (List ℕ)
blob_in (Blob b) = Some b
blob_in _ = None

-- A number below the end of its range.
abbrev pub number_in : ℕ → Value → Option ℕ
number_in end v = integer_in v >>= (λ n. if nat_lt n end then Some n else None)

-- So many bytes.
abbrev pub bytes_in : ℕ → Value → Option (List ℕ)
bytes_in size v = blob_in v >>= (λ b. if length b == size then Some b else None)

abbrev pub name_in : Value → Option (List ℕ)
name_in v = text_in v >>= (λ t. result_ok (name_read t))

abbrev pub version_in : Value → Option (List ℕ)
version_in v = text_in v >>= (λ t. result_ok (version_read t))

-- The state with this number.
abbrev pub state_numbered : ℕ → Option RowState
state_numbered n =
    if n == 1 then Some Pending
    else if n == 2 then Some Success
    else if n == 3 then Some Failed
    else if n == 4 then Some NeedsReboot
    else if n == 100 then Some Begun
    else None

abbrev pub state_in : Value → Option RowState
state_in v = integer_in v >>= state_numbered

-- A value that may be missing, by the reader of one that is there.
abbrev pub optional : {A : Type 0} → (Value → Option A) → Value → Option (Option A)
optional read Null = Some None
optional read v = option_map Some (read v)

-- The row that has these columns of a table of schema 1, where there is one.
abbrev pub older_row_read : List Value → Option Row
older_row_read columns = do
  entry ← number_in (2 ^ 32) (column columns 0)
  tag ← name_in (column columns 1)
  client ← number_in (2 ^ 32) (column columns 2)
  device ← bytes_in 20 (column columns 3)
  component ← name_in (column columns 4)
  version_old ← version_in (column columns 5)
  version_new ← version_in (column columns 6)
  digest ← bytes_in 32 (column columns 7)
  flags ← number_in (2 ^ 8) (column columns 8)
  state ← state_in (column columns 9)
  reason ← number_in (2 ^ 8) (column columns 10)
  time_added ← number_in (2 ^ 64) (column columns 11)
  time_changed ← number_in (2 ^ 64) (column columns 12)
  Some (record { entry = entry; tag = tag; client = client; device = device; component = component; version_old = version_old; version_new = version_new; digest = digest; flags = flags; state = state; reason = reason; time_added = time_added; time_changed = time_changed; duration = 0; protocol = None; retry_of = None })

-- The row that has these columns, where there is one.
abbrev pub row_read : List Value → Option Row
row_read columns = do
  row ← older_row_read columns
  duration ← number_in (2 ^ 32) (column columns 13)
  protocol ← optional name_in (column columns 14)
  retry_of ← optional (number_in (2 ^ 32)) (column columns 15)
  Some (record row { duration = duration; protocol = protocol; retry_of = retry_of })
