-- Which rows are a valid history.
use Rattle.std.specs.Prelude.{Bool, true, false, IsTrue, filter, filter_map, ◌≡◌, ◌≢◌, ◌==◌, not, ℕ, ◌+◌, ◌<◌, List, length, take, map, slice_get, slice_index, AllPairs, Any, EachIndex, ◌⊎◌, ◌&&◌, nat_eq, Option, Some, None, IfSome, option_map, unwrap_or}
use Rattle.std.specs.List.{list_any}
use Rattle.std.specs.Str.{bytes_eq}
use Rattle.history_keeper.specs.declared.row.Row.{Row}
use Rattle.history_keeper.specs.declared.row.RowState.{RowState}
use Rattle.history_keeper.specs.declared.row.RowState.TheVariants.{Pending, Success, Failed, NeedsReboot, Begun}

-- The row of this state waits for its end.
abbrev pub is_unsettled : RowState → Bool
is_unsettled Pending = true
is_unsettled NeedsReboot = true
is_unsettled Begun = true
is_unsettled Success = false
is_unsettled Failed = false

-- Both rows are unsettled and of one device.
abbrev pub BothUnsettled : Row → Row → Type 0
BothUnsettled a b = (a.device ≡ b.device) × IsTrue (is_unsettled a.state) × IsTrue (is_unsettled b.state)

-- The row of this state has failed.
abbrev pub is_failed : RowState → Bool
is_failed Failed = true
is_failed Pending = false
is_failed Success = false
is_failed NeedsReboot = false
is_failed Begun = false

-- The row tries the row of that entry again.
abbrev pub tries : ℕ → Row → Bool
tries entry row = unwrap_or (option_map (λ tried. tried == entry) row.retry_of) false

-- The row has that entry, is of that device, and has failed: so one of the same device may try it again.
pub record IsFailure (entry : ℕ) (device : List ℕ) (row : Row) : Type 0 where
  pub entry_is : row.entry ≡ entry
  pub device_is : row.device ≡ device
  pub failed : row.state ≡ Failed

-- Where the row tries another one again, that is a failed one of its device, among these before it.
abbrev pub IsLinked : List Row → Row → Type 0
IsLinked before row = IfSome row.retry_of (λ entry. Any (IsFailure entry row.device) before)

-- So does each row of a list.
abbrev pub AreLinked : List Row → Type 0
AreLinked rows = (at : ℕ) (row : Row) → slice_get rows at ≡ Some row → IsLinked (take at rows) row

-- Both rows try the same one again.
abbrev pub BothRetry : Row → Row → Type 0
BothRetry a b = (entry : ℕ) × (a.retry_of ≡ Some entry) × (b.retry_of ≡ Some entry)

-- No two rows do.
abbrev pub RetriedOnce : List Row → Type 0
RetriedOnce rows = AllPairs (λ a b. BothRetry a b → ⊥) rows

-- The entries are 1, 2, 3 and so on, no two rows have one tag, and no device has two unsettled rows. A row that tries
-- another one again tries an earlier one that has failed, of the same device, and no two try the same one.
pub record IsHistory (rows : List Row) : Type 0 where
  pub entries : EachIndex rows (λ k. slice_index (map (λ row. row.entry) rows) k ≡ k + 1)
  pub tags : AllPairs (λ a b. a.tag ≢ b.tag) rows
  pub unsettled : AllPairs (λ a b. BothUnsettled a b → ⊥) rows
  pub linked : AreLinked rows
  pub retried : RetriedOnce rows

-- The row at this place is the first that breaks a rule: the rows before it are a valid history, and
-- with it they are none.
pub record IsFirstFaulty (rows : List Row) (at : ℕ) : Type 0 where
  pub within : at < length rows
  pub before : IsHistory (take at rows)
  pub breaks : IsHistory (take (at + 1) rows) → ⊥

-- The row stands at odds with a row before it, by its tag, by its device, or by the row that both try again.
abbrev pub Clashes : List Row → Row → Type 0
Clashes before row = Any (λ other. (other.tag ≡ row.tag) ⊎ BothUnsettled other row ⊎ BothRetry other row) before

-- The tags of the rows.
abbrev pub tags_of : List Row → List (List ℕ)
tags_of rows = map (λ row. row.tag) rows

-- The devices of the unsettled rows.
abbrev pub waiting_of : List Row → List (List ℕ)
waiting_of rows = map (λ row. row.device) (filter (λ row. is_unsettled row.state) rows)

-- The row has the next entry, a tag that none has, and where it is unsettled, a device that none has.
pub record Follows (tags waiting : List (List ℕ)) (next : ℕ) (row : Row) : Type 0 where
  pub entry : row.entry ≡ next
  pub tag : list_any (bytes_eq row.tag) tags ≡ false
  pub device : is_unsettled row.state && list_any (bytes_eq row.device) waiting ≡ false

-- The entries that the rows try again.
abbrev pub retried_of : List Row → List ℕ
retried_of rows = filter_map (λ row. row.retry_of) rows

-- No entry of the list is the one that is tried again, where one is.
abbrev pub is_untried : List ℕ → Option ℕ → Bool
is_untried retried None = true
is_untried retried (Some entry) = not (list_any (nat_eq entry) retried)

-- The row tries none again, or a failed one of its device among those before it, which none of them tries again.
pub record Links (before : List Row) (retried : List ℕ) (row : Row) : Type 0 where
  pub linked : IsLinked before row
  pub untried : is_untried retried row.retry_of ≡ true

-- The row goes on with the rows before it.
pub record GoesOn (before : List Row) (tags waiting : List (List ℕ)) (retried : List ℕ) (row : Row) : Type 0 where
  pub follows : Follows tags waiting (length before + 1) row
  pub links : Links before retried row
