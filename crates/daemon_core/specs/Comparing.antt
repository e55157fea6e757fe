-- Rows that are the same, and where two lists of them differ.
use Rattle.std.specs.Prelude.{◌≡◌, ◌==◌, ◌&&◌, ℕ, Bool, true, false, List, Option, Some, None, take, slice_get}
use Rattle.std.specs.Str.{bytes_eq}
use Rattle.history_keeper.specs.declared.row.Row.{Row}
use Rattle.history_keeper.specs.declared.row.RowState.{RowState}

-- The number of a state.
abbrev pub number_of : RowState → ℕ
number_of RowState.Pending = 1
number_of RowState.Success = 2
number_of RowState.Failed = 3
number_of RowState.NeedsReboot = 4
number_of RowState.Begun = 100

-- Two rows were added for the same request.
abbrev pub same_request : Row → Row → Bool
same_request a b =
    (a.entry == b.entry)
    && bytes_eq a.tag b.tag
    && (a.client == b.client)
    && bytes_eq a.device b.device
    && bytes_eq a.component b.component
    && bytes_eq a.version_old b.version_old
    && bytes_eq a.version_new b.version_new
    && bytes_eq a.digest b.digest
    && (a.flags == b.flags)

-- Two values that may be missing are the same.
abbrev pub same_optional : {A : Type 0} → (A → A → Bool) → Option A → Option A → Bool
same_optional same None None = true
same_optional same (Some a) (Some b) = same a b
same_optional same _ _ = false

-- They tell the same duration and protocol, and try the same row again.
abbrev pub same_terms : Row → Row → Bool
same_terms a b = (a.duration == b.duration) && same_optional bytes_eq a.protocol b.protocol && same_optional (λ m n. m == n) a.retry_of b.retry_of

-- They have come as far.
abbrev pub same_state : Row → Row → Bool
same_state a b =
    (number_of a.state == number_of b.state) && (a.reason == b.reason) && (a.time_added == b.time_added) && (a.time_changed == b.time_changed)

-- They are one.
abbrev pub same_row : Row → Row → Bool
same_row a b = same_request a b && same_terms a b && same_state a b

-- Two lists are the same before this place, and differ there: one may have ended.
pub record DifferFirstAt (left right : List Row) (at : ℕ) : Type 0 where
  pub before : take at left ≡ take at right
  pub here : slice_get left at ≡ slice_get right at → ⊥
