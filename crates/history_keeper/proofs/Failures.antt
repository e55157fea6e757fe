-- A failed row of a device, among rows that are numbered: it is looked for at its place alone.
use Rattle.std.proofs.Common.{◌≡◌, ℕ, Bool, true, false, ◌&&◌, ◌<◌, ◌+◌, arith, List, length, get_or, Any, refl, sym, ap, ◌∙◌, ◌⊎◌, inl, inr, MatchBool}
use Rattle.std.specs.Prelude.{Some}
use Rattle.std.specs.Str.{bytes_eq}
use Rattle.std.specs.Cmp.Lexicographic.{bytes_decides}
use Rattle.std.proofs.lemmas.List.{get_or_default}
use Rattle.std.proofs.lemmas.Option.{slice_get-get_or}
use Rattle.std.proofs.lemmas.Bool.{and_parts}
use Rattle.history_keeper.specs.declared.row.Row.{Row}
use Rattle.history_keeper.specs.declared.row.RowState.{RowState}
use Rattle.history_keeper.specs.Histories.{IsFailure, is_failed}
use Rattle.history_keeper.specs.Numbers.{IsNumbered}

pub failed-is : (state : RowState) → is_failed state ≡ true → state ≡ RowState.Failed
failed-is RowState.Failed h = refl
failed-is _ h = cc

-- the row at a place of rows that are numbered
entry-at : (rows : List Row) (k : ℕ) (x : Row) → IsNumbered rows → k < length rows → get_or rows k x ≡ x → x.entry ≡ k + 1
entry-at rows k x h within here = h k x (slice_get-get_or rows k x within ∙ ap Some here)

-- Past the rows there is none.
pub none-past : (rows : List Row) (entry : ℕ) (device : List ℕ) → IsNumbered rows → (entry ≡ 0) ⊎ (length rows < entry) → Any (IsFailure entry device) rows → ⊥
none-past rows entry device h (inl zero_is) (k, x, within, here, f) =
    let at : x.entry ≡ k + 1 = entry-at rows k x h within here in
    let is : x.entry ≡ entry = f.entry_is in
    omega (arith, at, is, zero_is)
none-past rows entry device h (inr past) (k, x, within, here, f) =
    let at : x.entry ≡ k + 1 = entry-at rows k x h within here in
    let is : x.entry ≡ entry = f.entry_is in
    omega (arith, at, is, past, within)

-- Where there is one, it stands at the place of its entry.
pub none-there : (rows : List Row) (entry : ℕ) (device : List ℕ) (place : ℕ) (row : Row) → IsNumbered rows → place < length rows → entry ≡ place + 1 → row ≡ get_or rows place row → (bytes_eq row.device device && is_failed row.state) ≡ false → Any (IsFailure entry device) rows → ⊥
none-there rows entry device place row h low next is untrue (k, x, within, here, f) =
    let at : x.entry ≡ k + 1 = entry-at rows k x h within here in
    let same_entry : x.entry ≡ entry = f.entry_is in
    let same_place : k ≡ place = omega (arith, at, same_entry, next) in
    let same : x ≡ row =
    sym here ∙ get_or_default rows k x row within ∙ ap (λ (n : ℕ). get_or rows n row) same_place ∙ sym is in
    let of_device : row.device ≡ device = ap (λ (r : Row). r.device) (sym same) ∙ f.device_is in
    let has_failed : row.state ≡ RowState.Failed = ap (λ (r : Row). r.state) (sym same) ∙ f.failed in
    let one : bytes_eq row.device device ≡ true = (bytes_decides row.device device).1 of_device in
    let two : is_failed row.state ≡ true = ap is_failed has_failed in
    let yes : (bytes_eq row.device device && is_failed row.state) ≡ true = rw (one, two) refl in
    let bad : true ≡ false = sym yes ∙ untrue in cc

pub found : (rows : List Row) (entry : ℕ) (device : List ℕ) (place : ℕ) (row : Row) (b : Bool) → IsNumbered rows → place < length rows → entry ≡ place + 1 → row ≡ get_or rows place row → b ≡ (bytes_eq row.device device && is_failed row.state) → MatchBool b (Any (IsFailure entry device) rows) (Any (IsFailure entry device) rows → ⊥)
found rows entry device place row true h low next is e =
    let both = and_parts (bytes_eq row.device device) (is_failed row.state) (sym e) in
    let entry_is : row.entry ≡ entry = h place row (slice_get-get_or rows place row low ∙ ap Some (sym is)) ∙ sym next in (
      place,
      row,
      low,
      sym is,
      record { entry_is = entry_is; device_is = (bytes_decides row.device device).0 both.0; failed = failed-is row.state both.1 },
    )
found rows entry device place row false h low next is e = none-there rows entry device place row h low next is (sym e)
