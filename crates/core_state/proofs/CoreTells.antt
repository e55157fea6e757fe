-- What one event tells of boards, over what is kept.
use Rattle.std.proofs.Common.{◌≡◌, ◌+◌, ℕ, suc, true, false, cond, List, [], ◌∷◌, map, length, refl, ap, sym, ◌∙◌, ◌≤◌, arith}
use Rattle.std.specs.Prelude.{Option, Some, None, find, nat_lt, option_map, option_and_then, slice_get}
use Rattle.std.specs.Str.{bytes_eq}
use Rattle.std.proofs.lemmas.Option.{slice_get-map, slice_get_past}
use Rattle.std.proofs.lemmas.Bool.{ltb-false}
use Rattle.std.proofs.lemmas.List.{length-map}
use Rattle.std.specs.List.{position_or_len}
use Rattle.device_list.proofs.GuidLaws.{bytes_eq-symm}
use Rattle.device_list.specs.Lists.{names, place}
use Rattle.device_list.specs.declared.selector.Selector.{Selector}
use Rattle.history_keeper.specs.declared.row.Row.{Row}
use Rattle.update_log.proofs.Lists.{by_test}
use Rattle.update_log.specs.Boards.{Board, board_at, board_with, devices}
use Rattle.core_state.specs.CoreSteps.{board_of_entry, board_on, tells_on}
use Rattle.update_log.specs.Known.{Known, board_found, board_of, for_board, row_of, tells, view_of, views_in}
use Rattle.update_log.specs.declared.answer.PlugAnswer.{PlugAnswer}
use Rattle.update_log.specs.declared.event.Event.{Event}
use Rattle.update_log.specs.declared.facts.Facts.{Facts}
use Rattle.update_log.specs.declared.live.LiveEntry.{LiveEntry}

-- The numbers of these boards.
abbrev numbers : List Board → List ℕ
numbers boards = map (λ b. b.number) boards

-- The place of the first view of a device is that of the board with its sheet.
at-place : (entries : List LiveEntry) (known : Known) (device : List ℕ) (boards : List Board)
    → slice_get (numbers boards) (position_or_len (names (Selector.Id device)) (map (view_of entries known) boards))
    ≡ option_map (λ b. b.number) (find (λ b. bytes_eq b.sheet.device device) boards)
at-place entries known device [] = refl
at-place entries known device (b ∷ boards) =
    by_test (bytes_eq device b.sheet.device) _
    (λ t. let u : bytes_eq b.sheet.device device ≡ true = bytes_eq-symm b.sheet.device device ∙ t in rw (t, u) refl)
    (λ t. let u : bytes_eq b.sheet.device device ≡ false = bytes_eq-symm b.sheet.device device ∙ t in
    let n : ℕ = position_or_len (names (Selector.Id device)) (map (view_of entries known) boards) in
    let e : 1 + n ≡ suc n = omega arith in
    rw (t, u) (ap (λ (k : ℕ). slice_get (numbers (b ∷ boards)) k) e ∙ at-place entries known device boards))

-- A place that is looked up, or there is none.
pub looked-up : (numbers : List ℕ) (n len : ℕ) → length numbers ≡ len → option_and_then (slice_get numbers) (cond (nat_lt n len) (Some n) None) ≡ slice_get numbers n
looked-up numbers n len h =
    by_test (nat_lt n len) _
    (λ t. rw t refl)
    (λ t. let le : len ≤ n = ltb-false n len t in rw t (sym (slice_get_past numbers n (omega (arith, h, le)))))

with-device : (entries : List LiveEntry) (known : Known) (device : List ℕ) (boards : List Board)
    → option_and_then (slice_get (numbers boards)) (place (Selector.Id device) (map (view_of entries known) boards))
    ≡ option_map (λ b. b.number) (find (λ b. bytes_eq b.sheet.device device) boards)
with-device entries known device boards =
    looked-up (numbers boards) (position_or_len (names (Selector.Id device)) (map (view_of entries known) boards)) (length (map (view_of entries known) boards))
    (length-map boards (λ (b : Board). b.number) ∙ sym (length-map boards (view_of entries known)))
    ∙ at-place entries known device boards

found-board : (facts : Facts) (entries : List LiveEntry) (known : Known) (selector : Selector)
    → board_on (numbers (devices facts)) (views_in facts entries known) selector ≡ board_found facts entries known selector
found-board facts entries known selector = at (place selector (views_in facts entries known))
  where
    at : (o : Option ℕ) → option_and_then (slice_get (numbers (devices facts))) o ≡ option_and_then (board_at facts) o
    at None = refl
    at (Some n) = slice_get-map (λ (b : Board). b.number) (devices facts) n

entry-board : (facts : Facts) (entries : List LiveEntry) (known : Known) (entry : ℕ)
    → board_of_entry (numbers (devices facts)) (views_in facts entries known) known.rows entry ≡ board_of facts known.rows entry
entry-board facts entries known entry = at (row_of known.rows entry)
  where
    at : (o : Option Row) → option_and_then (λ r. board_on (numbers (devices facts)) (views_in facts entries known) (Selector.Id r.device)) o ≡ option_and_then (λ r. board_with facts r.device) o
    at None = refl
    at (Some r) = with-device entries known r.device (devices facts)

pub tells-same : (facts : Facts) (entries : List LiveEntry) (known : Known) (event : Event) (board : ℕ)
    → tells_on (map (λ b. b.number) (devices facts)) (views_in facts entries known) known.rows event board ≡ tells facts entries known event board
tells-same facts entries known (Event.End client entry op outcome told seen) board =
    ap (λ (o : Option ℕ). for_board o board seen) (entry-board facts entries known entry)
tells-same facts entries known (Event.Unplug client device (PlugAnswer.Done seen)) board =
    ap (λ (o : Option ℕ). for_board o board seen) (found-board facts entries known device)
tells-same facts entries known (Event.Plug client device (PlugAnswer.Done seen)) board =
    ap (λ (o : Option ℕ). for_board o board seen) (found-board facts entries known device)
tells-same facts entries known _ board = refl
