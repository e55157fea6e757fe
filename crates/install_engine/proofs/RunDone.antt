-- A claim whose steps are done.
use Rattle.std.proofs.Common.{◌≡◌, ℕ, Bool, List, [], ◌∷◌, map, refl, ap, ◌∙◌}
use Rattle.std.specs.Prelude.{Option, Some, None, find, option_and_then, option_map}
use Rattle.std.specs.Str.{bytes_eq}
use Rattle.fw_facts.specs.declared.seen.Seen.{Seen}
use Rattle.fw_facts.specs.declared.view.DeviceView.{DeviceView}
use Rattle.history_keeper.specs.declared.row.Row.{Row}
use Rattle.history_keeper.specs.declared.row.RowState.{RowState}
use Rattle.update_log.proofs.Lists.{by_test}
use Rattle.update_log.specs.declared.event.Event.{Event}
use Rattle.update_log.specs.declared.facts.Facts.{Facts}
use Rattle.update_log.specs.declared.live.LiveEntry.{LiveEntry}
use Rattle.update_log.specs.declared.trace.Trace.{Trace}
use Rattle.update_log.specs.Boards.{Board, board_with, devices}
use Rattle.update_log.specs.Holding.{live}
use Rattle.update_log.specs.Known.{Basis, Known, board_of, known, row_of, rows, view_of, views, views_in}
use Rattle.update_log.specs.Steps.{closing, closing_at, closing_of, next_step, trace, view_of_row}
use Rattle.daemon_core.specs.Finishes.{IsDone}
use Rattle.device_claims.specs.declared.claim.Parts.{Parts}
use Rattle.install_engine.specs.Runs.{ClaimRuns}

find-mapped : {X Y : Type 0} (f : X → Y) (p : Y → Bool) (xs : List X) → find p (map f xs) ≡ option_map f (find (λ x. p (f x)) xs)
find-mapped f p [] = refl
find-mapped f p (x ∷ xs) = by_test (p (f x)) _ (λ t. rw t refl) (λ t. rw t (find-mapped f p xs))

-- The device of a board's number is among those that stand there.
device-view : (facts : Facts) (entries : List LiveEntry) (k : Known) (row : Row) (number : ℕ) → board_with facts row.device ≡ Some number → (v : DeviceView) × (view_of_row (views_in facts entries k) row ≡ Some v)
device-view facts entries k row number e = at (find (λ b. bytes_eq b.sheet.device row.device) (devices facts)) refl e
  where
    at : (o : Option Board) → find (λ b. bytes_eq b.sheet.device row.device) (devices facts) ≡ o → option_map (λ b. b.number) o ≡ Some number → (v : DeviceView) × (view_of_row (views_in facts entries k) row ≡ Some v)
    at None f e = cc
    at (Some b) f e =
        (view_of entries k b, find-mapped (view_of entries k) (λ v. bytes_eq v.sheet.device row.device) (devices facts) ∙ ap (λ (o : Option Board). option_map (view_of entries k) o) f)

-- The row of an entry that has a board, and the number of that board.
board-row : (facts : Facts) (all : List Row) (entry number : ℕ) → board_of facts all entry ≡ Some number → (row : Row) × (row_of all entry ≡ Some row) × (board_with facts row.device ≡ Some number)
board-row facts all entry number e = at (row_of all entry) refl e
  where
    at : (o : Option Row) → row_of all entry ≡ o → option_and_then (λ r. board_with facts r.device) o ≡ Some number → (row : Row) × (row_of all entry ≡ Some row) × (board_with facts row.device ≡ Some number)
    at None f e = cc
    at (Some row) f e = (row, f, e)

-- So an entry that has a trace and a board ends in some state.
pub closes : (basis : Basis) (past : List Event) (entry number : ℕ) (t : Trace) → board_of basis.facts (rows basis past) entry ≡ Some number → trace basis entry past ≡ Some t → (closed : RowState) × (closing basis past entry ≡ Some closed)
closes basis past entry number t e h =
    let r = board-row basis.facts (rows basis past) entry number e in
    let v = device-view basis.facts (live past) (known basis past) r.0 number r.2 in (
      closing_of t r.0 v.0,
      ap (λ (o : Option Trace). option_and_then (λ t. option_and_then (closing_at (views basis past) t) (row_of (rows basis past) entry)) o) h
          ∙ ap (λ (o : Option Row). option_and_then (closing_at (views basis past) t) o) r.1
          ∙ ap (λ (o : Option DeviceView). option_map (closing_of t r.0) o) v.1,
    )

-- Without a next step a claim is done.
pub claim-done : (basis : Basis) (first : List Seen) (past : List Event) (client : ℕ) (parts : Parts) (number : ℕ) (l : LiveEntry) → ClaimRuns basis first past client parts number l None → next_step parts.trace ≡ None
    → (closed : RowState) × IsDone basis past parts.entry closed
claim-done basis first past client parts number l k n =
    let c = closes basis past parts.entry number parts.trace k.board_is k.traced in (
      c.0,
      record {
        closed_none = k.open_is;
        done = ap (λ (o : Option Trace). option_and_then next_step o) k.traced ∙ n;
        closing = c.1;
      },
    )
