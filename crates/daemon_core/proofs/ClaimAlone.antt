-- At most one live entry is on a board.
use Rattle.std.proofs.Common.{◌≡◌, ◌≢◌, ℕ, suc, true, false, List, [], ◌∷◌, refl, ap, sym, ◌∙◌, ◌≤◌, ◌+◌, arith, add-zero}
use Rattle.std.specs.Prelude.{Option, Some, None, ◌==◌, find, option_map, option_and_then, unwrap_or, slice_get}
use Rattle.std.specs.List.{AllByRecursion}
use Rattle.std.specs.Str.{bytes_eq}
use Rattle.std.proofs.lemmas.Bool.{eqb-true}
use Rattle.fw_facts.specs.declared.sheet.Sheet.{Sheet}
use Rattle.history_keeper.specs.declared.row.Row.{Row}
use Rattle.history_keeper.specs.declared.row.RowState.{RowState}
use Rattle.history_keeper.specs.Histories.{IsHistory}
use Rattle.update_log.proofs.Lists.{All-filter, All-find, by_test, eqb-self, find-passes}
use Rattle.update_log.proofs.MarksKept.{find-many}
use Rattle.update_log.proofs.Openings.{bytes-same}
use Rattle.update_log.proofs.WaitsOnce.{state_of, waits_on}
use Rattle.update_log.proofs.WaitsKept.{wait-kept}
use Rattle.update_log.specs.Boards.{Board, all_boards, board_with, boards_from, devices, is_device}
use Rattle.update_log.specs.Holding.{is_live, live}
use Rattle.update_log.specs.Known.{is_board_of, row_of, rows}
use Rattle.update_log.specs.Legal.{IsLegal}
use Rattle.update_log.specs.Once.{how_many}
use Rattle.update_log.specs.Shows.{Campaign}
use Rattle.update_log.specs.declared.event.Event.{Event}
use Rattle.update_log.specs.declared.facts.Facts.{Facts}
use Rattle.update_log.specs.declared.live.LiveEntry.{LiveEntry}
use Rattle.daemon_core.proofs.ClaimOpen.{found-live}

-- A board's number says which sheet is its.
abbrev pub HasSheet : List Sheet → Board → Type 0
HasSheet all b = slice_get all b.number ≡ Some b.sheet

numbered : (all : List Sheet) (n : ℕ) (sheets : List Sheet) → ((i : ℕ) → slice_get all (n + i) ≡ slice_get sheets i) → AllByRecursion (HasSheet all) (boards_from n sheets)
numbered all n [] h = tt
numbered all n (s ∷ ss) h = (
  ap (slice_get all) (sym (add-zero n)) ∙ h 0,
  numbered all (n + 1) ss (λ i. let e : n + 1 + i ≡ n + suc i = omega arith in ap (slice_get all) e ∙ h (suc i)),
)

from-first : (all : List Sheet) (i : ℕ) → slice_get all (0 + i) ≡ slice_get all i
from-first all i = let e : 0 + i ≡ i = omega arith in ap (slice_get all) e

pub device-sheet : (facts : Facts) → AllByRecursion (HasSheet facts.sheets) (devices facts)
device-sheet facts = All-filter (HasSheet facts.sheets) (HasSheet facts.sheets) (is_device facts) (all_boards facts) (numbered facts.sheets 0 facts.sheets (from-first facts.sheets)) (λ b h _. h)

-- What a board's number says of the device.
pub record OnBoard (facts : Facts) (device : List ℕ) (number : ℕ) : Type 0 where
  pub board : Board
  pub sheet : slice_get facts.sheets number ≡ Some board.sheet
  pub device_is : board.sheet.device ≡ device

pub on-board : (facts : Facts) (device : List ℕ) (number : ℕ) → board_with facts device ≡ Some number → OnBoard facts device number
on-board facts device number h = at (find (λ b. bytes_eq b.sheet.device device) (devices facts)) refl h
  where
    at : (o : Option Board) → find (λ b. bytes_eq b.sheet.device device) (devices facts) ≡ o → option_map (λ b. b.number) o ≡ Some number → OnBoard facts device number
    at None f e = cc
    at (Some b) f e =
        let n : b.number ≡ number = cc in
        record {
          board = b;
          sheet = ap (slice_get facts.sheets) (sym n) ∙ All-find (HasSheet facts.sheets) (λ b. bytes_eq b.sheet.device device) (devices facts) b (device-sheet facts) f;
          device_is = bytes-same b.sheet.device device (find-passes (λ b. bytes_eq b.sheet.device device) (devices facts) b f);
        }

-- Two devices of one board are the same.
pub same-device : (facts : Facts) (a b : List ℕ) (number : ℕ) → board_with facts a ≡ Some number → board_with facts b ≡ Some number → a ≡ b
same-device facts a b number h k =
    let x = on-board facts a number h in
    let y = on-board facts b number k in
    let xs : slice_get facts.sheets number ≡ Some x.board.sheet = x.sheet in
    let ys : slice_get facts.sheets number ≡ Some y.board.sheet = y.sheet in
    let same : x.board.sheet ≡ y.board.sheet = cc in
    sym x.device_is ∙ ap (λ (s : Sheet). s.device) same ∙ y.device_is

-- The row of an entry that is on a board.
pub record RowOn (facts : Facts) (all : List Row) (entry number : ℕ) : Type 0 where
  pub row : Row
  pub row_is : row_of all entry ≡ Some row
  pub board_is : board_with facts row.device ≡ Some number

pub row-on : (facts : Facts) (all : List Row) (entry number : ℕ) → is_board_of facts all entry number ≡ true → RowOn facts all entry number
row-on facts all entry number h = at (row_of all entry) refl h
  where
    numbers : (o : Option ℕ) → unwrap_or (option_map (λ b. b == number) o) false ≡ true → o ≡ Some number
    numbers None e = cc
    numbers (Some b) e = ap Some (eqb-true b number e)

    at : (o : Option Row) → row_of all entry ≡ o → unwrap_or (option_map (λ b. b == number) (option_and_then (λ r. board_with facts r.device) o)) false ≡ true → RowOn facts all entry number
    at None f e = cc
    at (Some r) f e = record { row = r; row_is = f; board_is = numbers (board_with facts r.device) e }

-- Two rows that wait on one device are counted twice.
two-wait : (d : List ℕ) (all : List Row) (a b : ℕ) (ra rb : Row) → row_of all a ≡ Some ra → row_of all b ≡ Some rb → waits_on d ra ≡ true → waits_on d rb ≡ true → a ≢ b → 2 ≤ how_many (waits_on d) all
two-wait d [] a b ra rb f g wa wb n = cc
two-wait d (r ∷ rs) a b ra rb f g wa wb n =
    by_test (r.entry == a) _
    (λ t. let f' : Some r ≡ Some ra = rw t at f in
    let s : r ≡ ra = cc in
    let here : waits_on d r ≡ true = ap (waits_on d) s ∙ wa in
    by_test (r.entry == b) _
    (λ u. absurd (n (sym (eqb-true r.entry a t) ∙ eqb-true r.entry b u)))
    (λ u. let one : 1 ≤ how_many (waits_on d) rs = find-many (λ x. x.entry == b) (waits_on d) rs rb (rw u at g) wb in rw here (omega arith)))
    (λ t. by_test (r.entry == b) _
    (λ u. let g' : Some r ≡ Some rb = rw u at g in
    let s : r ≡ rb = cc in
    let here : waits_on d r ≡ true = ap (waits_on d) s ∙ wb in
    let one : 1 ≤ how_many (waits_on d) rs = find-many (λ x. x.entry == a) (waits_on d) rs ra (rw t at f) wa in rw here (omega arith))
    (λ u. let rest : 2 ≤ how_many (waits_on d) rs = two-wait d rs a b ra rb (rw t at f) (rw u at g) wa wb n in
    by_test (waits_on d r) _ (λ w. rw w (omega arith)) (λ w. rw w rest)))

begun-waits : (d : List ℕ) (all : List Row) (entry : ℕ) (r : Row) → row_of all entry ≡ Some r → state_of all entry ≡ Some RowState.Begun → r.device ≡ d → waits_on d r ≡ true
begun-waits d all entry r f s e =
    let st : Some r.state ≡ Some RowState.Begun = rw f at s in
    let b : r.state ≡ RowState.Begun = cc in
    let same : bytes_eq r.device d ≡ true = rw e (self d) in
    rw (same, b) refl
  where
    self : (xs : List ℕ) → bytes_eq xs xs ≡ true
    self [] = refl
    self (x ∷ xs) = rw (eqb-self x) (self xs)

-- So two live entries on one board are one.
pub alone-on : (c : Campaign) (past : List Event) (number a b : ℕ) → IsHistory c.basis.opening → IsLegal c past → is_live (live past) a ≡ true → is_live (live past) b ≡ true
    → is_board_of c.basis.facts (rows c.basis past) a number ≡ true → is_board_of c.basis.facts (rows c.basis past) b number ≡ true → a ≢ b → ⊥
alone-on c past number a b v l la lb ha hb n =
    let k = wait-kept c past v l in
    let x = row-on c.basis.facts (rows c.basis past) a number ha in
    let y = row-on c.basis.facts (rows c.basis past) b number hb in
    let same : y.row.device ≡ x.row.device = same-device c.basis.facts y.row.device x.row.device number y.board_is x.board_is in
    let sa : state_of (rows c.basis past) a ≡ Some RowState.Begun = begun a la in
    let sb : state_of (rows c.basis past) b ≡ Some RowState.Begun = begun b lb in
    let wa : waits_on x.row.device x.row ≡ true = begun-waits x.row.device (rows c.basis past) a x.row x.row_is sa refl in
    let wb : waits_on x.row.device y.row ≡ true = begun-waits x.row.device (rows c.basis past) b y.row y.row_is sb same in
    let two : 2 ≤ how_many (waits_on x.row.device) (rows c.basis past) = two-wait x.row.device (rows c.basis past) a b x.row y.row x.row_is y.row_is wa wb n in
    let one : how_many (waits_on x.row.device) (rows c.basis past) ≤ 1 = k.once x.row.device in
    absurd (omega arith)
  where
    begun : (e : ℕ) → is_live (live past) e ≡ true → state_of (rows c.basis past) e ≡ Some RowState.Begun
    begun e h =
        let k = wait-kept c past v l in
        let f = found-live (live past) e h in
        let same : f.0.entry ≡ e = eqb-true f.0.entry e (find-passes (λ x. x.entry == e) (live past) f.0 f.1) in
        let s : state_of (rows c.basis past) f.0.entry ≡ Some RowState.Begun = All-find (λ (m : LiveEntry). state_of (rows c.basis past) m.entry ≡ Some RowState.Begun) (λ x. x.entry == e) (live past) f.0 k.begun f.1 in
        ap (state_of (rows c.basis past)) (sym same) ∙ s
