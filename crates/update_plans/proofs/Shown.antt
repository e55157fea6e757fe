-- What a device shows after an event, told of its board alone.
use Rattle.std.proofs.Common.{◌≡◌, ℕ, ◌==◌, Bool, true, false, List, [], ◌∷◌, map, refl, sym, ap, ◌∙◌, subst}
use Rattle.std.specs.Prelude.{Option, Some, None, find, IsTrue, option_map, option_and_then, unwrap_or, if◌then◌else◌}
use Rattle.std.specs.Option.{option_map_or}
use Rattle.std.specs.Str.{bytes_eq}
use Rattle.std.proofs.lemmas.Bool.{eqb-true}
use Rattle.fw_facts.specs.declared.seen.Mode.{Mode}
use Rattle.fw_facts.specs.declared.seen.Seen.{Seen}
use Rattle.fw_facts.specs.declared.view.DeviceView.{DeviceView}
use Rattle.history_keeper.specs.declared.row.Row.{Row}
use Rattle.update_log.specs.declared.event.Event.{Event}
use Rattle.update_log.specs.declared.live.LiveEntry.{LiveEntry}
use Rattle.update_log.specs.Boards.{Board, board_with, devices}
use Rattle.update_log.specs.Holding.{live}
use Rattle.update_log.specs.Known.{Basis, Known, board_of, for_board, is_board_of, known, row_of, rows, seen, tells, view_of as view_in}
use Rattle.update_log.specs.Shows.{HasRaw, home_before, home_or}
use Rattle.update_log.proofs.Lists.{by_test, eqb-self}
use Rattle.update_plans.specs.Plans.{Scene, has_id, seen_of, view_of}

-- ---- a device among the boards

-- the device that is found among the views is the view of the one that is found among the boards
pub found-view : (entries : List LiveEntry) (k : Known) (device : List ℕ) (bs : List Board)
    → find (has_id device) (map (view_in entries k) bs) ≡ option_map (view_in entries k) (find (λ b. bytes_eq b.sheet.device device) bs)
found-view entries k device [] = refl
found-view entries k device (b ∷ bs) =
    by_test (bytes_eq b.sheet.device device) _ (λ t. rw t refl) (λ f. rw f (found-view entries k device bs))

-- A board is the device of that ID.
abbrev pub IsOf : Scene → List ℕ → Board → Type 0
IsOf s device b = find (λ b. bytes_eq b.sheet.device device) (devices s.basis.facts) ≡ Some b

pub board-of : (s : Scene) (device : List ℕ) (past : List Event) (v : DeviceView) → view_of s device past ≡ Some v → (b : Board) × IsOf s device b
board-of s device past v e = of (find (λ b. bytes_eq b.sheet.device device) (devices s.basis.facts)) refl
  where
    of : (o : Option Board) → find (λ b. bytes_eq b.sheet.device device) (devices s.basis.facts) ≡ o → (b : Board) × IsOf s device b
    of (Some b) h = (b, h)
    of None h =
        let none : view_of s device past ≡ None = found-view (live past) (known s.basis past) device (devices s.basis.facts) ∙ ap (option_map (view_in (live past) (known s.basis past))) h in
        let bad : None ≡ Some v = sym none ∙ e in
        cc

-- so after any past its view has its board's sheet, and shows what the board does
pub view-now : (s : Scene) (device : List ℕ) (b : Board) (past : List Event) → IsOf s device b
    → view_of s device past ≡ Some (view_in (live past) (known s.basis past) b)
view-now s device b past h =
    found-view (live past) (known s.basis past) device (devices s.basis.facts) ∙ ap (option_map (view_in (live past) (known s.basis past))) h

pub seen-now : (s : Scene) (device : List ℕ) (b : Board) (past : List Event) → IsOf s device b → seen_of s device past ≡ seen s.basis past b.number
seen-now s device b past h = ap (λ (o : Option DeviceView). option_map_or (λ view. view.seen) o Seen.Gone) (view-now s device b past h)

-- ---- the board of an entry

pub board-with : (s : Scene) (device : List ℕ) (b : Board) → IsOf s device b → board_with s.basis.facts device ≡ Some b.number
board-with s device b h = ap (option_map (λ b. b.number)) h

pub board-of-entry : (s : Scene) (device : List ℕ) (b : Board) (rows : List Row) (entry : ℕ) (row : Row) → IsOf s device b → row_of rows entry ≡ Some row → row.device ≡ device
    → board_of s.basis.facts rows entry ≡ Some b.number
board-of-entry s device b rows entry row h found same =
    ap (option_and_then (λ r. board_with s.basis.facts r.device)) found ∙ ap (board_with s.basis.facts) same ∙ board-with s device b h

-- and no other board is
pub that-board : (s : Scene) (rows : List Row) (entry board number : ℕ) → board_of s.basis.facts rows entry ≡ Some number → IsTrue (is_board_of s.basis.facts rows entry board) → board ≡ number
that-board s rows entry board number e t =
    let same : (number == board) ≡ true = ap (λ (o : Option ℕ). unwrap_or (option_map (λ b. b == board) o) false) (sym e) ∙ t in
    sym (eqb-true number board same)

-- ---- what it shows

-- the end of a step of its entry
pub seen-ended : (s : Scene) (b : Board) (past : List Event) (client entry : ℕ) (event : Event) (shown : Seen) → board_of s.basis.facts (rows s.basis past) entry ≡ Some b.number
    → tells s.basis.facts (live past) (known s.basis past) event b.number ≡ for_board (board_of s.basis.facts (rows s.basis past) entry) b.number shown
    → seen s.basis (event ∷ past) b.number ≡ shown
seen-ended s b past client entry event shown at told =
    ap (λ (o : Option Seen). unwrap_or o (seen s.basis past b.number)) (told ∙ ap (λ (o : Option ℕ). for_board o b.number shown) at ∙ ap (λ (t : Bool). if t then Some shown else None) (eqb-self b.number))

-- A board that is seen at home was last shown at home so.
pub home-seen : (basis : Basis) (first : List Seen) (past : List Event) (board raw : ℕ) (mode : Mode)
    → seen basis past board ≡ Seen.Home raw mode → home_before basis first past board ≡ Seen.Home raw mode
home-seen basis first [] board raw mode e = cc
home-seen basis first (event ∷ past) board raw mode e = of (tells basis.facts (live past) (known basis past) event board) e (λ h. home-seen basis first past board raw mode h)
  where
    of : (o : Option Seen) → unwrap_or o (seen basis past board) ≡ Seen.Home raw mode
        → (seen basis past board ≡ Seen.Home raw mode → home_before basis first past board ≡ Seen.Home raw mode) → home_or o (home_before basis first past board) ≡ Seen.Home raw mode
    of None h before = before h
    of (Some (Seen.Home raw' mode')) h before = h
    of (Some Seen.Gone) h before = cc
    of (Some Seen.Stranger) h before = cc

pub has-raw : (s : Seen) (raw : ℕ) (mode : Mode) → s ≡ Seen.Home raw mode → HasRaw s raw
has-raw s raw mode e = subst (λ (x : Seen). HasRaw x raw) (sym e) refl
