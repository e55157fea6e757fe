-- What the steps of one entry leave to be said of other boards.
use Rattle.std.proofs.Common.{◌≡◌, ℕ, Bool, true, false, not, List, [], ◌∷◌, length, refl, ap, sym, ◌∙◌, subst}
use Rattle.std.proofs.lemmas.List.{append-nil}
use Rattle.std.proofs.lemmas.Bool.{eqb-true}
use Rattle.std.specs.Prelude.{Option, Some, None, Result, Ok, Err, ◌==◌, find, option_map, unwrap_or}
use Rattle.std.specs.List.{list_any}
use Rattle.emulated_boards.specs.Boards.{BoardState}
use Rattle.emulated_boards.specs.declared.fault.BoardFault.{BoardFault}
use Rattle.emulated_boards.specs.declared.mark.Mark.{Mark}
use Rattle.fw_facts.specs.declared.seen.Seen.{Seen}
use Rattle.history_keeper.specs.declared.row.Row.{Row}
use Rattle.update_log.proofs.Lists.{by_test, find-filter, find-passes, find-push_other}
use Rattle.update_log.specs.Holding.{live, live_entry, open_steps}
use Rattle.update_log.specs.Known.{Basis, board_of, for_board, is_board_of, known, rows, tells}
use Rattle.update_log.specs.Legal.{open_marks, open_on}
use Rattle.update_log.specs.Pasts.{boots}
use Rattle.update_log.specs.Shows.{digest_of, marks, raw_of, told, told_by}
use Rattle.update_log.specs.declared.event.Event.{Event}
use Rattle.update_log.specs.declared.event.Op.{Op}
use Rattle.update_log.specs.declared.facts.Facts.{Facts}
use Rattle.update_log.specs.declared.live.LiveEntry.{LiveEntry}
use Rattle.update_log.specs.declared.live.OpenStep.{OpenStep}
use Rattle.daemon_core.proofs.PlacesKept.{SameOfBoard, place-same}
use Rattle.daemon_core.specs.Boards.{BoardIsHome, PlaceStands, is_faulty_end, is_out}
use Rattle.daemon_core.specs.Housed.{Place}

-- The event tells nothing of a board, and leaves what is out and open on it.
pub record Passes (basis : Basis) (past : List Event) (event : Event) (number : ℕ) : Type 0 where
  pub told : told_by basis.facts (rows basis past) event number ≡ []
  pub same_tells : tells basis.facts (live past) (known basis past) event number ≡ None
  pub faulty : is_faulty_end basis.facts (rows basis past) number event ≡ false
  pub out : is_out basis (event ∷ past) number ≡ is_out basis past number
  pub opened : open_on basis (event ∷ past) number ≡ open_on basis past number
  pub marks : open_marks basis (event ∷ past) number ≡ open_marks basis past number
  pub booted : boots (event ∷ past) ≡ boots past
  pub raws : (entry raw : ℕ) → raw_of entry past ≡ Some raw → raw_of entry (event ∷ past) ≡ Some raw

pub passes-same : (basis : Basis) (first : List Seen) (past : List Event) (event : Event) (number : ℕ) → Passes basis past event number → SameOfBoard basis first past (event ∷ past) number
passes-same basis first past event number s =
    record {
      told = rw s.told (append-nil _);
      out = s.out;
      opened = s.opened;
      marks = s.marks;
      booted = λ h. rw s.booted at h;
      seen = rw s.same_tells refl;
      before = rw s.same_tells refl;
      began = rw (s.same_tells, s.told) refl;
      raws = s.raws;
      faults = rw s.faulty refl;
    }

-- A place stands on at an event that passes its board, where the board is home, and that tells no mark of
-- it and leaves it out, where it is out.
pub place-on : (basis : Basis) (first : List Seen) (past : List Event) (event : Event) (number : ℕ) (place : Place)
    → (is_out basis past number ≡ false → Passes basis past event number)
    → (is_out basis past number ≡ true → (told_by basis.facts (rows basis past) event number ≡ []) × (is_out basis (event ∷ past) number ≡ true))
    → PlaceStands basis first past number place → PlaceStands basis first (event ∷ past) number place
place-on basis first past event number place home out p = at place.board refl
  where
    at : (o : Option BoardState) → place.board ≡ o → PlaceStands basis first (event ∷ past) number place
    at (Some b) e =
        let h : BoardIsHome basis first past number (Some b) = subst (BoardIsHome basis first past number) e p.home in
        place-same basis first past (event ∷ past) number place (passes-same basis first past event number (home h.0)) p
    at None e =
        let h : BoardIsHome basis first past number None = subst (BoardIsHome basis first past number) e p.home in
        let k = out h in
        let same : told basis (event ∷ past) number ≡ told basis past number = rw k.0 (append-nil _) in
        record {
          told = p.told ∙ ap length (sym same);
          home = subst (BoardIsHome basis first (event ∷ past) number) (sym e) k.1;
        }

-- where a board isn't out, no live entry is on it
pub not-out : (p : LiveEntry → Bool) (entries : List LiveEntry) (entry : ℕ) (l : LiveEntry) → list_any p entries ≡ false → find (λ x. x.entry == entry) entries ≡ Some l → p l ≡ false
not-out p [] entry l h f = cc
not-out p (x ∷ xs) entry l h f =
    by_test (p x) _
    (λ t. let bad : true ≡ false = rw t at h in cc)
    (λ t. let rest : list_any p xs ≡ false = rw t at h in
    by_test (x.entry == entry) _
    (λ u. let f' : Some x ≡ Some l = rw u at f in let s : x ≡ l = cc in ap p (sym s) ∙ t)
    (λ u. not-out p xs entry l rest (rw u at f)))

pub out-other : (basis : Basis) (past : List Event) (number entry : ℕ) (l : LiveEntry) → is_out basis past number ≡ false → live_entry past entry ≡ Some l → is_board_of basis.facts (rows basis past) entry number ≡ false
out-other basis past number entry l h f =
    let same : l.entry ≡ entry = eqb-true l.entry entry (find-passes (λ x. x.entry == entry) (live past) l f) in
    ap (λ (e : ℕ). is_board_of basis.facts (rows basis past) e number) (sym same) ∙ not-out (λ x. is_board_of basis.facts (rows basis past) x.entry number) (live past) entry l h f

marks-at : (facts : Facts) (all : List Row) (o o' : Option OpenStep) → o ≡ o' → unwrap_or (option_map (λ s. marks s.op s.entry (digest_of all s.entry)) o) [] ≡ unwrap_or (option_map (λ s. marks s.op s.entry (digest_of all s.entry)) o') []
marks-at facts all o o' e = ap (λ (x : Option OpenStep). unwrap_or (option_map (λ s. marks s.op s.entry (digest_of all s.entry)) x) []) e

-- A start of a live entry passes each board that is home.
pub start-passes : (basis : Basis) (past : List Event) (client entry : ℕ) (op : Op) (l : LiveEntry) (number : ℕ) → live_entry past entry ≡ Some l → is_out basis past number ≡ false → Passes basis past (Event.Start client entry op) number
start-passes basis past client entry op l number f h =
    let other = out-other basis past number entry l h f in
    let opened : open_on basis (Event.Start client entry op ∷ past) number ≡ open_on basis past number =
    find-push_other (λ s. is_board_of basis.facts (rows basis past) s.entry number) (open_steps past) (record { client = client; entry = entry; op = op }) other in
    record {
      told = refl;
      same_tells = refl;
      faulty = refl;
      out = refl;
      opened = opened;
      marks = marks-at basis.facts (rows basis past) _ _ opened;
      booted = refl;
      raws = λ e raw r. r;
    }

pub start-place : (basis : Basis) (first : List Seen) (past : List Event) (client entry : ℕ) (op : Op) (l : LiveEntry) (number : ℕ) (place : Place) → live_entry past entry ≡ Some l → PlaceStands basis first past number place → PlaceStands basis first (Event.Start client entry op ∷ past) number place
start-place basis first past client entry op l number place f p =
    place-on basis first past (Event.Start client entry op) number place (λ h. start-passes basis past client entry op l number f h) (λ h. (refl, h)) p

other-board : (o : Option ℕ) (number : ℕ) (shown : Seen) → unwrap_or (option_map (λ b. b == number) o) false ≡ false → for_board o number shown ≡ None
other-board None number shown h = refl
other-board (Some b) number shown h = rw h refl

ended-well : (facts : Facts) (all : List Row) (number client entry : ℕ) (op : Op) (outcome : Result (Unit {0}) BoardFault) (told : List Mark) (shown : Seen) → is_board_of facts all entry number ≡ false → is_faulty_end facts all number (Event.End client entry op outcome told shown) ≡ false
ended-well facts all number client entry op (Ok unit) told shown h = refl
ended-well facts all number client entry op (Err fault) told shown h = h

-- The end of a step passes each board but that of its entry.
pub end-passes : (basis : Basis) (past : List Event) (client entry : ℕ) (op : Op) (outcome : Result (Unit {0}) BoardFault) (told : List Mark) (shown : Seen) (number : ℕ) → is_board_of basis.facts (rows basis past) entry number ≡ false → Passes basis past (Event.End client entry op outcome told shown) number
end-passes basis past client entry op outcome told shown number other =
    let opened : open_on basis (Event.End client entry op outcome told shown ∷ past) number ≡ open_on basis past number =
    find-filter (λ s. is_board_of basis.facts (rows basis past) s.entry number) (λ s. not (s.entry == entry)) (open_steps past)
    (λ s t. by_test (s.entry == entry) _
    (λ u. let same : s.entry ≡ entry = eqb-true s.entry entry u in
    let bad : is_board_of basis.facts (rows basis past) entry number ≡ true = ap (λ (e : ℕ). is_board_of basis.facts (rows basis past) e number) (sym same) ∙ t in cc)
    (λ u. rw u refl)) in
    record {
      told = rw other refl;
      same_tells = other-board (board_of basis.facts (rows basis past) entry) number shown other;
      faulty = ended-well basis.facts (rows basis past) number client entry op outcome told shown other;
      out = refl;
      opened = opened;
      marks = marks-at basis.facts (rows basis past) _ _ opened;
      booted = refl;
      raws = λ e raw r. r;
    }

-- So the place of another board stands on, and the place of its own board has that many more marks told.
pub end-place_other : (basis : Basis) (first : List Seen) (past : List Event) (client entry : ℕ) (op : Op) (outcome : Result (Unit {0}) BoardFault) (told : List Mark) (shown : Seen) (number : ℕ) (place : Place) → is_board_of basis.facts (rows basis past) entry number ≡ false → PlaceStands basis first past number place → PlaceStands basis first (Event.End client entry op outcome told shown ∷ past) number place
end-place_other basis first past client entry op outcome told shown number place other p =
    let s = end-passes basis past client entry op outcome told shown number other in
    place-on basis first past (Event.End client entry op outcome told shown) number place (λ h. s) (λ h. (s.told, h)) p
