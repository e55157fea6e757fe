-- What the end of a live entry leaves to be said of boards.
use Rattle.std.proofs.Common.{◌≡◌, ℕ, ◌≤◌, Bool, true, false, not, List, [], ◌∷◌, ◌++◌, length, refl, ap, sym, ◌∙◌, subst, inl, inr}
use Rattle.std.proofs.lemmas.List.{append-nil}
use Rattle.std.proofs.lemmas.Bool.{eqb-true}
use Rattle.std.specs.Prelude.{Option, Some, None, ◌==◌, Contains, find, filter, option_map, unwrap_or}
use Rattle.std.specs.List.{AllByRecursion, list_any}
use Rattle.daemon_core.proofs.ClaimOpen.{live-found}
use Rattle.emulated_boards.specs.Boards.{BoardState}
use Rattle.emulated_boards.specs.declared.mark.Mark.{Mark}
use Rattle.fw_facts.specs.declared.seen.Seen.{Seen}
use Rattle.history_keeper.specs.declared.row.Row.{Row}
use Rattle.history_keeper.specs.declared.row.RowState.{RowState}
use Rattle.history_keeper.specs.declared.change.Change.{Change}
use Rattle.history_keeper.specs.Histories.{IsHistory}
use Rattle.update_log.proofs.Lists.{All-map, by_test, eqb-self}
use Rattle.update_log.proofs.RowsKept.{board-fixed, fixed, fixed_row, map-fixed, with_state-fixed}
use Rattle.history_keeper.specs.Changes.{with_state}
use Rattle.update_log.specs.Holding.{is_live, live, live_entry, open_steps, without_entry}
use Rattle.update_log.specs.Known.{Basis, Fate, board_of, fate_stored, is_board_of, known, reason_of, row_of, rows, rows_by, seen, tells}
use Rattle.update_log.specs.Legal.{IsLegal, open_marks, open_on}
use Rattle.update_log.specs.Pasts.{boots, time_of}
use Rattle.update_log.specs.Shows.{Campaign, FreshShows, IsPrefix, RawAllowed, digest_of, marks, raw_of, told, told_by}
use Rattle.update_log.specs.declared.event.Back.{Back}
use Rattle.update_log.specs.declared.event.Event.{Event}
use Rattle.update_log.specs.declared.event.Stored.{Stored}
use Rattle.update_log.specs.declared.facts.Facts.{Facts}
use Rattle.update_log.specs.declared.live.LiveEntry.{LiveEntry}
use Rattle.update_log.specs.declared.live.OpenStep.{OpenStep}
use Rattle.daemon_core.proofs.ClaimAlone.{alone-on}
use Rattle.daemon_core.proofs.ClaimBoards.{Passes, place-on}
use Rattle.daemon_core.specs.Boards.{BoardStands, PlaceStands, faulty_ends, is_faulty_end, is_out}
use Rattle.daemon_core.specs.Housed.{Place}

-- The event ends a live entry. It tells nothing of a board, and leaves each row's board and digest.
pub record Ends (basis : Basis) (past : List Event) (event : Event) (entry : ℕ) : Type 0 where
  pub lives : live (event ∷ past) ≡ without_entry entry (live past)
  pub steps : open_steps (event ∷ past) ≡ open_steps past
  pub board : (e : ℕ) → board_of basis.facts (rows basis (event ∷ past)) e ≡ board_of basis.facts (rows basis past) e
  pub digest : (e : ℕ) → digest_of (rows basis (event ∷ past)) e ≡ digest_of (rows basis past) e
  pub told : (number : ℕ) → told_by basis.facts (rows basis past) event number ≡ []
  pub same_tells : (number : ℕ) → tells basis.facts (live past) (known basis past) event number ≡ None
  pub faulty : (number : ℕ) → is_faulty_end basis.facts (rows basis past) number event ≡ false
  pub booted : boots (event ∷ past) ≡ boots past
  pub raws : (e raw : ℕ) → raw_of e past ≡ Some raw → raw_of e (event ∷ past) ≡ Some raw

is-board : (facts : Facts) (old new : List Row) (e number : ℕ) → board_of facts new e ≡ board_of facts old e → is_board_of facts new e number ≡ is_board_of facts old e number
is-board facts old new e number h = ap (λ (o : Option ℕ). unwrap_or (option_map (λ b. b == number) o) false) h

-- what passes a test in a filtered list, where what was filtered away doesn't
any-left : {X : Type 0} (p p' q : X → Bool) (xs : List X) → ((x : X) → p' x ≡ p x) → ((x : X) → q x ≡ false → p x ≡ false) → list_any p' (filter q xs) ≡ list_any p xs
any-left p p' q [] s h = refl
any-left p p' q (x ∷ xs) s h =
    let rest : list_any p' (filter q xs) ≡ list_any p xs = any-left p p' q xs s h in
    by_test (q x) _
    (λ t. rw (t, s x, rest) refl)
    (λ t. rw (t, h x t) rest)

any-none : {X : Type 0} (p p' q : X → Bool) (xs : List X) → ((x : X) → p' x ≡ p x) → AllByRecursion (λ x. q x ≡ true → p x ≡ false) xs → list_any p' (filter q xs) ≡ false
any-none p p' q [] s a = refl
any-none p p' q (x ∷ xs) s a =
    let rest : list_any p' (filter q xs) ≡ false = any-none p p' q xs s a.1 in
    by_test (q x) _
    (λ t. let none : p' x ≡ false = s x ∙ a.0 t in rw (t, none) rest)
    (λ t. rw t rest)

find-alike : {X : Type 0} (p p' : X → Bool) (xs : List X) → ((x : X) → p' x ≡ p x) → find p' xs ≡ find p xs
find-alike p p' [] s = refl
find-alike p p' (x ∷ xs) s = let rest : find p' xs ≡ find p xs = find-alike p p' xs s in rw (s x, rest) refl

-- the marks of an open step, with the same digests
marks-alike : (old new : List Row) (o : Option OpenStep) → ((e : ℕ) → digest_of new e ≡ digest_of old e) → unwrap_or (option_map (λ s. marks s.op s.entry (digest_of new s.entry)) o) [] ≡ unwrap_or (option_map (λ s. marks s.op s.entry (digest_of old s.entry)) o) []
marks-alike old new None h = refl
marks-alike old new (Some s) h = ap (λ (d : List ℕ). marks s.op s.entry d) (h s.entry)

pub ends-opened : (basis : Basis) (past : List Event) (event : Event) (entry number : ℕ) → Ends basis past event entry → open_on basis (event ∷ past) number ≡ open_on basis past number
ends-opened basis past event entry number k =
    ap (find (λ s. is_board_of basis.facts (rows basis (event ∷ past)) s.entry number)) k.steps
    ∙ find-alike (λ s. is_board_of basis.facts (rows basis past) s.entry number) (λ s. is_board_of basis.facts (rows basis (event ∷ past)) s.entry number) (open_steps past)
    (λ s. is-board basis.facts (rows basis past) (rows basis (event ∷ past)) s.entry number (k.board s.entry))

pub ends-marks : (basis : Basis) (past : List Event) (event : Event) (entry number : ℕ) → Ends basis past event entry → open_marks basis (event ∷ past) number ≡ open_marks basis past number
ends-marks basis past event entry number k =
    ap (λ (o : Option OpenStep). unwrap_or (option_map (λ s. marks s.op s.entry (digest_of (rows basis (event ∷ past)) s.entry)) o) []) (ends-opened basis past event entry number k)
    ∙ marks-alike (rows basis past) (rows basis (event ∷ past)) (open_on basis past number) k.digest

-- Such an event passes each board but that of its entry.
pub ends-passes : (basis : Basis) (past : List Event) (event : Event) (entry number : ℕ) → Ends basis past event entry → is_board_of basis.facts (rows basis past) entry number ≡ false → Passes basis past event number
ends-passes basis past event entry number k other =
    record {
      told = k.told number;
      same_tells = k.same_tells number;
      faulty = k.faulty number;
      out = ap (list_any (λ l. is_board_of basis.facts (rows basis (event ∷ past)) l.entry number)) k.lives
          ∙ any-left (λ l. is_board_of basis.facts (rows basis past) l.entry number) (λ l. is_board_of basis.facts (rows basis (event ∷ past)) l.entry number) (λ l. not (l.entry == entry)) (live past)
          (λ l. is-board basis.facts (rows basis past) (rows basis (event ∷ past)) l.entry number (k.board l.entry))
          (λ l h. ap (λ (e : ℕ). is_board_of basis.facts (rows basis past) e number) (eqb-true l.entry entry (not-false (l.entry == entry) h)) ∙ other);
      opened = ends-opened basis past event entry number k;
      marks = ends-marks basis past event entry number k;
      booted = k.booted;
      raws = k.raws;
    }
  where
    not-false : (b : Bool) → not b ≡ false → b ≡ true
    not-false true h = refl
    not-false false h = cc

-- each live entry is live
each-live : (entries : List LiveEntry) → AllByRecursion (λ l. is_live entries l.entry ≡ true) entries
each-live [] = tt
each-live (x ∷ xs) = (
  rw (eqb-self x.entry) refl,
  All-map (λ l. is_live xs l.entry ≡ true) (λ l. is_live (x ∷ xs) l.entry ≡ true) xs (each-live xs) (λ l h. by_test (x.entry == l.entry) _ (λ t. rw t refl) (λ t. rw t h)),
)

-- Then the board of the entry is out no more.
pub ends-out : (c : Campaign) (past : List Event) (event : Event) (entry number : ℕ) (l : LiveEntry) → IsHistory c.basis.opening → IsLegal c past → Ends c.basis past event entry → live_entry past entry ≡ Some l → is_board_of c.basis.facts (rows c.basis past) entry number ≡ true
    → is_out c.basis (event ∷ past) number ≡ false
ends-out c past event entry number l v legal k found own =
    ap (list_any (λ m. is_board_of c.basis.facts (rows c.basis (event ∷ past)) m.entry number)) k.lives
    ∙ any-none (λ m. is_board_of c.basis.facts (rows c.basis past) m.entry number) (λ m. is_board_of c.basis.facts (rows c.basis (event ∷ past)) m.entry number) (λ m. not (m.entry == entry)) (live past)
    (λ m. is-board c.basis.facts (rows c.basis past) (rows c.basis (event ∷ past)) m.entry number (k.board m.entry))
    (All-map (λ m. is_live (live past) m.entry ≡ true) (λ m. not (m.entry == entry) ≡ true → is_board_of c.basis.facts (rows c.basis past) m.entry number ≡ false) (live past) (each-live (live past)) (λ m lm d. none m lm d))
  where
    none : (m : LiveEntry) → is_live (live past) m.entry ≡ true → not (m.entry == entry) ≡ true → is_board_of c.basis.facts (rows c.basis past) m.entry number ≡ false
    none m lm d =
        by_test (is_board_of c.basis.facts (rows c.basis past) m.entry number) _
        (λ t. absurd (alone-on c past number m.entry entry v legal lm (live-found (live past) entry l found) t own
        (λ s. let e : (m.entry == entry) ≡ true = rw s (eqb-self entry) in let bad : not true ≡ true = rw e at d in cc)))
        (λ t. t)

raw-on : (basis : Basis) (first : List Seen) (past : List Event) (event : Event) (entry number : ℕ) (marks : List Mark) (raw : ℕ) → Ends basis past event entry
    → RawAllowed basis first past number marks raw → RawAllowed basis first (event ∷ past) number marks raw
raw-on basis first past event entry number marks raw k (inl h) = inl (rw (k.same_tells number) h)
raw-on basis first past event entry number marks raw k (inr (inl h)) =
    inr (inl (h.0, rw (k.same_tells number, k.told number) h.1))
raw-on basis first past event entry number marks raw k (inr (inr w)) =
    let same : told basis (event ∷ past) number ≡ told basis past number = rw (k.told number) (append-nil _) in
    inr (inr (w.0, w.1, subst (λ (x : List Mark). Contains (x ++ marks) (Mark.Ended w.0 w.1)) (sym same) w.2, k.raws w.0 raw w.3))

fresh-on : (basis : Basis) (first : List Seen) (past : List Event) (event : Event) (entry number : ℕ) (marks : List Mark) (shown : Seen) → Ends basis past event entry
    → FreshShows basis first past number marks shown → FreshShows basis first (event ∷ past) number marks shown
fresh-on basis first past event entry number marks shown k f =
    record { raw = λ raw mode e. raw-on basis first past event entry number marks raw k (f.raw raw mode e); mode = f.mode }

-- A board that stands to the log before stands to the log with it.
pub ends-stands : (basis : Basis) (first : List Seen) (past : List Event) (event : Event) (entry number : ℕ) (b : BoardState) (tail : List Mark) → Ends basis past event entry → BoardStands basis first past number b tail → BoardStands basis first (event ∷ past) number b tail
ends-stands basis first past event entry number b tail k s =
    let same : told basis (event ∷ past) number ≡ told basis past number = rw (k.told number) (append-nil _) in
    let opened = ends-opened basis past event entry number k in
    let shown : seen basis (event ∷ past) number ≡ seen basis past number = rw (k.same_tells number) refl in
    let ended : faulty_ends basis (event ∷ past) number ≡ faulty_ends basis past number = rw (k.faulty number) refl in
    record {
      fits = record {
        journal = record {
          told_and_tail = s.fits.journal.told_and_tail ∙ ap (λ (x : List Mark). x ++ tail) (sym same);
          tail_is = subst (λ (x : List Mark). IsPrefix tail x) (sym (ends-marks basis past event entry number k)) s.fits.journal.tail_is;
        };
        view = λ n z. s.fits.view (sym opened ∙ n) (rw k.booted at z) ∙ sym shown;
        unwritten = s.fits.unwritten;
      };
      boots = λ absent. fresh-on basis first past event entry number tail _ k (s.boots absent);
      plugs = λ n. fresh-on basis first past event entry number [] _ k (s.plugs (sym opened ∙ n));
      staged = λ image e. let w = s.staged image e in (w.0, w.1, w.2, k.raws w.0 (unwrap_or image.raw 0) w.3);
      faults = subst (λ (n : ℕ). n ≤ b.faults) (sym ended) s.faults;
    }

-- The place of another board stands on.
pub ends-other : (basis : Basis) (first : List Seen) (past : List Event) (event : Event) (entry number : ℕ) (place : Place) → Ends basis past event entry → is_board_of basis.facts (rows basis past) entry number ≡ false → PlaceStands basis first past number place → PlaceStands basis first (event ∷ past) number place
ends-other basis first past event entry number place k other p =
    let s = ends-passes basis past event entry number k other in
    place-on basis first past event number place (λ h. s) (λ h. (k.told number, s.out ∙ h)) p

-- The place of its own board stands with the board that came home, which stood to the log before.
pub ends-own : (c : Campaign) (past : List Event) (event : Event) (entry number : ℕ) (l : LiveEntry) (place : Place) (b : BoardState) (tail : List Mark) → IsHistory c.basis.opening → IsLegal c past → Ends c.basis past event entry → live_entry past entry ≡ Some l → is_board_of c.basis.facts (rows c.basis past) entry number ≡ true
    → BoardStands c.basis c.first past number b tail → PlaceStands c.basis c.first past number place → PlaceStands c.basis c.first (event ∷ past) number (record place { board = Some b })
ends-own c past event entry number l place b tail v legal k found own s p =
    let same : told c.basis (event ∷ past) number ≡ told c.basis past number = rw (k.told number) (append-nil _) in
    record {
      told = p.told ∙ ap length (sym same);
      home = (ends-out c past event entry number l v legal k found own, (tail, ends-stands c.basis c.first past event entry number b tail k s));
    }

-- A finish is such an event.

advanced-fixed : (fate : Fate) (entry : ℕ) (state : RowState) (reason time : ℕ) (all : List Row) (e : ℕ) → fixed_row (rows_by fate (Some (Change.Advance entry state reason time)) all) e ≡ fixed_row all e
advanced-fixed Fate.Made entry state reason time all e = map-fixed (with_state entry state reason time) all e (with_state-fixed entry state reason time)
advanced-fixed Fate.Doubtful entry state reason time all e = refl
advanced-fixed Fate.Dropped entry state reason time all e = refl

pub digest-fixed : (old new : List Row) (e : ℕ) → fixed_row new e ≡ fixed_row old e → digest_of new e ≡ digest_of old e
digest-fixed old new e h = at (row_of new e) ∙ ap (λ (o : Option Row). unwrap_or (option_map (λ r. r.digest) o) []) h ∙ sym (at (row_of old e))
  where
    at : (o : Option Row) → unwrap_or (option_map (λ r. r.digest) o) [] ≡ unwrap_or (option_map (λ r. r.digest) (option_map fixed o)) []
    at None = refl
    at (Some r) = refl

pub finish-ends : (basis : Basis) (past : List Event) (client entry : ℕ) (state : RowState) (stored : Stored) → Ends basis past (Event.Finish client entry state stored) entry
finish-ends basis past client entry state stored =
    let f : (e : ℕ) → fixed_row (rows basis (Event.Finish client entry state stored ∷ past)) e ≡ fixed_row (rows basis past) e =
    advanced-fixed (fate_stored stored) entry state (reason_of (rows basis past) entry) (time_of past) (rows basis past) in
    record {
      lives = refl;
      steps = refl;
      board = λ e. board-fixed basis.facts (rows basis past) (rows basis (Event.Finish client entry state stored ∷ past)) e (f e);
      digest = λ e. digest-fixed (rows basis past) (rows basis (Event.Finish client entry state stored ∷ past)) e (f e);
      told = λ n. refl;
      same_tells = λ n. refl;
      faulty = λ n. refl;
      booted = refl;
      raws = λ e raw h. h;
    }

-- So is the giving back of one.
pub back-ends : (basis : Basis) (past : List Event) (client entry : ℕ) → Ends basis past (Event.GiveBack client (Back.Entry entry)) entry
back-ends basis past client entry =
    record { lives = refl; steps = refl; board = λ e. refl; digest = λ e. refl; told = λ n. refl; same_tells = λ n. refl; faulty = λ n. refl; booted = refl; raws = λ e raw h. h }
