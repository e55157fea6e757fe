-- A board that goes out with an entry that is taken.
use Rattle.std.proofs.Common.{◌≡◌, ◌≢◌, ℕ, ◌<◌, ◌≤◌, Bool, true, false, List, [], ◌∷◌, ◌++◌, length, refl, ap, sym, ◌∙◌, subst, ◌⊎◌, inl, inr}
use Rattle.std.proofs.lemmas.List.{append-nil}
use Rattle.std.specs.Prelude.{Some, None, Contains, slice_get, unwrap_or}
use Rattle.std.specs.List.{list_any}
use Rattle.daemon_core.proofs.MovesBack.{home-closed_so, prefix-none}
use Rattle.emulated_boards.specs.Boards.{BoardState}
use Rattle.emulated_boards.specs.declared.mark.Mark.{Mark}
use Rattle.fw_facts.specs.declared.seen.Seen.{Seen}
use Rattle.history_keeper.specs.Histories.{IsHistory}
use Rattle.update_log.proofs.Lists.{All-map, by_test}
use Rattle.update_log.proofs.RowsKept.{GoesOn}
use Rattle.update_log.proofs.StepsKept.{LiveKept}
use Rattle.update_log.specs.Holding.{live, open_steps}
use Rattle.update_log.specs.Known.{Basis, board_of, is_board_of, known, rows, seen, tells}
use Rattle.update_log.specs.Legal.{open_marks}
use Rattle.update_log.specs.Pasts.{boots, off}
use Rattle.update_log.specs.Shows.{FreshShows, IsPrefix, RawAllowed, told, told_by}
use Rattle.update_log.specs.declared.event.Event.{Event}
use Rattle.update_log.specs.declared.live.LiveEntry.{LiveEntry}
use Rattle.daemon_core.proofs.BoardsQuiet.{any-same, goes-so, is-board-kept, kept-so, legal-before, open-kept, open-marks-kept, raws-stay}
use Rattle.daemon_core.proofs.ClaimEnds.{get-set, other-number, place-found, own-board}
use Rattle.daemon_core.proofs.PlacesKept.{SameOfBoard, place-same}
use Rattle.daemon_core.specs.HouseLog.{IsLegalSo}
use Rattle.daemon_core.specs.Boards.{BoardStands, PlaceStands, faulty_ends, is_faulty_end, is_out}
use Rattle.daemon_core.specs.Claims.{places_without}
use Rattle.daemon_core.specs.Housed.{Place}
use Rattle.daemon_core.specs.Returns.{place_at}

-- The event takes an entry on a board, and tells nothing of any board.
pub record Takes (basis : Basis) (past : List Event) (event : Event) (entry number : ℕ) : Type 0 where
  pub taken : LiveEntry
  pub taken_is : taken.entry ≡ entry
  pub lives : live (event ∷ past) ≡ live past ++ taken ∷ []
  pub steps : open_steps (event ∷ past) ≡ open_steps past
  pub board : board_of basis.facts (rows basis (event ∷ past)) entry ≡ Some number
  pub told_none : (n : ℕ) → told_by basis.facts (rows basis past) event n ≡ []
  pub same_tells : (n : ℕ) → tells basis.facts (live past) (known basis past) event n ≡ None
  pub faulty : (n : ℕ) → is_faulty_end basis.facts (rows basis past) n event ≡ false
  pub booted : boots (event ∷ past) ≡ boots past

any-last : {X : Type 0} (p : X → Bool) (xs : List X) (x : X) → p x ≡ true → list_any p (xs ++ x ∷ []) ≡ true
any-last p [] x h = rw h refl
any-last p (y ∷ ys) x h = let rest : list_any p (ys ++ x ∷ []) ≡ true = any-last p ys x h in by_test (p y) _ (λ t. rw t refl) (λ t. rw t rest)

pub any-but_last : {X : Type 0} (p : X → Bool) (xs : List X) (x : X) → p x ≡ false → list_any p (xs ++ x ∷ []) ≡ list_any p xs
any-but_last p [] x h = rw h refl
any-but_last p (y ∷ ys) x h = let rest : list_any p (ys ++ x ∷ []) ≡ list_any p ys = any-but_last p ys x h in by_test (p y) _ (λ t. rw t refl) (λ t. rw t rest)

module _ (basis : Basis) (first : List Seen) (past : List Event) (event : Event) (valid : IsHistory basis.opening) (legal : IsLegalSo basis first (event ∷ past)) (entry number : ℕ) (k : Takes basis past event entry number) where
  goes : GoesOn (rows basis past) (rows basis (event ∷ past))
  goes = goes-so basis first past event valid legal

  -- The board is out then.
  pub takes-out : is_out basis (event ∷ past) number ≡ true
  takes-out =
      ap (list_any (λ x. is_board_of basis.facts (rows basis (event ∷ past)) x.entry number)) k.lives
      ∙ any-last (λ x. is_board_of basis.facts (rows basis (event ∷ past)) x.entry number) (live past) k.taken
      (ap (λ (e : ℕ). is_board_of basis.facts (rows basis (event ∷ past)) e number) k.taken_is ∙ own-board basis.facts (rows basis (event ∷ past)) entry number k.board)

  -- Another board is out as before.
  pub takes-out_other : (m : ℕ) → m ≢ number → is_out basis (event ∷ past) m ≡ is_out basis past m
  takes-out_other m n =
      let w = kept-so basis first past valid (legal-before basis first past event legal) in
      ap (list_any (λ x. is_board_of basis.facts (rows basis (event ∷ past)) x.entry m)) k.lives
      ∙ any-but_last (λ x. is_board_of basis.facts (rows basis (event ∷ past)) x.entry m) (live past) k.taken
      (ap (λ (e : ℕ). is_board_of basis.facts (rows basis (event ∷ past)) e m) k.taken_is ∙ other-number basis.facts (rows basis (event ∷ past)) entry number m k.board n)
      ∙ any-same (λ x. is_board_of basis.facts (rows basis (event ∷ past)) x.entry m) (λ x. is_board_of basis.facts (rows basis past) x.entry m) (live past)
      (All-map (LiveKept basis past) _ (live past) w.steps.live_is (λ x u. is-board-kept basis.facts _ _ x.entry m goes u.known))

  takes-told : (m : ℕ) → told basis (event ∷ past) m ≡ told basis past m
  takes-told m = rw (k.told_none m) (append-nil _)

  -- The place of another board stands on.
  pub takes-other : (m : ℕ) (place : Place) → m ≢ number → PlaceStands basis first past m place → PlaceStands basis first (event ∷ past) m place
  takes-other m place n p =
      let opened = open-kept basis first past event valid legal m k.steps in
      let same : SameOfBoard basis first past (event ∷ past) m =
      record {
        told = takes-told m;
        out = takes-out_other m n;
        opened = opened;
        marks = open-marks-kept basis first past event valid legal m opened;
        booted = λ h. rw k.booted at h;
        seen = rw (k.same_tells m) refl;
        before = rw (k.same_tells m) refl;
        began = rw (k.same_tells m, k.told_none m) refl;
        raws = raws-stay basis first past event valid legal;
        faults = rw (k.faulty m) refl;
      } in
      place-same basis first past (event ∷ past) m place same p

  -- The place of its own board stands without the board.
  pub takes-own : (place : Place) → PlaceStands basis first past number place → PlaceStands basis first (event ∷ past) number (record place { board = None })
  takes-own place p = record { told = p.told ∙ ap length (sym (takes-told number)); home = takes-out }

  takes-raw : (marks : List Mark) (raw : ℕ) → RawAllowed basis first past number marks raw → RawAllowed basis first (event ∷ past) number marks raw
  takes-raw marks raw (inl h) = inl (rw (k.same_tells number) h)
  takes-raw marks raw (inr (inl h)) = inr (inl (h.0, rw (k.same_tells number, k.told_none number) h.1))
  takes-raw marks raw (inr (inr w)) =
      inr (inr (w.0, w.1, subst (λ (x : List Mark). Contains (x ++ marks) (Mark.Ended w.0 w.1)) (sym (takes-told number)) w.2, raws-stay basis first past event valid legal w.0 raw w.3))

  takes-fresh : (marks : List Mark) (shown : Seen) → FreshShows basis first past number marks shown → FreshShows basis first (event ∷ past) number marks shown
  takes-fresh marks shown f = record { raw = λ raw mode e. takes-raw marks raw (f.raw raw mode e); mode = f.mode }

  -- The board that goes out stands to the log as before.
  pub takes-stands : (b : BoardState) (tail : List Mark) → BoardStands basis first past number b tail → BoardStands basis first (event ∷ past) number b tail
  takes-stands b tail s =
      let opened = open-kept basis first past event valid legal number k.steps in
      let shown : seen basis (event ∷ past) number ≡ seen basis past number = rw (k.same_tells number) refl in
      let ended : faulty_ends basis (event ∷ past) number ≡ faulty_ends basis past number = rw (k.faulty number) refl in
      record {
        fits = record {
          journal = record {
            told_and_tail = s.fits.journal.told_and_tail ∙ ap (λ (x : List Mark). x ++ tail) (sym (takes-told number));
            tail_is = subst (λ (x : List Mark). IsPrefix tail x) (sym (open-marks-kept basis first past event valid legal number opened)) s.fits.journal.tail_is;
          };
          view = λ n z. s.fits.view (sym opened ∙ n) (rw k.booted at z) ∙ sym shown;
          unwritten = s.fits.unwritten;
        };
        boots = λ absent. takes-fresh tail _ (s.boots absent);
        plugs = λ n. takes-fresh [] _ (s.plugs (sym opened ∙ n));
        staged = λ image e. let w = s.staged image e in (w.0, w.1, w.2, raws-stay basis first past event valid legal w.0 (unwrap_or image.raw 0) w.3);
        faults = subst (λ (n : ℕ). n ≤ b.faults) (sym ended) s.faults;
      }

  -- So all places stand.
  pub takes-places : (places : List Place) → number < length places → ((m : ℕ) (place : Place) → slice_get places m ≡ Some place → PlaceStands basis first past m place)
      → (m : ℕ) (place : Place) → slice_get (places_without places number) m ≡ Some place → PlaceStands basis first (event ∷ past) m place
  takes-places places within stand m place e = at (get-set places number m (record (place_at places number) { board = None }) place e)
    where
      at : ((m ≡ number) × (record (place_at places number) { board = None } ≡ place)) ⊎ ((m ≢ number) × (slice_get places m ≡ Some place)) → PlaceStands basis first (event ∷ past) m place
      at (inl h) =
          subst (λ (n : ℕ). PlaceStands basis first (event ∷ past) n place) (sym h.0)
          (subst (λ (p : Place). PlaceStands basis first (event ∷ past) number p) h.1
          (takes-own (place_at places number) (stand number (place_at places number) (place-found places number within))))
      at (inr h) = takes-other m place h.0 (stand m place h.1)

pub home-tail : (basis : Basis) (first : List Seen) (past : List Event) (number : ℕ) (b : BoardState) (tail : List Mark) → IsLegalSo basis first past → off past ≡ false → is_out basis past number ≡ false → BoardStands basis first past number b tail → BoardStands basis first past number b []
home-tail basis first past number b tail legal o h s =
    let c = home-closed_so basis first past number legal o h in
    let none : open_marks basis past number ≡ [] = rw c refl in
    subst (λ (t : List Mark). BoardStands basis first past number b t) (prefix-none tail (open_marks basis past number) none s.fits.journal.tail_is) s
