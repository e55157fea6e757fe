-- Events that say nothing of any board.
use Rattle.std.proofs.Common.{◌≡◌, ℕ, Bool, false, ◌≤◌, List, [], ◌∷◌, refl, ap, sym, ◌∙◌, ◌⊎◌, inl, inr, arith, length}
use Rattle.std.proofs.lemmas.List.{append-nil}
use Rattle.std.specs.Prelude.{Option, Some, None, find, ◌==◌, option_map, unwrap_or}
use Rattle.std.specs.List.{AllByRecursion, list_any}
use Rattle.fw_facts.specs.declared.seen.Seen.{Seen}
use Rattle.history_keeper.specs.Histories.{IsHistory}
use Rattle.history_keeper.specs.declared.row.Row.{Row}
use Rattle.update_log.proofs.LegalOnce.{PastKept, past-kept}
use Rattle.update_log.proofs.Lists.{All-find, All-map, by_test}
use Rattle.update_log.proofs.RowsKept.{GoesOn, board-fixed, fixed, goes_on-fixed, rows-step}
use Rattle.update_log.proofs.StepsKept.{LiveKept, OpenKept, not-fresh}
use Rattle.update_log.proofs.TakenKept.{Taken, TakenKept, taken-at_most}
use Rattle.update_log.specs.declared.answer.ClaimAnswer.{ClaimAnswer}
use Rattle.update_log.specs.declared.answer.ResumeAnswer.{ResumeAnswer}
use Rattle.update_log.specs.declared.event.Event.{Event}
use Rattle.update_log.specs.declared.facts.Facts.{Facts}
use Rattle.update_log.specs.declared.live.OpenStep.{OpenStep}
use Rattle.update_log.specs.Holding.{live, open_steps}
use Rattle.update_log.specs.Known.{Basis, is_board_of, known, row_of, rows, tells}
use Rattle.update_log.specs.Legal.{open_marks, open_on}
use Rattle.update_log.specs.Once.{how_many, strokes, takes}
use Rattle.update_log.specs.Pasts.{is_boot}
use Rattle.update_log.specs.Shows.{campaign_on, digest_of, marks, raw_of, told_by}
use Rattle.daemon_core.proofs.PlacesKept.{SameOfBoard}
use Rattle.daemon_core.specs.Boards.{is_faulty_end, is_out}
use Rattle.daemon_core.specs.HouseLog.{IsLegalSo}

-- what a legal past keeps
pub kept-so : (basis : Basis) (first : List Seen) (past : List Event) → IsHistory basis.opening → IsLegalSo basis first past → PastKept basis past
kept-so basis first past valid (plans, legal) = past-kept (campaign_on basis first plans) past valid legal

-- and how its rows go on
pub goes-so : (basis : Basis) (first : List Seen) (past : List Event) (event : Event) → IsHistory basis.opening → IsLegalSo basis first (event ∷ past) → GoesOn (rows basis past) (rows basis (event ∷ past))
goes-so basis first past event valid (plans, legal) =
    let k = past-kept (campaign_on basis first plans) past valid legal.0 in
    (rows-step (campaign_on basis first plans) past event k.rows_kept legal.1 legal.2).goes_on

-- the log without its last event
pub legal-before : (basis : Basis) (first : List Seen) (past : List Event) (event : Event) → IsLegalSo basis first (event ∷ past) → IsLegalSo basis first past
legal-before basis first past event (plans, legal) = (plans, legal.0)

-- two tests that agree on all elements
pub any-same : {X : Type 0} (p q : X → Bool) (xs : List X) → AllByRecursion (λ x. p x ≡ q x) xs → list_any p xs ≡ list_any q xs
any-same p q [] a = refl
any-same p q (x ∷ xs) a = let rest : list_any p xs ≡ list_any q xs = any-same p q xs a.1 in rw (a.0, rest) refl

pub find-same : {X : Type 0} (p q : X → Bool) (xs : List X) → AllByRecursion (λ x. p x ≡ q x) xs → find p xs ≡ find q xs
find-same p q [] a = refl
find-same p q (x ∷ xs) a = let rest : find p xs ≡ find q xs = find-same p q xs a.1 in rw (a.0, rest) refl

-- an open step's entry is that of a row
pub open-known : (basis : Basis) (past : List Event) (s : OpenStep) → TakenKept basis past → OpenKept past s → s.entry ≤ length (rows basis past)
open-known basis past s t w = at (t.begun s.entry)
  where
    at : (strokes s.entry past ≡ []) ⊎ Taken basis past s.entry → s.entry ≤ length (rows basis past)
    at (inl e) = absurd (not-fresh (strokes s.entry past) s.op w.rest w.started e)
    at (inr k) = k.known

-- the board of an entry stays
pub is-board-kept : (facts : Facts) (old new : List Row) (entry number : ℕ) → GoesOn old new → entry ≤ length old → is_board_of facts new entry number ≡ is_board_of facts old entry number
is-board-kept facts old new entry number g k =
    ap (λ o. unwrap_or (option_map (λ b. b == number) o) false) (board-fixed facts old new entry (goes_on-fixed old new entry g k))

-- and its digest
pub digest-kept : (old new : List Row) (entry : ℕ) → GoesOn old new → entry ≤ length old → digest_of new entry ≡ digest_of old entry
digest-kept old new entry g k = at (row_of new entry) ∙ ap (λ o. unwrap_or (option_map (λ r. r.digest) o) []) (goes_on-fixed old new entry g k) ∙ sym (at (row_of old entry))
  where
    at : (o : Option Row) → unwrap_or (option_map (λ r. r.digest) o) [] ≡ unwrap_or (option_map (λ r. r.digest) (option_map fixed o)) []
    at None = refl
    at (Some r) = refl

-- a payload was fetched only for an entry that was taken
pub raw-taken : (past : List Event) (entry raw : ℕ) → raw_of entry past ≡ Some raw → 1 ≤ how_many (takes entry) past
raw-taken [] entry raw h = cc
raw-taken (Event.Claim client request fetched (ClaimAnswer.Entry taken) ∷ past) entry raw h =
    by_test (taken == entry) _
    (λ t. rw t (omega arith))
    (λ f. let h' : raw_of entry past ≡ Some raw = rw f at h in rw f (raw-taken past entry raw h'))
raw-taken (Event.Resume client taken fetched ResumeAnswer.Begun stored ∷ past) entry raw h =
    by_test (taken == entry) _
    (λ t. rw t (omega arith))
    (λ f. let h' : raw_of entry past ≡ Some raw = rw f at h in rw f (raw-taken past entry raw h'))
raw-taken (_ ∷ past) entry raw h = raw-taken past entry raw h

-- what was fetched for an entry stays, since none is taken twice
pub raw-stays : (basis : Basis) (past : List Event) (event : Event) (entry raw : ℕ) → TakenKept basis (event ∷ past) → raw_of entry past ≡ Some raw → raw_of entry (event ∷ past) ≡ Some raw
raw-stays basis past event entry raw t h =
    by_test (takes entry event) _
    (λ u. let most : how_many (takes entry) (event ∷ past) ≤ 1 = taken-at_most basis (event ∷ past) entry t in
    let least : 1 ≤ how_many (takes entry) past = raw-taken past entry raw h in
    let many = rw u at most in absurd (omega (arith, many, least)))
    (λ f. other event f)
  where
    other : (event : Event) → takes entry event ≡ false → raw_of entry (event ∷ past) ≡ Some raw
    other (Event.Claim client request fetched (ClaimAnswer.Entry taken)) f = let g : (taken == entry) ≡ false = f in rw g h
    other (Event.Resume client taken fetched ResumeAnswer.Begun stored) f = let g : (taken == entry) ≡ false = f in rw g h
    other _ f = h

module _ (basis : Basis) (first : List Seen) (past : List Event) (event : Event) (valid : IsHistory basis.opening) (legal : IsLegalSo basis first (event ∷ past)) where
  old : PastKept basis past
  old = kept-so basis first past valid (legal-before basis first past event legal)

  new : PastKept basis (event ∷ past)
  new = kept-so basis first (event ∷ past) valid legal

  goes : GoesOn (rows basis past) (rows basis (event ∷ past))
  goes = goes-so basis first past event valid legal

  pub raws-stay : (entry raw : ℕ) → raw_of entry past ≡ Some raw → raw_of entry (event ∷ past) ≡ Some raw
  raws-stay entry raw = raw-stays basis past event entry raw new.taken

  -- the same entries are live on a board, where the same ones are live
  pub out-kept : (number : ℕ) → live (event ∷ past) ≡ live past → is_out basis (event ∷ past) number ≡ is_out basis past number
  out-kept number l =
      rw l (any-same (λ x. is_board_of basis.facts (rows basis (event ∷ past)) x.entry number) (λ x. is_board_of basis.facts (rows basis past) x.entry number) (live past)
      (All-map (LiveKept basis past) _ (live past) old.steps.live_is (λ x w. is-board-kept basis.facts _ _ x.entry number goes w.known)))

  -- the same step is open on it, where the same ones are open
  pub open-kept : (number : ℕ) → open_steps (event ∷ past) ≡ open_steps past → open_on basis (event ∷ past) number ≡ open_on basis past number
  open-kept number o =
      rw o (find-same (λ x. is_board_of basis.facts (rows basis (event ∷ past)) x.entry number) (λ x. is_board_of basis.facts (rows basis past) x.entry number) (open_steps past)
      (All-map (OpenKept past) _ (open_steps past) old.steps.open_are (λ x w. is-board-kept basis.facts _ _ x.entry number goes (open-known basis past x old.taken w))))

  -- and has the same marks
  pub open-marks-kept : (number : ℕ) → open_on basis (event ∷ past) number ≡ open_on basis past number → open_marks basis (event ∷ past) number ≡ open_marks basis past number
  open-marks-kept number o = rw o (at (open_on basis past number) refl)
    where
      at : (x : Option OpenStep) → open_on basis past number ≡ x
          → unwrap_or (option_map (λ s. marks s.op s.entry (digest_of (rows basis (event ∷ past)) s.entry)) x) []
          ≡ unwrap_or (option_map (λ s. marks s.op s.entry (digest_of (rows basis past) s.entry)) x) []
      at None e = refl
      at (Some s) e =
          let w : OpenKept past s = All-find (OpenKept past) (λ x. is_board_of basis.facts (rows basis past) x.entry number) (open_steps past) s old.steps.open_are e in
          ap (λ d. marks s.op s.entry d) (digest-kept _ _ s.entry goes (open-known basis past s old.taken w))

  -- an event that takes and ends no entry, begins and ends no step, and tells nothing of the board
  pub quiet-board : (number : ℕ) → told_by basis.facts (rows basis past) event number ≡ [] → tells basis.facts (live past) (known basis past) event number ≡ None
      → is_faulty_end basis.facts (rows basis past) number event ≡ false → is_boot event ≡ false → live (event ∷ past) ≡ live past → open_steps (event ∷ past) ≡ open_steps past
      → SameOfBoard basis first past (event ∷ past) number
  quiet-board number t s f b l o =
      let k = open-kept number o in
      record {
        told = rw t (append-nil _);
        out = out-kept number l;
        opened = k;
        marks = open-marks-kept number k;
        booted = λ h. rw b at h;
        seen = rw s refl;
        before = rw s refl;
        began = rw (s, t) refl;
        raws = raws-stay;
        faults = rw f refl;
      }
