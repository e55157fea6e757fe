-- A claim over the start of a step, the plugin's step and its end.
use Rattle.std.proofs.Common.{◌≡◌, ℕ, true, false, List, [], ◌∷◌, ◌++◌, length, drop, refl, ap, sym, ◌∙◌, subst}
use Rattle.std.proofs.Math.Seq.{drop-append_seam}
use Rattle.std.proofs.lemmas.List.{append-nil}
use Rattle.std.proofs.lemmas.Bool.{eqb-true}
use Rattle.std.specs.Prelude.{Option, Some, None, Result, ⊤, ◌==◌, option_and_then, option_map, unwrap_or}
use Rattle.std.specs.List.{AllByRecursion}
use Rattle.fw_facts.specs.declared.seen.Seen.{Seen}
use Rattle.block_pool.specs.Views.{SealedBytes}
use Rattle.emulated_boards.specs.Boards.{BoardState}
use Rattle.emulated_boards.specs.Conditions.{view_of}
use Rattle.emulated_boards.specs.Images.{payload_image}
use Rattle.emulated_boards.specs.declared.fault.BoardFault.{BoardFault}
use Rattle.emulated_boards.specs.declared.mark.Mark.{Mark}
use Rattle.history_keeper.specs.declared.row.Row.{Row}
use Rattle.update_log.proofs.Lists.{All-filter, All-map, All-push, by_test, eqb-self, find-filter_none, find-push_new}
use Rattle.update_log.specs.declared.event.Event.{Event}
use Rattle.update_log.specs.declared.event.Op.{Op}
use Rattle.update_log.specs.declared.facts.Facts.{Facts}
use Rattle.update_log.specs.declared.live.LiveEntry.{LiveEntry}
use Rattle.update_log.specs.declared.live.OpenStep.{OpenStep}
use Rattle.update_log.specs.declared.trace.Trace.{Trace}
use Rattle.update_log.specs.Holding.{open_steps, step_open, without_steps}
use Rattle.update_log.specs.Known.{Basis, board_of, is_board_of, rows}
use Rattle.update_log.specs.Legal.{EndAllowed, StartAllowed, ToldWhole, open_marks, open_on}
use Rattle.update_log.specs.Pasts.{off}
use Rattle.update_log.specs.Shows.{EndShows, IsPrefix, digest_of, marks, told}
use Rattle.update_log.specs.Steps.{next_step, trace, with_step}
use Rattle.daemon_core.proofs.BoardsQuiet.{find-same}
use Rattle.daemon_core.proofs.ClaimEnds.{own-board}
use Rattle.daemon_core.proofs.PlacesKept.{SameOfBoard, board-same}
use Rattle.daemon_core.specs.Returns.{ComesHome, StepEnds, new_marks, number_of}
use Rattle.device_claims.specs.Claims.{Noted}
use Rattle.device_claims.specs.States.{IsNext}
use Rattle.device_claims.specs.declared.claim.Parts.{Parts}
use Rattle.install_engine.specs.Runs.{ClaimRuns, IsOwnStep, StandsOut, StepLeft, open_step}
use Rattle.install_engine.proofs.RunBoards.{SameOut, home-of_out, out-same}
use Rattle.install_engine.proofs.RunMarks.{Gave, StepGave, step-gave}
use Rattle.install_engine.proofs.RunShows.{end-shows, stands-left}
use Rattle.install_engine.proofs.RunTold.{faults-ended, seen-ended, stands-ended}

-- ---- which step is open

-- The step that is open on the board is the entry's.
pub open-own : (basis : Basis) (past : List Event) (entry number : ℕ) → board_of basis.facts (rows basis past) entry ≡ Some number → AllByRecursion (IsOwnStep basis.facts (rows basis past) entry number) (open_steps past)
    → open_on basis past number ≡ step_open past entry
open-own basis past entry number own a =
    find-same (λ s. is_board_of basis.facts (rows basis past) s.entry number) (λ s. s.entry == entry) (open_steps past)
    (All-map (IsOwnStep basis.facts (rows basis past) entry number) (λ s. is_board_of basis.facts (rows basis past) s.entry number ≡ (s.entry == entry)) (open_steps past) a each)
  where
    each : (s : OpenStep) → IsOwnStep basis.facts (rows basis past) entry number s → is_board_of basis.facts (rows basis past) s.entry number ≡ (s.entry == entry)
    each s w =
        by_test (s.entry == entry) _
        (λ t. ap (λ (e : ℕ). is_board_of basis.facts (rows basis past) e number) (eqb-true s.entry entry t) ∙ own-board basis.facts (rows basis past) entry number own ∙ sym t)
        (λ f. w f ∙ sym f)

not-none : (s : OpenStep) (P : Type 0) → Some s ≡ None → P
not-none s P e = cc

-- ---- the start

module _ (basis : Basis) (first : List Seen) (past : List Event) (client : ℕ) (parts : Parts) (number : ℕ) (l : LiveEntry) (op : Op) (k : ClaimRuns basis first past client parts number l None) where
  -- The next step may be started.
  pub claim-start : IsNext op parts.trace → StartAllowed basis past client parts.entry op l
  claim-start n =
      record {
        live = k.live;
        client_is = k.client_is;
        closed = k.open_is;
        next = ap (λ (o : Option Trace). option_and_then next_step o) k.traced ∙ n;
      }

  start-same : SameOut basis first past (Event.Start client parts.entry op ∷ past) number
  start-same = record { told_same = append-nil (told basis past number); before = refl; began = refl; raws = λ e raw h. h; faults = refl }

  module _ (on : off past ≡ false) where
    alone-pushed : AllByRecursion (IsOwnStep basis.facts (rows basis past) parts.entry number) (open_steps past ++ record { client = client; entry = parts.entry; op = op } ∷ [])
    alone-pushed =
        All-push (IsOwnStep basis.facts (rows basis past) parts.entry number) (open_steps past) (record { client = client; entry = parts.entry; op = op }) (k.alone on)
        (λ f. let bad : true ≡ false = sym (eqb-self parts.entry) ∙ f in cc)

    open-pushed : step_open (Event.Start client parts.entry op ∷ past) parts.entry ≡ open_step client parts.entry (Some op)
    open-pushed = find-push_new (λ s. s.entry == parts.entry) (open_steps past) (record { client = client; entry = parts.entry; op = op }) k.open_is (eqb-self parts.entry)

    -- Then it is open, and all else is as before.
    pub claim-started : ClaimRuns basis first (Event.Start client parts.entry op ∷ past) client parts number l (Some op)
    claim-started =
        record {
          live = k.live;
          client_is = k.client_is;
          blocks_are = k.blocks_are;
          open_is = open-pushed;
          board_is = k.board_is;
          opened = open-own basis (Event.Start client parts.entry op ∷ past) parts.entry number k.board_is alone-pushed ∙ open-pushed;
          alone = λ _. alone-pushed;
          stands = out-same basis first past (Event.Start client parts.entry op ∷ past) number parts.board [] start-same k.stands;
          shown = k.shown;
          traced = k.traced;
          digest = k.digest;
          raw = k.raw;
        }

-- ---- the plugin's step, and the end

board-number : (facts : Facts) (all : List Row) (entry number board : ℕ) → board_of facts all entry ≡ Some number → is_board_of facts all entry board ≡ true → number ≡ board
board-number facts all entry number board e t =
    eqb-true number board (sym (ap (λ (o : Option ℕ). unwrap_or (option_map (λ b. b == board) o) false) e) ∙ t)

number-own : (basis : Basis) (past : List Event) (entry number : ℕ) → board_of basis.facts (rows basis past) entry ≡ Some number → number_of basis past entry ≡ number
number-own basis past entry number e = ap (λ (o : Option ℕ). unwrap_or o 0) e

-- The parts with another board, and one step more.
abbrev pub parts_after : Op → Parts → Result ⊤ BoardFault → BoardState → Parts
parts_after op parts answer b =
    record parts { board = b; trace = with_step (record { op = op; outcome = answer; seen = view_of b.condition }) parts.trace }

pub noted-parts : (op : Op) (old : Parts) (answer : Result ⊤ BoardFault) (new : Parts) → Noted op old answer new → new ≡ parts_after op old answer new.board
noted-parts op old answer new n =
    ap (λ (e : ℕ). record new { entry = e }) n.entry
    ∙ ap (λ (t : Trace). record new { entry = old.entry; trace = t }) n.trace
    ∙ ap (λ (p : SealedBytes). record new { entry = old.entry; trace = with_step (record { op = op; outcome = answer; seen = view_of new.board.condition }) old.trace; payload = p }) n.payload

module _ (basis : Basis) (first : List Seen) (past : List Event) (client : ℕ) (parts : Parts) (number : ℕ) (l : LiveEntry) (op : Op) (answer : Result ⊤ BoardFault) (b : BoardState) (k : ClaimRuns basis first past client parts number l (Some op)) where
  module _ (ms : List Mark) (g : StepGave op parts.entry (payload_image parts.payload) ms parts.board answer b) where
    left : StandsOut basis first past number b ms
    left = stands-left basis first past number parts.entry op (payload_image parts.payload) ms parts.board answer b g k.raw k.stands

    -- the marks that weren't told are those of the step
    marks-new : new_marks basis past parts.entry b.journal ≡ ms
    marks-new =
        ap (λ (n : ℕ). drop (length (told basis past n)) b.journal) (number-own basis past parts.entry number k.board_is)
        ∙ ap (λ (j : List Mark). drop (length (told basis past number)) j) left.journal
        ∙ drop-append_seam (told basis past number) ms

    ends-allowed : EndAllowed basis first past client parts.entry op answer ms (view_of b.condition)
    ends-allowed =
        record {
          open_is = k.open_is;
          told_is = subst (λ (d : List ℕ). IsPrefix ms (marks op parts.entry d)) (sym k.digest) g.prefix;
          whole = subst (λ (d : List ℕ). ToldWhole op answer ms (marks op parts.entry d)) (sym k.digest) g.whole;
          shows = λ board t.
              subst (λ (n : ℕ). EndShows basis first past n ms answer (view_of b.condition)) (board-number basis.facts (rows basis past) parts.entry number board k.board_is t)
              (end-shows basis first past number parts.entry op (payload_image parts.payload) ms parts.board answer b g k.raw k.stands k.shown);
        }

    ends-so : StepEnds basis first past client parts.entry op answer number b
    ends-so =
        record {
          board = k.board_is;
          journal = left.journal ∙ ap (λ (x : List Mark). told basis past number ++ x) (sym marks-new);
          allowed = subst (λ (x : List Mark). EndAllowed basis first past client parts.entry op answer x (view_of b.condition)) (sym marks-new) ends-allowed;
        }

    marks-open : open_marks basis past number ≡ marks op parts.entry parts.payload.digest
    marks-open =
        ap (λ (o : Option OpenStep). unwrap_or (option_map (λ s. marks s.op s.entry (digest_of (rows basis past) s.entry)) o) []) k.opened
        ∙ ap (λ (d : List ℕ). marks op parts.entry d) k.digest

    home-left : ComesHome basis first past client parts.entry number l ms b parts.payload.count
    home-left =
        record {
          live = k.live;
          client_is = k.client_is;
          board = k.board_is;
          stands = home-of_out basis first past number b ms left
              (subst (λ (x : List Mark). IsPrefix ms x) (sym marks-open) g.prefix)
              (λ e. not-none (record { client = client; entry = parts.entry; op = op }) _ (sym k.opened ∙ e));
          blocks_are = k.blocks_are;
        }

    step-traced : trace basis parts.entry (Event.End client parts.entry op answer ms (view_of b.condition) ∷ past) ≡ Some (parts_after op parts answer b).trace
    step-traced =
        rw (eqb-self parts.entry)
        (ap (λ (o : Option Trace). option_map (with_step (record { op = op; outcome = answer; seen = view_of b.condition })) o) k.traced)

    alone-left : off past ≡ false → AllByRecursion (IsOwnStep basis.facts (rows basis past) parts.entry number) (without_steps parts.entry (open_steps past))
    alone-left on = All-filter (IsOwnStep basis.facts (rows basis past) parts.entry number) (IsOwnStep basis.facts (rows basis past) parts.entry number) _ (open_steps past) (k.alone on) (λ s w _. w)

    none-left : step_open (Event.End client parts.entry op answer ms (view_of b.condition) ∷ past) parts.entry ≡ None
    none-left = find-filter_none (λ s. s.entry == parts.entry) (open_steps past)

    runs-on : off past ≡ false → ClaimRuns basis first (Event.End client parts.entry op answer ms (view_of b.condition) ∷ past) client (parts_after op parts answer b) number l None
    runs-on on =
        record {
          live = k.live;
          client_is = k.client_is;
          blocks_are = k.blocks_are;
          open_is = none-left;
          board_is = k.board_is;
          opened = open-own basis (Event.End client parts.entry op answer ms (view_of b.condition) ∷ past) parts.entry number k.board_is (alone-left on) ∙ none-left;
          alone = λ _. alone-left on;
          stands = stands-ended basis first past client parts.entry op answer ms (view_of b.condition) number k.board_is b refl left
              (faults-ended basis past client parts.entry op answer ms (view_of b.condition) number parts.board.faults b.faults k.board_is k.stands.faults g.rules.well g.rules.failed);
          shown = sym (seen-ended basis first past client parts.entry op answer ms (view_of b.condition) number k.board_is);
          traced = step-traced;
          digest = k.digest;
          raw = k.raw;
        }

  module _ (s : StepLeft op parts.entry (payload_image parts.payload) parts.board answer b) where
    gave : Gave op parts.entry (payload_image parts.payload) parts.board answer b
    gave = step-gave op parts.entry (payload_image parts.payload) parts.board answer b s

    -- The step may be ended with that board.
    pub step-ends : StepEnds basis first past client parts.entry op answer number b
    step-ends = ends-so gave.0 gave.1

    -- Or that board comes home, in a boot that is off.
    pub step-home : (tail : List Mark) × ComesHome basis first past client parts.entry number l tail b parts.payload.count
    step-home = (gave.0, home-left gave.0 gave.1)

    runs-told : off past ≡ false → ClaimRuns basis first (Event.End client parts.entry op answer (new_marks basis past parts.entry b.journal) (view_of b.condition) ∷ past) client (parts_after op parts answer b) number l None
    runs-told on =
        subst (λ (x : List Mark). ClaimRuns basis first (Event.End client parts.entry op answer x (view_of b.condition) ∷ past) client (parts_after op parts answer b) number l None)
        (sym (marks-new gave.0 gave.1)) (runs-on gave.0 gave.1 on)

-- Then the claim runs on, with the step noted.
pub claim-ended : (basis : Basis) (first : List Seen) (past : List Event) (client : ℕ) (old : Parts) (number : ℕ) (l : LiveEntry) (op : Op) (answer : Result ⊤ BoardFault) (new : Parts) → off past ≡ false → ClaimRuns basis first past client old number l (Some op)
    → StepLeft op old.entry (payload_image old.payload) old.board answer new.board → Noted op old answer new
    → ClaimRuns basis first (Event.End client old.entry op answer (new_marks basis past old.entry new.board.journal) (view_of new.board.condition) ∷ past) client new number l None
claim-ended basis first past client old number l op answer new on k s n =
    subst (λ (p : Parts). ClaimRuns basis first (Event.End client old.entry op answer (new_marks basis past old.entry new.board.journal) (view_of new.board.condition) ∷ past) client p number l None)
    (sym (noted-parts op old answer new n)) (runs-told basis first past client old number l op answer new.board k s on)

-- ---- between steps

-- Between two steps the board may come home.
pub claim-home : (basis : Basis) (first : List Seen) (past : List Event) (client : ℕ) (parts : Parts) (number : ℕ) (l : LiveEntry) → ClaimRuns basis first past client parts number l None
    → ComesHome basis first past client parts.entry number l [] parts.board parts.payload.count
claim-home basis first past client parts number l k =
    record {
      live = k.live;
      client_is = k.client_is;
      board = k.board_is;
      stands = home-of_out basis first past number parts.board [] k.stands tt (λ e. (refl, k.shown));
      blocks_are = k.blocks_are;
    }

cut-same : (basis : Basis) (first : List Seen) (past : List Event) (number : ℕ) → SameOfBoard basis first past (Event.Cut ∷ past) number
cut-same basis first past number =
    record {
      told = append-nil (told basis past number);
      out = refl;
      opened = refl;
      marks = refl;
      booted = λ h. h;
      seen = refl;
      before = refl;
      began = refl;
      raws = λ e raw h. h;
      faults = refl;
    }

-- A cut leaves that so.
pub home-cut : (basis : Basis) (first : List Seen) (past : List Event) (client entry number : ℕ) (l : LiveEntry) (tail : List Mark) (b : BoardState) (blocks : ℕ) → ComesHome basis first past client entry number l tail b blocks
    → ComesHome basis first (Event.Cut ∷ past) client entry number l tail b blocks
home-cut basis first past client entry number l tail b blocks h =
    record {
      live = h.live;
      client_is = h.client_is;
      board = h.board;
      stands = board-same basis first past (Event.Cut ∷ past) number b tail (cut-same basis first past number) h.stands;
      blocks_are = h.blocks_are;
    }
