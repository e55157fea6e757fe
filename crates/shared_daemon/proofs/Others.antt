-- What a client knows of the log that it saw holds of the log that its next turn meets.
use Rattle.std.proofs.Common.{◌≡◌, ◌≢◌, ℕ, ◌≤◌, ◌+◌, arith, true, false, List, [], ◌∷◌, ◌++◌, length, drop, map, reverse, refl, ap, sym, ◌∙◌, subst}
use Rattle.std.proofs.lemmas.Bool.{eqb-true}
use Rattle.std.proofs.lemmas.List.{reverse-append}
use Rattle.std.specs.Prelude.{Option, Some, None, Result, IfSome, IsSome, IsTrue, OnOk, ◌==◌, find, option_map, option_and_then, unwrap_or}
use Rattle.std.specs.List.{AllByRecursion}
use Rattle.std.specs.Str.{bytes_eq}
use Rattle.daemon_core.proofs.HouseLogKept.{boots-same}
use Rattle.emulated_boards.specs.Boards.{BoardState}
use Rattle.emulated_boards.specs.Conditions.{view_of as shown_of}
use Rattle.emulated_boards.specs.declared.fault.BoardFault.{BoardFault}
use Rattle.emulated_boards.specs.declared.mark.Mark.{Mark}
use Rattle.fw_facts.specs.Views.{is_home}
use Rattle.fw_facts.specs.declared.seen.Seen.{Seen}
use Rattle.fw_facts.specs.declared.sheet.Sheet.{Sheet}
use Rattle.history_keeper.specs.Histories.{IsHistory}
use Rattle.history_keeper.specs.declared.row.Row.{Row}
use Rattle.history_keeper.specs.declared.row.RowState.{RowState}
use Rattle.update_log.proofs.Lists.{All-append, All-both, by_test, eqb-other, find-passes}
use Rattle.update_log.specs.Boards.{Board, board_with, devices}
use Rattle.update_log.specs.Holding.{hold, live, live_entry, step_open}
use Rattle.update_log.specs.Known.{Basis, Known, board_of, is_board_of, known, row_of, rows, seen, view_of, views}
use Rattle.update_log.specs.Legal.{EndAllowed, IsFree, IsLegal, StartAllowed, ToldWhole}
use Rattle.update_log.specs.Pasts.{boots, client_of, is_boot, is_of, last_of, off, past_of, time_of}
use Rattle.update_log.specs.Shows.{campaign_on, Campaign, EndShows, IsPrefix, ModeAllowed, digest_of, is_alike, marks, told}
use Rattle.update_log.specs.Steps.{closing, closing_at, closing_of, next_step, trace}
use Rattle.update_log.specs.declared.event.Event.{Event}
use Rattle.update_log.specs.declared.event.Op.{Op}
use Rattle.update_log.specs.declared.facts.Facts.{Facts}
use Rattle.update_log.specs.declared.live.LiveEntry.{LiveEntry}
use Rattle.update_log.specs.declared.trace.Trace.{Trace}
use Rattle.daemon_core.proofs.BoardsQuiet.{goes-so}
use Rattle.daemon_core.proofs.PlacesKept.{SameOfBoard, board-same, raw-same}
use Rattle.daemon_core.specs.HouseLog.{IsLegalSo, MadeBy}
use Rattle.daemon_core.specs.Boards.{BoardStands}
use Rattle.daemon_core.specs.Finishes.{IsDone}
use Rattle.daemon_core.specs.Returns.{ComesHome, StepEnds, new_marks, number_of}
use Rattle.shared_daemon.proofs.OthersBoards.{own-board_same}
use Rattle.shared_daemon.proofs.OthersEntries.{concerns, live-begun, live-same, step-same, trace-same, untouched}
use Rattle.shared_daemon.proofs.OthersLists.{IsOther, free-other, hold-other, last-other, off-other, time-other}
use Rattle.shared_daemon.proofs.OthersRows.{concerns-none, row-same, some-goes_on, unadvanced}
use Rattle.shared_daemon.specs.Others.{IsOwn, Others}

-- Two pasts say the same of a live entry, and of its board.
pub record SameEntry (basis : Basis) (first : List Seen) (past other : List Event) (entry : ℕ) (l : LiveEntry) : Type 0 where
  pub live : live_entry other entry ≡ Some l
  pub step : step_open other entry ≡ step_open past entry
  pub traced : trace basis entry other ≡ trace basis entry past
  pub row : row_of (rows basis other) entry ≡ row_of (rows basis past) entry
  pub board : (number : ℕ) → board_of basis.facts (rows basis past) entry ≡ Some number → SameOfBoard basis first past other number

-- What stays of what a past says, where others made what came behind it.
pub record Stays (basis : Basis) (first : List Seen) (client : ℕ) (past other : List Event) : Type 0 where
  pub booted : boots other ≡ boots past
  pub timed : time_of other ≡ time_of past
  pub is_off : off past ≡ true → off other ≡ true
  pub last : last_of client other ≡ last_of client past
  pub holds : hold other client ≡ hold past client
  pub free : IsFree past client → IsFree other client
  pub own : (entry : ℕ) (l : LiveEntry) → IsOwn past client entry l → SameEntry basis first past other entry l
  pub there : (entry : ℕ) → IsSome (row_of (rows basis past) entry) → IsSome (row_of (rows basis other) entry)
  pub pending : (entry : ℕ) (row : Row) → client ≡ 0 → row_of (rows basis past) entry ≡ Some row → row.state ≡ RowState.Pending → row_of (rows basis other) entry ≡ Some row

same-of : (basis : Basis) (first : List Seen) (past : List Event) (number : ℕ) → SameOfBoard basis first past past number
same-of basis first past number =
    record { told = refl; out = refl; opened = refl; marks = refl; booted = λ h. h; seen = refl; before = refl; began = refl; raws = λ _ _ h. h; faults = refl }

same-on : (basis : Basis) (first : List Seen) (a b c : List Event) (number : ℕ) → SameOfBoard basis first a b number → SameOfBoard basis first b c number → SameOfBoard basis first a c number
same-on basis first a b c number s t =
    record {
      told = t.told ∙ s.told;
      out = t.out ∙ s.out;
      opened = t.opened ∙ s.opened;
      marks = t.marks ∙ s.marks;
      booted = λ h. s.booted (t.booted h);
      seen = t.seen ∙ s.seen;
      before = t.before ∙ s.before;
      began = t.began ∙ s.began;
      raws = λ entry raw h. t.raws entry raw (s.raws entry raw h);
      faults = t.faults ∙ s.faults;
    }

pub stays-none : (basis : Basis) (first : List Seen) (client : ℕ) (past : List Event) → Stays basis first client past past
stays-none basis first client past =
    record {
      booted = refl;
      timed = refl;
      is_off = λ h. h;
      last = refl;
      holds = refl;
      free = λ h. h;
      own = λ entry l o. record { live = o.live; step = refl; traced = refl; row = refl; board = λ number _. same-of basis first past number };
      there = λ _ h. h;
      pending = λ _ _ _ h _. h;
    }

-- the board of an entry, where its row is the same
same-board : (facts : Facts) (old new : List Row) (entry : ℕ) → row_of new entry ≡ row_of old entry → board_of facts new entry ≡ board_of facts old entry
same-board facts old new entry e = ap (λ (o : Option Row). option_and_then (λ r. board_with facts r.device) o) e

same-entry_on : (basis : Basis) (first : List Seen) (a b c : List Event) (entry : ℕ) (l : LiveEntry) → SameEntry basis first a b entry l → SameEntry basis first b c entry l → SameEntry basis first a c entry l
same-entry_on basis first a b c entry l s t =
    record {
      live = t.live;
      step = t.step ∙ s.step;
      traced = t.traced ∙ s.traced;
      row = t.row ∙ s.row;
      board = λ number e. same-on basis first a b c number (s.board number e) (t.board number (same-board basis.facts (rows basis a) (rows basis b) entry s.row ∙ e));
    }

pub stays-on : (basis : Basis) (first : List Seen) (client : ℕ) (a b c : List Event) → Stays basis first client a b → Stays basis first client b c → Stays basis first client a c
stays-on basis first client a b c s t =
    record {
      booted = t.booted ∙ s.booted;
      timed = t.timed ∙ s.timed;
      is_off = λ h. t.is_off (s.is_off h);
      last = t.last ∙ s.last;
      holds = t.holds ∙ s.holds;
      free = λ h. t.free (s.free h);
      own = λ entry l o. let k = s.own entry l o in same-entry_on basis first a b c entry l k (t.own entry l (record { live = k.live; client_is = o.client_is }));
      there = λ entry h. t.there entry (s.there entry h);
      pending = λ entry row z f p. t.pending entry row z (s.pending entry row z f p) p;
    }

found-row : (o : Option Row) (state : RowState) → option_map (λ r. r.state) o ≡ Some state → (row : Row) × (o ≡ Some row)
found-row None state h = cc
found-row (Some row) state h = (row, refl)

-- One event of another.
one-entry : (c : Campaign) (past : List Event) (event : Event) (client entry : ℕ) (l : LiveEntry) → IsHistory c.basis.opening → IsLegal c (event ∷ past) → IsOther client event → IsOwn past client entry l
    → SameEntry c.basis c.first past (event ∷ past) entry l
one-entry c past event client entry l v legal o own =
    let none : concerns entry event ≡ false = untouched c past event client entry l v legal.0 legal.2 o own in
    let lives : live_entry (event ∷ past) entry ≡ Some l = live-same past event entry o.no_boot none ∙ own.live in
    let same : l.entry ≡ entry = eqb-true l.entry entry (find-passes (λ x. x.entry == entry) (live past) l own.live) in
    let r = found-row (row_of (rows c.basis past) entry) RowState.Begun (live-begun c past entry l v legal.0 own.live) in
    let row : row_of (rows c.basis (event ∷ past)) entry ≡ row_of (rows c.basis past) entry =
    row-same c.basis past event entry r.0 o.no_boot (concerns-none event entry none) r.1 ∙ sym r.1 in
    record {
      live = lives;
      step = step-same past event entry o.no_boot none;
      traced = trace-same c.basis past event entry none;
      row = row;
      board = λ number e. own-board_same c past event entry number l v legal o.no_boot none own.live same e lives
          (same-board c.basis.facts (rows c.basis past) (rows c.basis (event ∷ past)) entry row ∙ e);
    }

one-stays : (c : Campaign) (past : List Event) (event : Event) (client : ℕ) → IsHistory c.basis.opening → IsLegal c (event ∷ past) → IsOther client event → Stays c.basis c.first client past (event ∷ past)
one-stays c past event client v legal o =
    record {
      booted = boots-same past event o.no_boot;
      timed = time-other past event o.no_boot;
      is_off = off-other past event o.no_boot;
      last = last-other past event client o;
      holds = hold-other past event client o;
      free = free-other past event client o;
      own = λ entry l own. one-entry c past event client entry l v legal o own;
      there = λ entry h. some-goes_on (rows c.basis past) (rows c.basis (event ∷ past)) entry (goes-so c.basis c.first past event v (c.plans, legal)) h;
      pending = λ entry row z f p. row-same c.basis past event entry row o.no_boot (unadvanced c past event entry row v legal.0 legal.2 (subst (λ (n : ℕ). IsOther n event) z o) f p) f;
    }

-- Many events of others, the newest first.
many-stay : (c : Campaign) (client : ℕ) (newer past : List Event) → IsHistory c.basis.opening → IsLegal c (newer ++ past) → AllByRecursion (IsOther client) newer → Stays c.basis c.first client past (newer ++ past)
many-stay c client [] past v legal o = stays-none c.basis c.first client past
many-stay c client (event ∷ newer) past v legal o =
    stays-on c.basis c.first client past (newer ++ past) (event ∷ newer ++ past)
    (many-stay c client newer past v legal.0 o.1)
    (one-stays c (newer ++ past) event client v legal o.0)

-- Where there are as many boots, none is among them.
pub some-boots : (newer past : List Event) → boots past ≤ boots (newer ++ past)
some-boots [] past = omega arith
some-boots (event ∷ newer) past =
    let rest : boots past ≤ boots (newer ++ past) = some-boots newer past in
    by_test (is_boot event) _ (λ t. rw t (omega arith)) (λ f. rw f rest)

no-boots : (newer past : List Event) → boots (newer ++ past) ≡ boots past → AllByRecursion (λ e. is_boot e ≡ false) newer
no-boots [] past h = tt
no-boots (event ∷ newer) past h =
    let rest : boots past ≤ boots (newer ++ past) = some-boots newer past in
    by_test (is_boot event) _
    (λ t. let more : boots (newer ++ past) + 1 ≡ boots past = rw t at h in absurd (omega arith))
    (λ f. (f, no-boots newer past (rw f at h)))

-- Whoever made it, it is none of the client's, where the client didn't.
made-other : (o : Option ℕ) (maker client : ℕ) → IfSome o (λ c. c ≡ maker) → maker ≢ client → unwrap_or (option_map (λ c. c == client) o) false ≡ false
made-other None maker client m n = refl
made-other (Some c) maker client m n = eqb-other c client (λ s. n (sym m ∙ s))

all-made : (client : ℕ) (more : List Event) (makers : List ℕ) → MadeBy more makers → AllByRecursion (λ maker. maker ≢ client) makers → AllByRecursion (λ e. is_of client e ≡ false) more
all-made client [] [] m n = tt
all-made client [] (maker ∷ makers) m n = absurd m
all-made client (event ∷ more) [] m n = absurd m
all-made client (event ∷ more) (maker ∷ makers) m n = (made-other (client_of event) maker client m.0 n.0, all-made client more makers m.1 n.1)

all-reversed : {X : Type 0} (P : X → Type 0) (xs : List X) → AllByRecursion P xs → AllByRecursion P (reverse xs)
all-reversed P [] a = tt
all-reversed P (x ∷ xs) a =
    subst (AllByRecursion P) (sym (reverse-append (x ∷ []) xs)) (All-append P (reverse xs) (x ∷ []) (all-reversed P xs a.1) (a.0, tt))

-- What a client knows of the log that it saw stays, whatever others put behind it.
pub others-stay : (basis : Basis) (first : List Seen) (client : ℕ) (seen more : List Event) → Others basis first client seen more → Stays basis first client (past_of seen) (past_of (seen ++ more))
others-stay basis first client seen more o =
    let turned : past_of (seen ++ more) ≡ reverse more ++ past_of seen = reverse-append seen more in
    let quiet : AllByRecursion (λ e. is_boot e ≡ false) (reverse more) = no-boots (reverse more) (past_of seen) (ap boots (sym turned) ∙ o.booted) in
    let theirs : AllByRecursion (λ e. is_of client e ≡ false) (reverse more) = all-reversed (λ e. is_of client e ≡ false) more (all-made client more o.makers o.made o.others) in
    let all : AllByRecursion (IsOther client) (reverse more) = All-both _ _ (IsOther client) (reverse more) quiet theirs (λ e b n. record { no_boot = b; not_of = n }) in
    let legal : IsLegalSo basis first (reverse more ++ past_of seen) = subst (IsLegalSo basis first) turned o.after in
    subst (Stays basis first client (past_of seen)) (sym turned) (at legal all)
  where
    at : IsLegalSo basis first (reverse more ++ past_of seen) → AllByRecursion (IsOther client) (reverse more) → Stays basis first client (past_of seen) (reverse more ++ past_of seen)
    at (plans, legal) all = many-stay (campaign_on basis first plans) client (reverse more) (past_of seen) o.history legal all

-- What a step's end may show, where two pasts say the same of its board.

shows-same : (basis : Basis) (first : List Seen) (past other : List Event) (number : ℕ) (told_now : List Mark) (outcome : Result (Unit {0}) BoardFault) (shown : Seen) → SameOfBoard basis first past other number
    → EndShows basis first past number told_now outcome shown → EndShows basis first other number told_now outcome shown
shows-same basis first past other number told_now outcome shown s k =
    record {
      stays = subst (λ (x : Seen). OnOk outcome (IsTrue (is_alike x shown))) (sym s.seen) k.stays;
      home = λ h. subst (λ (x : Seen). IsTrue (is_home x)) (sym s.seen) (k.home h);
      raw = λ raw mode e. raw-same basis first past other number told_now raw s (k.raw raw mode e);
      mode = λ raw mode e. subst (λ (x : Seen). ModeAllowed told_now x mode) (sym s.before) (k.mode raw mode e);
    }

-- The state in which an entry ends is read off its trace, its row, and what its board shows.

closing-shown : (t : Trace) (row : Row) (sheet : Sheet) (a b : Option ℕ) (x y : Seen) → x ≡ y → closing_of t row (record { sheet = sheet; seen = x; claim = a }) ≡ closing_of t row (record { sheet = sheet; seen = y; claim = b })
closing-shown t row sheet a b x y e = ap (λ (s : Seen). closing_of t row (record { sheet = sheet; seen = s; claim = a })) e

closing-boards : (t : Trace) (row : Row) (e e' : List LiveEntry) (k k' : Known) (number : ℕ) (bs : List Board) → k'.shown number ≡ k.shown number → option_map (λ b. b.number) (find (λ b. bytes_eq b.sheet.device row.device) bs) ≡ Some number
    → closing_at (map (view_of e' k') bs) t row ≡ closing_at (map (view_of e k) bs) t row
closing-boards t row e e' k k' number [] s h = cc
closing-boards t row e e' k k' number (b ∷ bs) s h =
    by_test (bytes_eq b.sheet.device row.device) _
    (λ u. let h' : Some b.number ≡ Some number = rw u at h in
    let n : b.number ≡ number = cc in
    let shown : k'.shown b.number ≡ k.shown b.number = ap k'.shown n ∙ s ∙ ap k.shown (sym n) in
    rw u (ap Some (closing-shown t row b.sheet (view_of e' k' b).claim (view_of e k b).claim (k'.shown b.number) (k.shown b.number) shown)))
    (λ u. rw u (closing-boards t row e e' k k' number bs s (rw u at h)))

row-of_board : (facts : Facts) (o : Option Row) (number : ℕ) → option_and_then (λ r. board_with facts r.device) o ≡ Some number → (row : Row) × (o ≡ Some row) × (board_with facts row.device ≡ Some number)
row-of_board facts None number h = cc
row-of_board facts (Some row) number h = (row, refl, h)

closing-same : (basis : Basis) (first : List Seen) (past other : List Event) (entry number : ℕ) (l : LiveEntry) → SameEntry basis first past other entry l → board_of basis.facts (rows basis past) entry ≡ Some number
    → closing basis other entry ≡ closing basis past entry
closing-same basis first past other entry number l k b =
    ap (λ (o : Option Trace). option_and_then (λ t. option_and_then (closing_at (views basis other) t) (row_of (rows basis other) entry)) o) k.traced
    ∙ at (trace basis entry past)
  where
    shown : seen basis other number ≡ seen basis past number
    shown = let s = k.board number b in s.seen

    inner : (t : Trace) → option_and_then (closing_at (views basis other) t) (row_of (rows basis other) entry) ≡ option_and_then (closing_at (views basis past) t) (row_of (rows basis past) entry)
    inner t =
        let r = row-of_board basis.facts (row_of (rows basis past) entry) number b in
        ap (λ (o : Option Row). option_and_then (closing_at (views basis other) t) o) (k.row ∙ r.1)
        ∙ closing-boards t r.0 (live past) (live other) (known basis past) (known basis other) number (devices basis.facts) shown r.2
        ∙ sym (ap (λ (o : Option Row). option_and_then (closing_at (views basis past) t) o) r.1)

    at : (o : Option Trace) → option_and_then (λ t. option_and_then (closing_at (views basis other) t) (row_of (rows basis other) entry)) o ≡ option_and_then (λ t. option_and_then (closing_at (views basis past) t) (row_of (rows basis past) entry)) o
    at None = refl
    at (Some t) = inner t

-- What is carried over, one lemma each.

module _ (basis : Basis) (first : List Seen) (client : ℕ) (past other : List Event) where
  pub off-stays : Stays basis first client past other → off past ≡ true → off other ≡ true
  off-stays s h = s.is_off h

  pub last-stays : Stays basis first client past other → last_of client other ≡ last_of client past
  last-stays s = s.last

  pub hold-stays : Stays basis first client past other → hold other client ≡ hold past client
  hold-stays s = s.holds

  pub free-stays : Stays basis first client past other → IsFree past client → IsFree other client
  free-stays s h = s.free h

  pub start-stays : (entry : ℕ) (op : Op) (l : LiveEntry) → Stays basis first client past other → StartAllowed basis past client entry op l → StartAllowed basis other client entry op l
  start-stays entry op l s a =
      let k = s.own entry l (record { live = a.live; client_is = a.client_is }) in
      record { live = k.live; client_is = a.client_is; closed = k.step ∙ a.closed; next = ap (option_and_then next_step) k.traced ∙ a.next }

  pub done-stays : (entry number : ℕ) (l : LiveEntry) (closed : RowState) → Stays basis first client past other → IsOwn past client entry l → board_of basis.facts (rows basis past) entry ≡ Some number → IsDone basis past entry closed → IsDone basis other entry closed
  done-stays entry number l closed s o b d =
      let k = s.own entry l o in
      record {
        closed_none = k.step ∙ d.closed_none;
        done = ap (option_and_then next_step) k.traced ∙ d.done;
        closing = closing-same basis first past other entry number l k b ∙ d.closing;
      }

  pub own-row-stays : (entry : ℕ) (l : LiveEntry) → Stays basis first client past other → IsOwn past client entry l → row_of (rows basis other) entry ≡ row_of (rows basis past) entry
  own-row-stays entry l s o = let k = s.own entry l o in k.row

  pub digest-stays : (entry : ℕ) (l : LiveEntry) → Stays basis first client past other → IsOwn past client entry l → digest_of (rows basis other) entry ≡ digest_of (rows basis past) entry
  digest-stays entry l s o = ap (λ (x : Option Row). unwrap_or (option_map (λ r. r.digest) x) []) (own-row-stays entry l s o)

  pub entry-board-stays : (entry : ℕ) (l : LiveEntry) → Stays basis first client past other → IsOwn past client entry l → board_of basis.facts (rows basis other) entry ≡ board_of basis.facts (rows basis past) entry
  entry-board-stays entry l s o = same-board basis.facts (rows basis past) (rows basis other) entry (own-row-stays entry l s o)

  pub number-stays : (entry : ℕ) (l : LiveEntry) → Stays basis first client past other → IsOwn past client entry l → number_of basis other entry ≡ number_of basis past entry
  number-stays entry l s o = ap (λ (x : Option ℕ). unwrap_or x 0) (entry-board-stays entry l s o)

  pub told-stays : (entry number : ℕ) (l : LiveEntry) → Stays basis first client past other → IsOwn past client entry l → board_of basis.facts (rows basis past) entry ≡ Some number → told basis other number ≡ told basis past number
  told-stays entry number l s o b = let k = s.own entry l o in let w = k.board number b in w.told

  pub marks-stay : (entry number : ℕ) (l : LiveEntry) (journal : List Mark) → Stays basis first client past other → IsOwn past client entry l → board_of basis.facts (rows basis past) entry ≡ Some number
      → new_marks basis other entry journal ≡ new_marks basis past entry journal
  marks-stay entry number l journal s o b =
      let n : number_of basis past entry ≡ number = ap (λ (x : Option ℕ). unwrap_or x 0) b in
      let m : number_of basis other entry ≡ number = number-stays entry l s o ∙ n in
      ap (λ (x : ℕ). drop (length (told basis other x)) journal) m
      ∙ ap (λ (ms : List Mark). drop (length ms) journal) (told-stays entry number l s o b)
      ∙ sym (ap (λ (x : ℕ). drop (length (told basis past x)) journal) n)

  pub stands-stay : (entry number : ℕ) (l : LiveEntry) (b : BoardState) (tail : List Mark) → Stays basis first client past other → IsOwn past client entry l → board_of basis.facts (rows basis past) entry ≡ Some number
      → BoardStands basis first past number b tail → BoardStands basis first other number b tail
  stands-stay entry number l b tail s o e = let k = s.own entry l o in board-same basis first past other number b tail (k.board number e)

  pub home-stays : (entry number : ℕ) (l : LiveEntry) (tail : List Mark) (b : BoardState) (blocks : ℕ) → Stays basis first client past other → ComesHome basis first past client entry number l tail b blocks → ComesHome basis first other client entry number l tail b blocks
  home-stays entry number l tail b blocks s h =
      let o : IsOwn past client entry l = record { live = h.live; client_is = h.client_is } in
      let k = s.own entry l o in
      record {
        live = k.live;
        client_is = h.client_is;
        board = entry-board-stays entry l s o ∙ h.board;
        stands = stands-stay entry number l b tail s o h.board h.stands;
        blocks_are = h.blocks_are;
      }

  pub end-stays : (entry number : ℕ) (op : Op) (outcome : Result (Unit {0}) BoardFault) (told_now : List Mark) (shown : Seen) (l : LiveEntry) → Stays basis first client past other → IsOwn past client entry l → board_of basis.facts (rows basis past) entry ≡ Some number
      → EndAllowed basis first past client entry op outcome told_now shown → EndAllowed basis first other client entry op outcome told_now shown
  end-stays entry number op outcome told_now shown l s o b a =
      let k = s.own entry l o in
      let d = digest-stays entry l s o in
      record {
        open_is = k.step ∙ a.open_is;
        told_is = subst (λ (x : List ℕ). IsPrefix told_now (marks op entry x)) (sym d) a.told_is;
        whole = subst (λ (x : List ℕ). ToldWhole op outcome told_now (marks op entry x)) (sym d) a.whole;
        shows = λ board is. let was : is_board_of basis.facts (rows basis past) entry board ≡ true = ap (λ (x : Option ℕ). unwrap_or (option_map (λ n. n == board) x) false) (sym (entry-board-stays entry l s o)) ∙ is in
            let own : (number == board) ≡ true = ap (λ (x : Option ℕ). unwrap_or (option_map (λ n. n == board) x) false) (sym b) ∙ was in
            shows-same basis first past other board told_now outcome shown (k.board board (b ∙ ap Some (eqb-true number board own))) (a.shows board was);
      }

  pub ends-stay : (entry number : ℕ) (op : Op) (outcome : Result (Unit {0}) BoardFault) (b : BoardState) (l : LiveEntry) → Stays basis first client past other → IsOwn past client entry l
      → StepEnds basis first past client entry op outcome number b → StepEnds basis first other client entry op outcome number b
  ends-stay entry number op outcome b l s o e =
      let m = marks-stay entry number l b.journal s o e.board in
      record {
        board = entry-board-stays entry l s o ∙ e.board;
        journal = e.journal
            ∙ ap (λ (ms : List Mark). ms ++ new_marks basis past entry b.journal) (sym (told-stays entry number l s o e.board))
            ∙ ap (λ (ms : List Mark). told basis other number ++ ms) (sym m);
        allowed = subst (λ (ms : List Mark). EndAllowed basis first other client entry op outcome ms (shown_of b.condition)) (sym m)
            (end-stays entry number op outcome (new_marks basis past entry b.journal) (shown_of b.condition) l s o e.board e.allowed);
      }

  pub row-stays : (entry : ℕ) → Stays basis first client past other → IsSome (row_of (rows basis past) entry) → IsSome (row_of (rows basis other) entry)
  row-stays entry s h = s.there entry h

  pub pending-stays : (entry : ℕ) (row : Row) → Stays basis first client past other → client ≡ 0 → row_of (rows basis past) entry ≡ Some row → row.state ≡ RowState.Pending → row_of (rows basis other) entry ≡ Some row
  pending-stays entry row s z f p = s.pending entry row z f p
