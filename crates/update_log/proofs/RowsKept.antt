-- What each past keeps of the rows.
use Rattle.update_log.proofs.Unlimited.{boot-runs}
use Rattle.std.proofs.Common.{◌≡◌, ℕ, Bool, true, false, ◌&&◌, ◌||◌, List, [], ◌∷◌, ◌++◌, map, refl, ap, sym, ◌∙◌, ◌≤◌, ◌+◌, arith, ◌⊎◌, inl, inr, length}
use Rattle.std.proofs.lemmas.List.{map-append}
use Rattle.std.proofs.lemmas.Map.Keys.{IsDistinct-push}
use Rattle.std.proofs.lemmas.Cmp.{nat_list_eq_equiv}
use Rattle.std.proofs.lemmas.Bool.{or_parts}
use Rattle.std.specs.Prelude.{Option, Some, None, IfSome, ◌==◌, option_map, option_and_then}
use Rattle.std.specs.List.{list_any, IsDistinct}
use Rattle.std.specs.Str.{bytes_eq}
use Rattle.fw_facts.specs.Views.{is_home, version_of}
use Rattle.fw_facts.specs.declared.view.DeviceView.{DeviceView}
use Rattle.history_keeper.specs.Changes.{changed, with_state}
use Rattle.history_keeper.specs.declared.change.Change.{Change}
use Rattle.history_keeper.specs.declared.row.Row.{Row}
use Rattle.history_keeper.specs.declared.row.RowState.{RowState}
use Rattle.update_log.proofs.Lists.{by_test, eqb-other, find-push_other}
use Rattle.update_log.proofs.Openings.{EntriesFrom}
use Rattle.update_log.specs.Boards.{board_with}
use Rattle.update_log.specs.Holding.{live}
use Rattle.update_log.specs.Known.{Basis, Fate, Known, Target, addition, advance, board_of, doubt, doubt_by, doubt_found, fate_answered, fate_stored, known, new_row, resumption, row_of, row_with_tag, rows, rows_by, rows_found, target, views, views_in}
use Rattle.update_log.specs.Legal.{Allowed, BootRuns, BootTakes, ClaimAllowed, ClaimAnswered, FoundAllowed, ScheduleAllowed, ScheduleAnswered, closing_stored, next_entry}
use Rattle.update_log.specs.Once.{is_pending}
use Rattle.update_log.specs.Pasts.{is_fault, is_found_fault, is_keeper_fault, off, time_of}
use Rattle.update_log.specs.Shows.{Campaign}
use Rattle.update_log.specs.Steps.{closing, closing_at, closing_of, ended_well, judge, judge_shown, trace, view_of_row, waits_for_boot}
use Rattle.update_log.specs.Verdicts.{Case, case_of, decided, kept, on_kept, verdict}
use Rattle.update_log.specs.declared.answer.ClaimAnswer.{ClaimAnswer}
use Rattle.update_log.specs.declared.answer.ResumeAnswer.{ResumeAnswer}
use Rattle.update_log.specs.declared.decision.Decision.{Decision}
use Rattle.update_log.specs.declared.decision.Stage.{Stage}
use Rattle.update_log.specs.declared.event.BoardSeen.{BoardSeen}
use Rattle.update_log.specs.declared.event.Event.{Event}
use Rattle.update_log.specs.declared.event.Found.{Found}
use Rattle.update_log.specs.declared.event.Op.{Op}
use Rattle.update_log.specs.declared.event.Stored.{Stored}
use Rattle.update_log.specs.declared.facts.Facts.{Facts}
use Rattle.update_log.specs.declared.live.Held.{Held}
use Rattle.update_log.specs.declared.live.LiveEntry.{LiveEntry}
use Rattle.update_log.specs.declared.refusal.FetchNote.{FetchNote}
use Rattle.update_log.specs.declared.request.Request.{Request}
use Rattle.update_log.specs.declared.trace.Trace.{Trace}
use Rattle.version_formats.specs.VersionOrder.{same_version}

-- a row without what changes in it
abbrev pub fixed : Row → Row
fixed row = record row { state = RowState.Pending; reason = 0; time_changed = 0 }

abbrev pub fixed_row : List Row → ℕ → Option Row
fixed_row rows entry = option_map fixed (row_of rows entry)

-- a change that the rows can take: a new row has the next entry and a new tag
abbrev pub NextChange : Change → List Row → Type 0
NextChange (Change.Add row) rows = (row.entry ≡ length rows + 1) × (list_any (bytes_eq row.tag) (map (λ r. r.tag) rows) ≡ false)
NextChange (Change.Advance entry state reason time) rows = is_pending state ≡ false

-- the rows stay, or take a change
abbrev pub GoesOn : List Row → List Row → Type 0
GoesOn old new = (new ≡ old) ⊎ ((change : Change) × NextChange change old × (new ≡ changed change old))

pub with_state-fixed : (entry : ℕ) (state : RowState) (reason time : ℕ) (row : Row) → fixed (with_state entry state reason time row) ≡ fixed row
with_state-fixed entry state reason time row = by_test (row.entry == entry) _ (λ t. rw t refl) (λ t. rw t refl)

pub map-fixed : (f : Row → Row) (rows : List Row) (e : ℕ) → ((r : Row) → fixed (f r) ≡ fixed r) → fixed_row (map f rows) e ≡ fixed_row rows e
map-fixed f [] e h = refl
map-fixed f (r ∷ rows) e h =
    let rest : fixed_row (map f rows) e ≡ fixed_row rows e = map-fixed f rows e h in
    let entry : (f r).entry ≡ r.entry = ap (λ x. x.entry) (h r) in
    by_test (r.entry == e) _
    (λ t. let u : ((f r).entry == e) ≡ true = ap (λ n. n == e) entry ∙ t in rw (u, t) (ap Some (h r)))
    (λ t. let u : ((f r).entry == e) ≡ false = ap (λ n. n == e) entry ∙ t in rw (u, t) rest)

pub map-tags : (f : Row → Row) (rows : List Row) → ((r : Row) → fixed (f r) ≡ fixed r) → map (λ r. r.tag) (map f rows) ≡ map (λ r. r.tag) rows
map-tags f [] h = refl
map-tags f (r ∷ rows) h =
    let tag : (f r).tag ≡ r.tag = ap (λ x. x.tag) (h r) in
    let rest : map (λ r. r.tag) (map f rows) ≡ map (λ r. r.tag) rows = map-tags f rows h in
    rw (tag, rest) refl

pub map-entries : (f : Row → Row) (n : ℕ) (rows : List Row) → ((r : Row) → fixed (f r) ≡ fixed r) → EntriesFrom n rows → EntriesFrom n (map f rows)
map-entries f n [] h e = tt
map-entries f n (r ∷ rows) h e = (ap (λ x. x.entry) (h r) ∙ e.0, map-entries f (n + 1) rows h e.1)

pub push-entries : (n : ℕ) (rows : List Row) (row : Row) → EntriesFrom n rows → row.entry ≡ n + length rows → EntriesFrom n (rows ++ row ∷ [])
push-entries n [] row e h = (omega arith, tt)
push-entries n (r ∷ rows) row e h = (e.0, push-entries (n + 1) rows row e.1 (omega arith))

-- there is no row past the last
pub row_of-past : (n : ℕ) (rows : List Row) (e : ℕ) → EntriesFrom n rows → n + length rows ≤ e → row_of rows e ≡ None
row_of-past n [] e k h = refl
row_of-past n (r ∷ rows) e k h =
    let f : (r.entry == e) ≡ false = eqb-other r.entry e (λ s. let q : r.entry ≡ n = k.0 in omega arith) in
    rw f (row_of-past (n + 1) rows e k.1 (omega arith))

-- the entries count from 1, and the tags differ
pub record AreValid (rows : List Row) : Type 0 where
  pub entries : EntriesFrom 1 rows
  pub tags : IsDistinct bytes_eq (map (λ r. r.tag) rows)

pub changed-valid : (change : Change) (rows : List Row) → NextChange change rows → AreValid rows → AreValid (changed change rows)
changed-valid (Change.Add row) rows h v =
    record {
      entries = push-entries 1 rows row v.entries (omega (arith, h.0));
      tags = rw (map-append (λ (r : Row). r.tag) rows (row ∷ [])) (IsDistinct-push nat_list_eq_equiv (map (λ r. r.tag) rows) row.tag v.tags h.1);
    }
changed-valid (Change.Advance entry state reason time) rows h v =
    record {
      entries = map-entries (with_state entry state reason time) 1 rows (with_state-fixed entry state reason time) v.entries;
      tags = rw (map-tags (with_state entry state reason time) rows (with_state-fixed entry state reason time)) v.tags;
    }

pub changed-fixed : (change : Change) (rows : List Row) (e : ℕ) → NextChange change rows → e ≤ length rows → fixed_row (changed change rows) e ≡ fixed_row rows e
changed-fixed (Change.Add row) rows e h le =
    ap (option_map fixed) (find-push_other (λ r. r.entry == e) rows row (eqb-other row.entry e (λ s. let q : row.entry ≡ length rows + 1 = h.0 in omega arith)))
changed-fixed (Change.Advance entry state reason time) rows e h le = map-fixed (with_state entry state reason time) rows e (with_state-fixed entry state reason time)

pub goes_on-valid : (old new : List Row) → GoesOn old new → AreValid old → AreValid new
goes_on-valid old new (inl e) v = rw e v
goes_on-valid old new (inr g) v = rw g.2 (changed-valid g.0 old g.1 v)

pub goes_on-fixed : (old new : List Row) (e : ℕ) → GoesOn old new → e ≤ length old → fixed_row new e ≡ fixed_row old e
goes_on-fixed old new e (inl s) le = rw s refl
goes_on-fixed old new e (inr g) le = rw g.2 (changed-fixed g.0 old e g.1 le)

pub rows_by-goes_on : (fate : Fate) (change : Option Change) (rows : List Row) → IfSome change (λ c. NextChange c rows) → GoesOn rows (rows_by fate change rows)
rows_by-goes_on Fate.Made (Some change) rows h = inr (change, h, refl)
rows_by-goes_on _ _ rows h = inl refl

pub found-goes_on : (found : Found) (change : Option Change) (rows : List Row) → IfSome change (λ c. NextChange c rows) → GoesOn rows (rows_found found change rows)
found-goes_on Found.Kept (Some change) rows h = inr (change, h, refl)
found-goes_on _ _ rows h = inl refl

-- what is the same of the fixed rows is the same of the board and the digest
pub board-fixed : (facts : Facts) (old new : List Row) (e : ℕ) → fixed_row new e ≡ fixed_row old e → board_of facts new e ≡ board_of facts old e
board-fixed facts old new e h = at (row_of new e) ∙ ap (option_and_then (λ r. board_with facts r.device)) h ∙ sym (at (row_of old e))
  where
    at : (o : Option Row) → option_and_then (λ r. board_with facts r.device) o ≡ option_and_then (λ r. board_with facts r.device) (option_map fixed o)
    at None = refl
    at (Some r) = refl

-- the answer, and the decision, say that the tag is kept
abbrev pub is_kept : Decision → Bool
is_kept (Decision.Kept entry state) = true
is_kept _ = false

abbrev pub is_kept_answer : ClaimAnswer → Bool
is_kept_answer (ClaimAnswer.Kept entry state) = true
is_kept_answer _ = false

pub claim-not_kept : (note : FetchNote) (t : Option Target) (next : ℕ) (d : Decision) (answer : ClaimAnswer) → ClaimAnswered note t next d answer → is_kept_answer answer ≡ false → is_kept d ≡ false
claim-not_kept note t next (Decision.Kept entry state) answer h k = let bad : is_kept_answer (ClaimAnswer.Kept entry state) ≡ false = rw h at k in cc
claim-not_kept note t next (Decision.Refused refusal) answer h k = refl
claim-not_kept note t next (Decision.Accept device release blocks) answer h k = refl

-- where the tag isn't kept, no row has it
pub not_kept : (c : Case) → is_kept (decided c) ≡ false → kept c ≡ None
not_kept c h = at (kept c) h
  where
    at : (o : Option Row) → is_kept (on_kept c o) ≡ false → o ≡ None
    at None g = refl
    at (Some row) g = cc

pub no-tag : (rows : List Row) (tag : List ℕ) → row_with_tag rows tag ≡ None → list_any (bytes_eq tag) (map (λ r. r.tag) rows) ≡ false
no-tag [] tag h = refl
no-tag (r ∷ rows) tag h =
    by_test (bytes_eq tag r.tag) _
    (λ t. let bad : Some r ≡ None = rw t at h in cc)
    (λ t. let rest : row_with_tag rows tag ≡ None = rw t at h in rw (t, no-tag rows tag rest) refl)

pub addition-next : (facts : Facts) (time : ℕ) (entries : List LiveEntry) (k : Known) (client : ℕ) (request : Request) (state : RowState) → row_with_tag k.rows request.tag ≡ None → IfSome (addition facts time entries k client request state) (λ c. NextChange c k.rows)
addition-next facts time entries k client request state h = at (target facts (views_in facts entries k) request)
  where
    at : (o : Option Target) → IfSome (option_map (λ t. Change.Add (new_row (length k.rows + 1) time client request state t)) o) (λ c. NextChange c k.rows)
    at None = tt
    at (Some t) = (refl, no-tag k.rows request.tag h)

-- what a past keeps of the rows
pub record RowsKept (basis : Basis) (past : List Event) : Type 0 where
  pub valid : AreValid (rows basis past)
  pub doubt_next : IfSome (doubt basis past) (λ c. NextChange c (rows basis past))
  pub doubt_off : off past ≡ false → doubt basis past ≡ None

-- and how the rows go on
pub record RowsStep (basis : Basis) (past : List Event) (event : Event) : Type 0 where
  pub kept : RowsKept basis (event ∷ past)
  pub goes_on : GoesOn (rows basis past) (rows basis (event ∷ past))

pub rows-boot : (c : Campaign) (past : List Event) (number time : ℕ) (limit : Option ℕ) (found : Found) (boards : List BoardSeen) → RowsKept c.basis past → FoundAllowed found (doubt c.basis past) → RowsStep c.basis past (Event.Boot number time limit found boards)
rows-boot c past number time limit found boards k a =
    let g = found-goes_on found (doubt c.basis past) (rows c.basis past) k.doubt_next in
    record {
      kept = record {
        valid = goes_on-valid (rows c.basis past) _ g k.valid;
        doubt_next = next found (doubt c.basis past) (rows c.basis past) k.doubt_next a;
        doubt_off = none found (doubt c.basis past) a;
      };
      goes_on = g;
    }
  where
    next : (found : Found) (doubt : Option Change) (rows : List Row) → IfSome doubt (λ c. NextChange c rows) → FoundAllowed found doubt → IfSome (doubt_found found doubt) (λ c. NextChange c (rows_found found doubt rows))
    next Found.Kept doubt rows h a = tt
    next Found.Lost doubt rows h a = tt
    next Found.Plain doubt rows h a = h
    next Found.Fault doubt rows h a = h

    none : (found : Found) (doubt : Option Change) → FoundAllowed found doubt → is_found_fault found ≡ false → doubt_found found doubt ≡ None
    none Found.Plain (Some change) a o = absurd a
    none Found.Fault doubt a o = cc
    none _ _ a o = refl

-- an event by which no change is made or doubted
pub rows-same : (basis : Basis) (past : List Event) (event : Event) → RowsKept basis past → rows basis (event ∷ past) ≡ rows basis past → doubt basis (event ∷ past) ≡ doubt basis past → (off (event ∷ past) ≡ false → off past ≡ false) → RowsStep basis past event
rows-same basis past event k r d o =
    record {
      kept = record { valid = rw r k.valid; doubt_next = rw (d, r) k.doubt_next; doubt_off = λ h. d ∙ k.doubt_off (o h) };
      goes_on = inl r;
    }

-- what became of a change, and whether the boot is off then
abbrev pub is_doubtful : Fate → Bool
is_doubtful Fate.Doubtful = true
is_doubtful _ = false

-- an event that asks for a change
pub rows-asked : (basis : Basis) (past : List Event) (event : Event) (fate : Fate) (change : Option Change) → RowsKept basis past → doubt basis past ≡ None → IfSome change (λ c. NextChange c (rows basis past)) → rows basis (event ∷ past) ≡ rows_by fate change (rows basis past) → doubt basis (event ∷ past) ≡ doubt_by fate change (doubt basis past) → (off (event ∷ past) ≡ false → is_doubtful fate ≡ false) → RowsStep basis past event
rows-asked basis past event fate change k none n r d o =
    let g : GoesOn (rows basis past) (rows_by fate change (rows basis past)) = rows_by-goes_on fate change (rows basis past) n in
    record {
      kept = record {
        valid = rw r (goes_on-valid (rows basis past) _ g k.valid);
        doubt_next = rw (d, r, none) (next fate change (rows basis past) n);
        doubt_off = λ h. rw (d, none) (clear fate change (o h));
      };
      goes_on = rw r g;
    }
  where
    next : (fate : Fate) (change : Option Change) (rows : List Row) → IfSome change (λ c. NextChange c rows) → IfSome (doubt_by fate change None) (λ c. NextChange c (rows_by fate change rows))
    next Fate.Made change rows h = tt
    next Fate.Dropped change rows h = tt
    next Fate.Doubtful change rows h = h

    clear : (fate : Fate) (change : Option Change) → is_doubtful fate ≡ false → doubt_by fate change None ≡ None
    clear Fate.Made change h = refl
    clear Fate.Dropped change h = refl
    clear Fate.Doubtful change h = cc

pub fault-clear : (stored : Stored) → is_fault stored ≡ false → is_doubtful (fate_stored stored) ≡ false
fault-clear Stored.Fault h = cc
fault-clear _ h = refl

pub rows-finish : (basis : Basis) (past : List Event) (client entry : ℕ) (state : RowState) (stored : Stored) → RowsKept basis past → off past ≡ false → is_pending state ≡ false → RowsStep basis past (Event.Finish client entry state stored)
rows-finish basis past client entry state stored k o p =
    rows-asked basis past (Event.Finish client entry state stored) (fate_stored stored) (advance (time_of past) (known basis past) entry state) k (k.doubt_off o) p refl refl
    (λ h. fault-clear stored (or_parts (is_fault stored) (off past) h).0)

-- a claim whose tag isn't kept asks for a change that the rows can take
pub claim-asks : (basis : Basis) (past : List Event) (client : ℕ) (request : Request) (fetched : FetchNote) (answer : ClaimAnswer) (held : Held) → ClaimAllowed basis past client request fetched answer held → is_kept_answer answer ≡ false → IfSome (addition basis.facts (time_of past) (live past) (known basis past) client request RowState.Begun) (λ c. NextChange c (rows basis past))
claim-asks basis past client request fetched answer held a h =
    let d = claim-not_kept fetched (target basis.facts (views basis past) request) (next_entry basis past) (verdict basis past client request (Stage.Claim held.release)) answer a.answer_is h in
    addition-next basis.facts (time_of past) (live past) (known basis past) client request RowState.Begun
    (not_kept (case_of basis past client request (Stage.Claim held.release)) d)

pub rows-claim : (basis : Basis) (past : List Event) (client : ℕ) (request : Request) (fetched : FetchNote) (answer : ClaimAnswer) (held : Held) → RowsKept basis past → off past ≡ false → ClaimAllowed basis past client request fetched answer held → RowsStep basis past (Event.Claim client request fetched answer)
rows-claim basis past client request fetched (ClaimAnswer.Kept entry state) held k o a =
    rows-same basis past (Event.Claim client request fetched (ClaimAnswer.Kept entry state)) k refl refl (λ h. h)
rows-claim basis past client request fetched (ClaimAnswer.Entry entry) held k o a =
    rows-asked basis past (Event.Claim client request fetched (ClaimAnswer.Entry entry)) Fate.Made _ k (k.doubt_off o)
    (claim-asks basis past client request fetched (ClaimAnswer.Entry entry) held a refl) refl refl (λ h. refl)
rows-claim basis past client request fetched (ClaimAnswer.Refused refusal) held k o a =
    rows-asked basis past (Event.Claim client request fetched (ClaimAnswer.Refused refusal)) (fate_answered (ClaimAnswer.Refused refusal)) _ k (k.doubt_off o)
    (claim-asks basis past client request fetched (ClaimAnswer.Refused refusal) held a refl) refl refl
    (λ h. let f : is_keeper_fault refusal ≡ false = (or_parts (is_keeper_fault refusal) (off past) h).0 in rw f refl)

-- neither an end nor a judgement makes a row pending
pub judged-settled : (shown : List ℕ) (row : Row) → is_pending (judge shown row) ≡ false
judged-settled shown row = by_test (same_version shown row.version_new) _ (λ t. rw t refl) (λ t. rw t refl)

pub shown-settled : (shown : Option (List ℕ)) (row : Row) → is_pending (judge_shown shown row) ≡ false
shown-settled None row = refl
shown-settled (Some shown) row = judged-settled shown row

pub closing-settled : (t : Trace) (row : Row) (view : DeviceView) → is_pending (closing_of t row view) ≡ false
closing-settled t row view =
    by_test (ended_well Op.Reload t.steps && is_home view.seen) _
    (λ u. by_test (waits_for_boot t) _ (λ v. rw (u, v) refl) (λ v. rw (u, v) (shown-settled (version_of view) row)))
    (λ u. rw u refl)

pub closed-settled : (basis : Basis) (past : List Event) (entry : ℕ) (closed : RowState) (stored : Stored) → closing basis past entry ≡ Some closed → is_pending (closing_stored closed stored) ≡ false
closed-settled basis past entry closed stored h = store stored (at (trace basis entry past) h)
  where
    at-view : (t : Trace) (row : Row) (o : Option DeviceView) → option_map (closing_of t row) o ≡ Some closed → is_pending closed ≡ false
    at-view t row None g = cc
    at-view t row (Some view) g = let e : closing_of t row view ≡ closed = cc in rw (← e) (closing-settled t row view)

    at-row : (t : Trace) (o : Option Row) → option_and_then (closing_at (views basis past) t) o ≡ Some closed → is_pending closed ≡ false
    at-row t None g = cc
    at-row t (Some row) g = at-view t row (view_of_row (views basis past) row) g

    at : (o : Option Trace) → option_and_then (λ t. option_and_then (closing_at (views basis past) t) (row_of (rows basis past) entry)) o ≡ Some closed → is_pending closed ≡ false
    at None g = cc
    at (Some t) g = at-row t (row_of (rows basis past) entry) g

    store : (stored : Stored) → is_pending closed ≡ false → is_pending (closing_stored closed stored) ≡ false
    store Stored.NoMemory g = refl
    store _ g = g

pub resumption-next : (time : ℕ) (k : Known) (entry : ℕ) (answer : ResumeAnswer) → IfSome (resumption time k entry answer) (λ c. NextChange c k.rows)
resumption-next time k entry ResumeAnswer.Begun = refl
resumption-next time k entry (ResumeAnswer.Refused refusal) =
    by_test (is_keeper_fault refusal) _ (λ t. rw t refl) (λ t. rw t refl)

pub schedule-not_kept : (next : ℕ) (d : Decision) (answer : ClaimAnswer) → ScheduleAnswered next d answer → is_kept_answer answer ≡ false → is_kept d ≡ false
schedule-not_kept next (Decision.Kept entry state) answer h k = let bad : is_kept_answer (ClaimAnswer.Kept entry state) ≡ false = rw h at k in cc
schedule-not_kept next (Decision.Refused refusal) answer h k = refl
schedule-not_kept next (Decision.Accept device release blocks) answer h k = refl

pub schedule-asks : (basis : Basis) (past : List Event) (client : ℕ) (request : Request) (answer : ClaimAnswer) → ScheduleAllowed basis past client request answer → is_kept_answer answer ≡ false → IfSome (addition basis.facts (time_of past) (live past) (known basis past) client request RowState.Pending) (λ c. NextChange c (rows basis past))
schedule-asks basis past client request answer a h =
    let d = schedule-not_kept (next_entry basis past) (verdict basis past client request Stage.Schedule) answer a.answer_is h in
    addition-next basis.facts (time_of past) (live past) (known basis past) client request RowState.Pending
    (not_kept (case_of basis past client request Stage.Schedule) d)

pub rows-schedule : (basis : Basis) (past : List Event) (client : ℕ) (request : Request) (answer : ClaimAnswer) → RowsKept basis past → off past ≡ false → ScheduleAllowed basis past client request answer → RowsStep basis past (Event.Schedule client request answer)
rows-schedule basis past client request (ClaimAnswer.Kept entry state) k o a =
    rows-same basis past (Event.Schedule client request (ClaimAnswer.Kept entry state)) k refl refl (λ h. h)
rows-schedule basis past client request (ClaimAnswer.Entry entry) k o a =
    rows-asked basis past (Event.Schedule client request (ClaimAnswer.Entry entry)) Fate.Made _ k (k.doubt_off o)
    (schedule-asks basis past client request (ClaimAnswer.Entry entry) a refl) refl refl (λ h. refl)
rows-schedule basis past client request (ClaimAnswer.Refused refusal) k o a =
    rows-asked basis past (Event.Schedule client request (ClaimAnswer.Refused refusal)) (fate_answered (ClaimAnswer.Refused refusal)) _ k (k.doubt_off o)
    (schedule-asks basis past client request (ClaimAnswer.Refused refusal) a refl) refl refl
    (λ h. let f : is_keeper_fault refusal ≡ false = (or_parts (is_keeper_fault refusal) (off past) h).0 in rw f refl)

pub rows-resume : (basis : Basis) (past : List Event) (client entry : ℕ) (fetched : Option FetchNote) (answer : ResumeAnswer) (stored : Stored) → RowsKept basis past → off past ≡ false → RowsStep basis past (Event.Resume client entry fetched answer stored)
rows-resume basis past client entry fetched ResumeAnswer.Begun stored k o =
    rows-asked basis past (Event.Resume client entry fetched ResumeAnswer.Begun stored) (fate_stored stored) (resumption (time_of past) (known basis past) entry ResumeAnswer.Begun) k (k.doubt_off o) refl refl refl
    (λ h. fault-clear stored (or_parts (is_fault stored) (off past) h).0)
rows-resume basis past client entry fetched (ResumeAnswer.Refused refusal) stored k o =
    rows-asked basis past (Event.Resume client entry fetched (ResumeAnswer.Refused refusal) stored) (fate_stored stored) (resumption (time_of past) (known basis past) entry (ResumeAnswer.Refused refusal)) k (k.doubt_off o) (resumption-next (time_of past) (known basis past) entry (ResumeAnswer.Refused refusal)) refl refl
    (λ h. fault-clear stored (or_parts (is_keeper_fault refusal) (is_fault stored) (or_parts (is_keeper_fault refusal || is_fault stored) (off past) h).0).1)

pub rows-judge : (basis : Basis) (past : List Event) (client entry : ℕ) (version : List ℕ) (state : RowState) (stored : Stored) → RowsKept basis past → off past ≡ false → is_pending state ≡ false → RowsStep basis past (Event.Judge client entry version state stored)
rows-judge basis past client entry version state stored k o p =
    rows-asked basis past (Event.Judge client entry version state stored) (fate_stored stored) (advance (time_of past) (known basis past) entry state) k (k.doubt_off o) p refl refl
    (λ h. fault-clear stored (or_parts (is_fault stored) (off past) h).0)

pub rows-step-on : (c : Campaign) (past : List Event) (event : Event) → RowsKept c.basis past → BootRuns past event → Allowed c past event → RowsStep c.basis past event
rows-step-on c past (Event.Boot number time limit found boards) k takes a =
    rows-boot c past number time limit found boards k a.1.found_is
rows-step-on c past (Event.Claim client request fetched answer) k takes a =
    rows-claim c.basis past client request fetched answer a.0 k (takes.on refl) a.1
rows-step-on c past (Event.Schedule client request answer) k takes a =
    rows-schedule c.basis past client request answer k (takes.on refl) a
rows-step-on c past (Event.Resume client entry fetched answer stored) k takes a =
    rows-resume c.basis past client entry fetched answer stored k (takes.on refl)
rows-step-on c past (Event.Finish client entry state stored) k takes a =
    rows-finish c.basis past client entry state stored k (takes.on refl)
    (let f = a.2 in let s = closed-settled c.basis past entry a.1 stored f.closing in let e : state ≡ closing_stored a.1 stored = f.state_is in rw e s)
rows-step-on c past (Event.Judge client entry version state stored) k takes a =
    rows-judge c.basis past client entry version state stored k (takes.on refl)
    (let f = a.2 in let e : state ≡ judge version a.0 = f.state_is in rw e (judged-settled version a.0))
rows-step-on c past Event.Cut k takes a =
    rows-same c.basis past Event.Cut k refl refl (λ h. cc)
rows-step-on c past event k takes a =
    rows-same c.basis past event k refl refl (λ h. h)

-- The same in a boot that is below its limit.
pub rows-step : (c : Campaign) (past : List Event) (event : Event) → RowsKept c.basis past → BootTakes past event → Allowed c past event → RowsStep c.basis past event
rows-step c past event k takes a = rows-step-on c past event k (boot-runs past event takes) a
