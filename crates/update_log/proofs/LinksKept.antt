-- Each legal past keeps the links of the rows, and a failed row as it is.
use Rattle.std.proofs.Common.{◌≡◌, ℕ, Bool, true, false, ◌&&◌, not, List, [], ◌∷◌, ◌++◌, refl, ap, sym, ◌∙◌, ◌<◌, ◌≤◌, ◌+◌, arith, length, subst}
use Rattle.std.proofs.lemmas.Bool.{eqb-true}
use Rattle.std.proofs.lemmas.List.{reverse-append}
use Rattle.std.specs.Prelude.{Option, Some, None, IfSome, ◌==◌, find, option_map, option_and_then, unwrap_or}
use Rattle.std.specs.List.{AllByRecursion, list_any}
use Rattle.std.specs.Option.{option_or}
use Rattle.std.specs.Str.{bytes_eq}
use Rattle.history_keeper.specs.Histories.{IsHistory, is_failed, tries}
use Rattle.history_keeper.specs.declared.change.Change.{Change}
use Rattle.history_keeper.specs.declared.row.Row.{Row}
use Rattle.history_keeper.specs.declared.row.RowState.{RowState}
use Rattle.update_log.proofs.Accepts.{NoneRefuses, accepts-target}
use Rattle.update_log.proofs.HoldsMade.{row-within}
use Rattle.update_log.proofs.LegalOnce.{past-kept, past-kept-on}
use Rattle.update_log.proofs.LinksOnce.{AllLinked, KeepsFailures, KeepsLinks, TriedOnce, all-linked, by-failures, by-links, by-tried, failure-of, failure_of, found-failures, found-links, found-tried, tried-once}
use Rattle.update_log.proofs.Lists.{All-find, by_test, find-passes, map-none}
use Rattle.update_log.proofs.Openings.{EntriesFrom, bytes-same, entries-from}
use Rattle.update_log.proofs.Rows.{accepted-claim, rows_by-refused}
use Rattle.update_log.proofs.RowsKept.{RowsKept}
use Rattle.update_log.proofs.Unlimited.{boot-runs, unlimited}
use Rattle.update_log.proofs.WaitsKept.{IsAccepted, WaitKept, accepted-schedule, asks, decided-not, doubted-claim, doubted-schedule, wait-kept, wait-kept-on}
use Rattle.update_log.proofs.WaitsOnce.{only-state, state_of}
use Rattle.update_log.specs.Holding.{live}
use Rattle.update_log.specs.Known.{Basis, Fate, Target, advance, doubt, doubt_by, doubt_found, fate_answered, fate_stored, known, new_row, reason_of, refusal_number, row_of, rows, rows_by, rows_found, target, views}
use Rattle.update_log.specs.Legal.{Allowed, BootRuns, ClaimAllowed, FinishAllowed, IsLegal, IsLegalUnlimited, Legal, ResumeAllowed, ScheduleAllowed, may_judge, next_entry}
use Rattle.update_log.specs.Pasts.{is_keeper_fault, off, past_of, time_of}
use Rattle.update_log.specs.Shows.{Campaign}
use Rattle.update_log.specs.Verdicts.{Case, case_of, fault_of, fault_where, is_own, is_retry, not_failed, of_other_device, pending_of, retried, row_fault, verdict}
use Rattle.update_log.specs.declared.answer.ClaimAnswer.{ClaimAnswer}
use Rattle.update_log.specs.declared.answer.ResumeAnswer.{ResumeAnswer}
use Rattle.update_log.specs.declared.decision.Stage.{Stage}
use Rattle.update_log.specs.declared.event.BoardSeen.{BoardSeen}
use Rattle.update_log.specs.declared.event.Event.{Event}
use Rattle.update_log.specs.declared.event.Found.{Found}
use Rattle.update_log.specs.declared.event.Stored.{Stored}
use Rattle.update_log.specs.declared.live.Held.{Held}
use Rattle.update_log.specs.declared.live.LiveEntry.{LiveEntry}
use Rattle.update_log.specs.declared.refusal.FetchNote.{FetchNote}
use Rattle.update_log.specs.declared.refusal.Refusal.{Refusal}
use Rattle.update_log.specs.declared.refusal.RetryFault.{RetryFault}
use Rattle.update_log.specs.declared.request.Request.{Request}

-- What each legal past keeps of the links, and how its failed rows go on.
pub record LinkKept (basis : Basis) (past : List Event) : Type 0 where
  pub linked : AllLinked (rows basis past)
  pub once : TriedOnce (rows basis past)
  pub doubt_links : IfSome (doubt basis past) (λ c. KeepsLinks c (rows basis past))

pub record LinkStep (basis : Basis) (past : List Event) (event : Event) : Type 0 where
  pub kept : LinkKept basis (event ∷ past)
  pub failures : KeepsFailures (rows basis past) (rows basis (event ∷ past))

-- ---- a request that is accepted names a row that it can try again, if any

or-none : {X : Type 0} (a b : Option X) → option_or a b ≡ None → (a ≡ None) × (b ≡ None)
or-none None b h = (refl, h)
or-none (Some x) b h = cc

where-none : (b : Bool) (fault : RetryFault) → fault_where (not b) fault ≡ None → b ≡ true
where-none true fault h = refl
where-none false fault h = cc

and-not : (a b : Bool) → (a && not b) ≡ false → b ≡ false → a ≡ false
and-not false b h g = refl
and-not true true h g = cc
and-not true false h g = cc

-- where nothing that isn't passed over is found, and nothing is passed over
none-found : (p q : Row → Bool) (rs : List Row) → ((r : Row) → q r ≡ false) → find (λ r. p r && not (q r)) rs ≡ None → list_any p rs ≡ false
none-found p q [] n h = refl
none-found p q (r ∷ rs) n h =
    by_test (p r && not (q r)) _
    (λ t. let bad : Some r ≡ None = rw t at h in cc)
    (λ f. let rest : find (λ x. p x && not (q x)) rs ≡ None = rw f at h in
    let here : p r ≡ false = and-not (p r) (q r) f (n r) in
    rw here (none-found p q rs n rest))

-- What is known of the row that the request names.
abbrev CanTry : Case → Target → ℕ → Type 0
CanTry c t entry = (entry < length c.rows + 1) × (failure_of c.rows entry ≡ Some t.view.sheet.device) × (list_any (tries entry) c.rows ≡ false)

can-try : (c : Case) (t : Target) (entry : ℕ) (r : Row) → pending_of c.stage ≡ None → EntriesFrom 1 c.rows → row_of c.rows entry ≡ Some r → row_fault c t entry r ≡ None → CanTry c t entry
can-try c t entry r own v is h =
    let one = or-none (of_other_device t r) _ h in
    let two = or-none (not_failed r) _ one.1 in
    let three = or-none (retried c entry) _ two.1 in
    let device : r.device ≡ t.view.sheet.device = bytes-same r.device t.view.sheet.device (where-none (bytes_eq r.device t.view.sheet.device) RetryFault.OtherDevice one.0) in
    let failed : is_failed r.state ≡ true = where-none (is_failed r.state) (RetryFault.NotFailed r.state) two.0 in
    let alone : find (is_retry c entry) c.rows ≡ None = map-none (λ (x : Row). RetryFault.Retried x.entry) (find (is_retry c entry) c.rows) three.0 in
    let known_is : entry ≤ length c.rows = row-within c.rows entry r v is in (
      omega (arith, known_is),
      failure-of c.rows entry r is failed ∙ ap Some device,
      none-found (tries entry) (is_own c) c.rows (λ x. ap (λ o. unwrap_or (option_map (λ n. n == x.entry) o) false) own) alone,
    )

named-can : (c : Case) (t : Target) (entry : ℕ) (o : Option Row) → pending_of c.stage ≡ None → EntriesFrom 1 c.rows → row_of c.rows entry ≡ o → fault_of c t entry o ≡ None → CanTry c t entry
named-can c t entry None own v is h = cc
named-can c t entry (Some r) own v is h = can-try c t entry r own v is h

request-can : (c : Case) (t : Target) (o : Option ℕ) → pending_of c.stage ≡ None → EntriesFrom 1 c.rows → option_map (λ fault. Refusal.Retry fault) (option_and_then (λ entry. fault_of c t entry (row_of c.rows entry)) o) ≡ None → IfSome o (CanTry c t)
request-can c t None own v h = tt
request-can c t (Some entry) own v h =
    named-can c t entry (row_of c.rows entry) own v refl (map-none (λ fault. Refusal.Retry fault) (fault_of c t entry (row_of c.rows entry)) h)

-- The change that such a request asks for keeps the links.
accept-links : (basis : Basis) (past : List Event) (client : ℕ) (request : Request) (stage : Stage) (state : RowState) → pending_of stage ≡ None → EntriesFrom 1 (rows basis past) → IsAccepted (verdict basis past client request stage) → IfSome (asks basis past client request state) (λ c. KeepsLinks c (rows basis past))
accept-links basis past client request stage state own v d =
    let u = accepts-target (case_of basis past client request stage) d.0 d.1 d.2 d.3 in
    let t : Target = u.0 in
    let has = u.1 in
    let n : NoneRefuses (case_of basis past client request stage) t = has.none in
    subst (λ (o : Option Target). IfSome (option_map (λ x. Change.Add (new_row (length (rows basis past) + 1) (time_of past) client request state x)) o) (λ c. KeepsLinks c (rows basis past)))
    (sym has.found)
    (request-can (case_of basis past client request stage) t request.retry_of own v n.is_retry)

-- ---- one event more

-- an event that leaves the rows and the doubt
link-same : (basis : Basis) (past : List Event) (event : Event) → LinkKept basis past → rows basis (event ∷ past) ≡ rows basis past → doubt basis (event ∷ past) ≡ doubt basis past → LinkStep basis past event
link-same basis past event k r d =
    record {
      kept = record {
        linked = subst AllLinked (sym r) k.linked;
        once = subst TriedOnce (sym r) k.once;
        doubt_links = rw (d, r) k.doubt_links;
      };
      failures = λ entry row is f. ap (λ (rs : List Row). row_of rs entry) r ∙ is;
    }

-- an event that asks for a change
link-asked : (basis : Basis) (past : List Event) (event : Event) (fate : Fate) (change : Option Change) → LinkKept basis past → doubt basis past ≡ None → IfSome change (λ c. KeepsLinks c (rows basis past)) → rows basis (event ∷ past) ≡ rows_by fate change (rows basis past) → doubt basis (event ∷ past) ≡ doubt_by fate change (doubt basis past) → LinkStep basis past event
link-asked basis past event fate change k none n r d =
    record {
      kept = record {
        linked = subst AllLinked (sym r) (by-links fate change (rows basis past) n k.linked);
        once = subst TriedOnce (sym r) (by-tried fate change (rows basis past) n k.once);
        doubt_links = rw (d, r, none) (next fate change (rows basis past) n);
      };
      failures = subst (KeepsFailures (rows basis past)) (sym r) (by-failures fate change (rows basis past) n);
    }
  where
    next : (fate : Fate) (change : Option Change) (rows : List Row) → IfSome change (λ c. KeepsLinks c rows) → IfSome (doubt_by fate change None) (λ c. KeepsLinks c (rows_by fate change rows))
    next Fate.Made change rows h = tt
    next Fate.Dropped change rows h = tt
    next Fate.Doubtful change rows h = h

link-boot : (basis : Basis) (past : List Event) (number time : ℕ) (limit : Option ℕ) (found : Found) (boards : List BoardSeen) → LinkKept basis past → LinkStep basis past (Event.Boot number time limit found boards)
link-boot basis past number time limit found boards k =
    record {
      kept = record {
        linked = found-links found (doubt basis past) (rows basis past) k.doubt_links k.linked;
        once = found-tried found (doubt basis past) (rows basis past) k.doubt_links k.once;
        doubt_links = next found (doubt basis past) (rows basis past) k.doubt_links;
      };
      failures = found-failures found (doubt basis past) (rows basis past) k.doubt_links;
    }
  where
    next : (found : Found) (doubt : Option Change) (rows : List Row) → IfSome doubt (λ c. KeepsLinks c rows) → IfSome (doubt_found found doubt) (λ c. KeepsLinks c (rows_found found doubt rows))
    next Found.Kept doubt rows h = tt
    next Found.Lost doubt rows h = tt
    next Found.Plain doubt rows h = h
    next Found.Fault doubt rows h = h

-- a row in a state that isn't failed may get another one
unfailed : (basis : Basis) (past : List Event) (entry : ℕ) (state : RowState) → RowsKept basis past → state_of (rows basis past) entry ≡ Some state → is_failed state ≡ false → AllByRecursion (λ r. (r.entry == entry) ≡ true → is_failed r.state ≡ false) (rows basis past)
unfailed basis past entry state r is f = only-state (λ s. is_failed s ≡ false) 1 (rows basis past) entry state r.valid.entries is f

link-claim : (basis : Basis) (past : List Event) (client : ℕ) (request : Request) (fetched : FetchNote) (answer : ClaimAnswer) (held : Held) → LinkKept basis past → RowsKept basis past → off past ≡ false → ClaimAllowed basis past client request fetched answer held → LinkStep basis past (Event.Claim client request fetched answer)
link-claim basis past client request fetched (ClaimAnswer.Kept entry state) held k r o a =
    link-same basis past (Event.Claim client request fetched (ClaimAnswer.Kept entry state)) k refl refl
link-claim basis past client request fetched (ClaimAnswer.Entry entry) held k r o a =
    let d = accepted-claim fetched (target basis.facts (views basis past) request) (next_entry basis past) (verdict basis past client request (Stage.Claim held.release)) entry a.answer_is in
    link-asked basis past (Event.Claim client request fetched (ClaimAnswer.Entry entry)) Fate.Made _ k (r.doubt_off o)
    (accept-links basis past client request (Stage.Claim held.release) RowState.Begun refl r.valid.entries (d.0, d.1, d.2, d.3))
    refl refl
link-claim basis past client request fetched (ClaimAnswer.Refused refusal) held k r o a =
    by_test (is_keeper_fault refusal) _
    (λ f. link-asked basis past event (fate_answered (ClaimAnswer.Refused refusal)) (asks basis past client request RowState.Begun) k (r.doubt_off o)
    (accept-links basis past client request (Stage.Claim held.release) RowState.Begun refl r.valid.entries
    (doubted-claim fetched (target basis.facts (views basis past) request) (next_entry basis past) (verdict basis past client request (Stage.Claim held.release)) refusal a.answer_is f
    (decided-not (case_of basis past client request (Stage.Claim held.release)))))
    refl refl)
    (λ f. link-same basis past event k (rows_by-refused (is_keeper_fault refusal) (asks basis past client request RowState.Begun) (rows basis past)) (rw f refl))
  where
    event : Event
    event = Event.Claim client request fetched (ClaimAnswer.Refused refusal)

link-schedule : (basis : Basis) (past : List Event) (client : ℕ) (request : Request) (answer : ClaimAnswer) → LinkKept basis past → RowsKept basis past → off past ≡ false → ScheduleAllowed basis past client request answer → LinkStep basis past (Event.Schedule client request answer)
link-schedule basis past client request (ClaimAnswer.Kept entry state) k r o a =
    link-same basis past (Event.Schedule client request (ClaimAnswer.Kept entry state)) k refl refl
link-schedule basis past client request (ClaimAnswer.Entry entry) k r o a =
    link-asked basis past (Event.Schedule client request (ClaimAnswer.Entry entry)) Fate.Made _ k (r.doubt_off o)
    (accept-links basis past client request Stage.Schedule RowState.Pending refl r.valid.entries
    (accepted-schedule (next_entry basis past) (verdict basis past client request Stage.Schedule) entry a.answer_is))
    refl refl
link-schedule basis past client request (ClaimAnswer.Refused refusal) k r o a =
    by_test (is_keeper_fault refusal) _
    (λ f. link-asked basis past event (fate_answered (ClaimAnswer.Refused refusal)) (asks basis past client request RowState.Pending) k (r.doubt_off o)
    (accept-links basis past client request Stage.Schedule RowState.Pending refl r.valid.entries
    (doubted-schedule (next_entry basis past) (verdict basis past client request Stage.Schedule) refusal a.answer_is f
    (decided-not (case_of basis past client request Stage.Schedule))))
    refl refl)
    (λ f. link-same basis past event k (rows_by-refused (is_keeper_fault refusal) (asks basis past client request RowState.Pending) (rows basis past)) (rw f refl))
  where
    event : Event
    event = Event.Schedule client request (ClaimAnswer.Refused refusal)

-- a row that is resumed is pending, one that is finished is begun, and one that is judged is begun or waits for a boot
link-resume : (basis : Basis) (past : List Event) (client entry : ℕ) (fetched : Option FetchNote) (answer : ResumeAnswer) (stored : Stored) (row : Row) → LinkKept basis past → RowsKept basis past → off past ≡ false → ResumeAllowed basis past client entry fetched answer stored row → LinkStep basis past (Event.Resume client entry fetched answer stored)
link-resume basis past client entry fetched ResumeAnswer.Begun stored row k r o a =
    link-asked basis past (Event.Resume client entry fetched ResumeAnswer.Begun stored) (fate_stored stored) (advance (time_of past) (known basis past) entry RowState.Begun) k (r.doubt_off o)
    (unfailed basis past entry RowState.Pending r (ap (option_map (λ x. x.state)) a.row_is ∙ ap Some a.pending) refl) refl refl
link-resume basis past client entry fetched (ResumeAnswer.Refused refusal) stored row k r o a =
    by_test (is_keeper_fault refusal) _
    (λ t. link-asked basis past event (fate_stored stored) (Some (Change.Advance entry RowState.Begun (reason_of (rows basis past) entry) (time_of past))) k (r.doubt_off o)
    pending (rw t refl) (rw t refl))
    (λ t. link-asked basis past event (fate_stored stored) (Some (Change.Advance entry RowState.Failed (refusal_number refusal) (time_of past))) k (r.doubt_off o)
    pending (rw t refl) (rw t refl))
  where
    event : Event
    event = Event.Resume client entry fetched (ResumeAnswer.Refused refusal) stored

    pending : AllByRecursion (λ x. (x.entry == entry) ≡ true → is_failed x.state ≡ false) (rows basis past)
    pending = unfailed basis past entry RowState.Pending r (ap (option_map (λ x. x.state)) a.row_is ∙ ap Some a.pending) refl

link-finish : (basis : Basis) (past : List Event) (client entry : ℕ) (state : RowState) (stored : Stored) (l : LiveEntry) (closed : RowState) → LinkKept basis past → WaitKept basis past → RowsKept basis past → off past ≡ false → FinishAllowed basis past client entry state stored l closed → LinkStep basis past (Event.Finish client entry state stored)
link-finish basis past client entry state stored l closed k w r o a =
    let same : l.entry ≡ entry = eqb-true l.entry entry (find-passes (λ x. x.entry == entry) (live past) l a.live) in
    let at : state_of (rows basis past) l.entry ≡ Some RowState.Begun = All-find (λ x. state_of (rows basis past) x.entry ≡ Some RowState.Begun) (λ x. x.entry == entry) (live past) l w.begun a.live in
    let is : state_of (rows basis past) entry ≡ Some RowState.Begun = ap (state_of (rows basis past)) (sym same) ∙ at in
    link-asked basis past (Event.Finish client entry state stored) (fate_stored stored) (advance (time_of past) (known basis past) entry state) k (r.doubt_off o)
    (unfailed basis past entry RowState.Begun r is refl) refl refl

judged-unfailed : (past : List Event) (entry : ℕ) (state : RowState) → may_judge past state entry ≡ true → is_failed state ≡ false
judged-unfailed past entry RowState.Failed h = cc
judged-unfailed past entry _ h = refl

link-judge : (basis : Basis) (past : List Event) (client entry : ℕ) (version : List ℕ) (state : RowState) (stored : Stored) (row : Row) → LinkKept basis past → RowsKept basis past → off past ≡ false → row_of (rows basis past) entry ≡ Some row → may_judge past row.state entry ≡ true → LinkStep basis past (Event.Judge client entry version state stored)
link-judge basis past client entry version state stored row k r o is waits =
    link-asked basis past (Event.Judge client entry version state stored) (fate_stored stored) (advance (time_of past) (known basis past) entry state) k (r.doubt_off o)
    (unfailed basis past entry row.state r (ap (option_map (λ x. x.state)) is) (judged-unfailed past entry row.state waits)) refl refl

link-step : (c : Campaign) (past : List Event) (event : Event) → LinkKept c.basis past → WaitKept c.basis past → RowsKept c.basis past → BootRuns past event → Allowed c past event → LinkStep c.basis past event
link-step c past (Event.Boot number time limit found boards) k w r b a = link-boot c.basis past number time limit found boards k
link-step c past (Event.Claim client request fetched answer) k w r b a = link-claim c.basis past client request fetched answer a.0 k r (b.on refl) a.1
link-step c past (Event.Schedule client request answer) k w r b a = link-schedule c.basis past client request answer k r (b.on refl) a
link-step c past (Event.Resume client entry fetched answer stored) k w r b a = link-resume c.basis past client entry fetched answer stored a.0 k r (b.on refl) a.1
link-step c past (Event.Finish client entry state stored) k w r b a = link-finish c.basis past client entry state stored a.0 a.1 k w r (b.on refl) a.2
link-step c past (Event.Judge client entry version state stored) k w r b a =
    let j = a.2 in link-judge c.basis past client entry version state stored a.0 k r (b.on refl) j.row_is j.waits
link-step c past event k w r b a = link-same c.basis past event k refl refl

-- ---- all events

pub link-kept-on : (c : Campaign) (past : List Event) → IsHistory c.basis.opening → IsLegalUnlimited c past → LinkKept c.basis past
link-kept-on c [] valid legal =
    record { linked = all-linked c.basis.opening (entries-from 1 c.basis.opening valid.entries) valid.linked; once = tried-once c.basis.opening valid.retried; doubt_links = tt }
link-kept-on c (event ∷ past) valid legal =
    let k = past-kept-on c past valid legal.0 in
    let s = link-step c past event (link-kept-on c past valid legal.0) (wait-kept-on c past valid legal.0) k.rows_kept legal.1 legal.2 in
    s.kept

-- The same of legal pasts.
pub link-kept : (c : Campaign) (past : List Event) → IsHistory c.basis.opening → IsLegal c past → LinkKept c.basis past
link-kept c past valid legal = link-kept-on c past valid (unlimited c past legal)

failed-later : (c : Campaign) (late past : List Event) → IsHistory c.basis.opening → IsLegal c (late ++ past) → KeepsFailures (rows c.basis past) (rows c.basis (late ++ past))
failed-later c [] past valid legal = λ entry r is f. is
failed-later c (event ∷ late) past valid legal = λ entry r is f.
    let k = past-kept c (late ++ past) valid legal.0 in
    let s = link-step c (late ++ past) event (link-kept c (late ++ past) valid legal.0) (wait-kept c (late ++ past) valid legal.0) k.rows_kept (boot-runs (late ++ past) event legal.1) legal.2 in
    s.failures entry r (failed-later c late past valid legal.0 entry r is f) f

pub failed-stays : (c : Campaign) (log later : List Event) (entry : ℕ) (row : Row) → IsHistory c.basis.opening → Legal c (log ++ later) → row_of (rows c.basis (past_of log)) entry ≡ Some row → row.state ≡ RowState.Failed → row_of (rows c.basis (past_of (log ++ later))) entry ≡ Some row
failed-stays c log later entry row valid legal is failed =
    let split : past_of (log ++ later) ≡ past_of later ++ past_of log = reverse-append log later in
    subst (λ (past : List Event). row_of (rows c.basis past) entry ≡ Some row) (sym split)
    (failed-later c (past_of later) (past_of log) valid (subst (IsLegal c) split legal) entry row is (ap is_failed failed))
