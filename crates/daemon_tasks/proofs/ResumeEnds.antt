-- A resumption, by the turns of the daemon's own pass: its ask, its resumption, and what follows.
use Rattle.std.proofs.Common.{◌≡◌, ◌≢◌, ℕ, ◌≤◌, ◌+◌, arith, Bool, true, false, List, [], ◌∷◌, ◌++◌, refl, ap, sym, ◌∙◌, subst, append-nil}
use Rattle.std.specs.Prelude.{Option, Some, None, Err, ◌==◌}
use Rattle.history_keeper.specs.declared.row.RowState.{RowState}
use Rattle.update_log.proofs.Lists.{by_test, find-filter_none}
use Rattle.update_log.specs.declared.answer.AskAnswer.{AskAnswer}
use Rattle.update_log.specs.declared.answer.ResumeAnswer.{ResumeAnswer}
use Rattle.update_log.specs.declared.decision.Decision.{Decision}
use Rattle.update_log.specs.declared.decision.Stage.{Stage}
use Rattle.update_log.specs.declared.event.Event.{Event}
use Rattle.update_log.specs.declared.event.Stored.{Stored}
use Rattle.update_log.specs.declared.live.Held.{Held}
use Rattle.update_log.specs.declared.refusal.FetchNote.{FetchNote}
use Rattle.update_log.specs.declared.refusal.Refusal.{Refusal}
use Rattle.update_log.specs.declared.request.Request.{Request}
use Rattle.update_log.specs.Holding.{hold_of, holds, without_client}
use Rattle.update_log.specs.Known.{Target, target}
use Rattle.update_log.specs.Legal.{IsFree, ask_answer}
use Rattle.update_log.specs.Pasts.{client_of, is_boot, last_of}
use Rattle.update_log.specs.Verdicts.{Case, case_of, first_refusal, is_that_release, need, on_found, on_present, present, refusals, refused_or}
use Rattle.daemon_core.specs.declared.fetched.Fetched.{Fetched}
use Rattle.daemon_core.specs.declared.hold.Ticket.{Ticket}
use Rattle.daemon_core.specs.declared.stop.Stop.{Stop}
use Rattle.daemon_core.specs.HouseLog.{IsLegalSo}
use Rattle.daemon_core.specs.Fetches.{block_count}
use Rattle.daemon_core.specs.Holds.{back_of, held_by}
use Rattle.daemon_core.specs.Resumes.{note_in}
use Rattle.client_plays.specs.declared.played.Played.{Played}
use Rattle.client_plays.specs.Faults.{faults_in, faults_noted}
use Rattle.client_plays.specs.Moments.{at}
use Rattle.client_plays.specs.Plays.{ResumeFetches, ResumePlays, TaskPlays, ToResume, UpdatePlays}
use Rattle.client_plays.specs.Tools.{Means}
use Rattle.client_plays.proofs.FaultLaws.{faults-event, faults-same, quiet-one}
use Rattle.client_plays.proofs.PlayLaws.{leaves-nothing, task-unplayed}
use Rattle.turn_lock.specs.Shown.{LockId, PassView}
use Rattle.shared_daemon.specs.declared.entry.Entry.{Entry}
use Rattle.shared_daemon.specs.Calls.{Adds, AddsOn, FoundOff, Took, TurnedIn}
use Rattle.shared_daemon.specs.Closings.{IsFreePass}
use Rattle.shared_daemon.specs.Entries.{past_seen}
use Rattle.shared_daemon.specs.Names.{IsPass, Name}
use Rattle.shared_daemon.specs.Resumed.{MayResumeRow, StoppedIn}
use Rattle.claim_runs.proofs.Clients.{free-met, hold-gone, quiet-free}
use Rattle.claim_runs.proofs.Kept.{past-added}
use Rattle.script_runs.specs.Passes.{Ended, own}
use Rattle.script_runs.proofs.DidLaws.{did-event}
use Rattle.script_runs.proofs.EndedPlays.{ended-after, ended-behind, ended-last, ended-stopped, stopped-did, stopped-held, stopped-off, stopped-own, stopped_as}
use Rattle.script_runs.proofs.FaultEnds.{turn-quiet}
use Rattle.script_runs.proofs.InstallEnds.{play-left}
use Rattle.script_runs.proofs.OwnMoments.{own-event}
use Rattle.daemon_tasks.specs.Resumed.{IsOut, WasGivenUp}
use Rattle.daemon_tasks.specs.Waits.{WaitsIn, rows_seen}

module _ {did : List Entry → List Entry → Type 0} (name : Name) (lock : LockId) (old mid : PassView Entry) (p : IsPass lock name old) (same : mid.number ≡ old.number) (z : old.number ≡ 0) (t : Took name did old mid) where
  -- The daemon's events are those of its pass.
  by-own : (event : Event) → Adds 0 event t.met mid.seen → Adds old.number event t.met mid.seen
  by-own event a = subst (λ (n : ℕ). Adds n event t.met mid.seen) (sym z) a

  own-gained : (event : Event) → is_boot event ≡ false → client_of event ≡ Some 0 → Adds 0 event t.met mid.seen → own mid ≡ own old ++ at (past_seen t.met) event ∷ []
  own-gained event b c a = own-event {did = did} name lock old mid p same t event b (c ∙ ap Some (sym z)) (by-own event a)

  -- ---- a resumption that was stopped

  stopped-turn : (stop : Stop) → StoppedIn stop t.met mid.seen → TurnedIn {A = Unit {0}} old.number (λ _. Event.Cut) (Err stop) t.met mid.seen
  stopped-turn Stop.Off s = subst (λ (n : ℕ). FoundOff n t.met mid.seen) (sym z) s
  stopped-turn Stop.NoMemory s = s

  stopped-same : (stop : Stop) → StoppedIn stop t.met mid.seen → own mid ≡ own old
  stopped-same stop s = stopped-own {did = did} name lock old mid p same t (λ (_ : Unit {0}). Event.Cut) stop (stopped-turn stop s)

  -- What was out is out still.
  pub stopped-out : (held kept : Option (Ticket × Fetched)) (stop : Stop) → kept ≡ held → IsOut held old → StoppedIn stop t.met mid.seen → IsOut kept mid
  stopped-out held kept stop e o s = subst (λ (h : Option (Ticket × Fetched)). IsOut h mid) (sym e) (out held o)
    where
      out : (held : Option (Ticket × Fetched)) → IsOut held old → IsOut held mid
      out None f = let d = stopped-did {did = did} name lock old mid p same t (λ (_ : Unit {0}). Event.Cut) stop f (stopped-turn stop s) in d.free
      out (Some x) h = stopped-held {did = did} name lock old mid p same t (λ (_ : Unit {0}). Event.Cut) stop (held_by x.0 (block_count x.1)) h (stopped-turn stop s)

  -- ---- one that was refused

  resume-frees : (held : Option (Ticket × Fetched)) (entry : ℕ) (note : Option FetchNote) (refusal : Refusal) (stored : Stored) → IsOut held old → Adds 0 (Event.Resume 0 entry note (ResumeAnswer.Refused refusal) stored) t.met mid.seen → IsFreePass mid
  resume-frees (Some x) entry note refusal stored o a =
      let event : Event = Event.Resume 0 entry note (ResumeAnswer.Refused refusal) stored in
      hold-gone {did = did} name lock old mid p same t (held_by x.0 (block_count x.1)) event (λ past. ap (λ (n : ℕ). without_client n (holds past)) (sym z)) (λ past. refl) o (by-own event a)
  resume-frees None entry note refusal stored o a =
      let event : Event = Event.Resume 0 entry note (ResumeAnswer.Refused refusal) stored in
      let n : ℕ = old.number in
      let met : IsFree (past_seen t.met) n = free-met {did = did} name lock old mid p same t o in
      let free : IsFree (event ∷ past_seen t.met) n =
      record {
        hold = ap (λ (i : ℕ). hold_of (without_client i (holds (past_seen t.met))) n) (sym z) ∙ find-filter_none (λ (y : Held). y.client == n) (holds (past_seen t.met));
        live = met.live;
      } in
      subst (λ (i : ℕ). IsFree (past_seen mid.seen) i) (sym same) (subst (λ (w : List Event). IsFree w n) (sym (past-added 0 event t.met mid.seen a)) free)

  -- ---- how many faults of its shelf it tells

  pub resume-told : (entry : ℕ) (note : Option FetchNote) (answer : ResumeAnswer) (stored : Stored) → Adds 0 (Event.Resume 0 entry note answer stored) t.met mid.seen → faults_in (own mid) ≡ faults_in (own old) + faults_noted note
  resume-told entry note answer stored a =
      let event : Event = Event.Resume 0 entry note answer stored in
      faults-event (at (past_seen t.met) event) note (own old) (own mid) (own-gained event refl refl a) refl

  pub stopped-told : (stop : Stop) → StoppedIn stop t.met mid.seen → faults_in (own mid) ≡ faults_in (own old)
  stopped-told stop s = ap faults_in (stopped-same stop s)

  pub asked-told : (entry : ℕ) (request : Request) (answer : AskAnswer) → Adds 0 (Event.Ask 0 request (Some entry) answer) t.met mid.seen → faults_in (own mid) ≡ faults_in (own old)
  asked-told entry request answer a =
      let event : Event = Event.Ask 0 request (Some entry) answer in
      faults-same (at (past_seen t.met) event ∷ []) (own old) (own mid) (own-gained event refl refl a) (quiet-one (at (past_seen t.met) event) refl)

  module _ (means : Means) (entry : ℕ) where
    -- The update of an entry that begins follows on its resumption.
    pub resume-behind : (asked : AskAnswer) (note : Option FetchNote) (stored : Stored) (taken : ℕ) (played : Played) (new : PassView Entry) → ResumeFetches name.basis.facts means.files asked note → Adds 0 (Event.Resume 0 entry note ResumeAnswer.Begun stored) t.met mid.seen → played ≢ Played.NoMemory → taken ≡ entry
        → Ended played (UpdatePlays name.basis means.plugins mid.number taken (past_seen mid.seen)) mid new → Ended played (ResumePlays name.basis means entry asked) old new
    resume-behind asked note stored taken played new f a room q e =
        let event : Event = Event.Resume 0 entry note ResumeAnswer.Begun stored in
        ended-behind played (ResumePlays name.basis means entry asked) (UpdatePlays name.basis means.plugins 0 entry (event ∷ past_seen t.met)) (at (past_seen t.met) event) old mid new
        (own-gained event refl refl a) same (λ w. absurd (room w)) (λ ms u. (note, ResumeAnswer.Begun, stored, refl, f, u))
        (subst (λ (x : ℕ). Ended played (UpdatePlays name.basis means.plugins 0 x (event ∷ past_seen t.met)) mid new) q
        (subst (λ (w : List Event). Ended played (UpdatePlays name.basis means.plugins 0 taken w) mid new) (past-added 0 event t.met mid.seen a)
        (subst (λ (n : ℕ). Ended played (UpdatePlays name.basis means.plugins n taken (past_seen mid.seen)) mid new) (same ∙ z) e)))

    -- It was refused, and nothing is out.
    pub resume-refused : (asked : AskAnswer) (held : Option (Ticket × Fetched)) (refusal : Refusal) (stored : Stored) → ResumeFetches name.basis.facts means.files asked (note_in held) → IsOut held old
        → Adds 0 (Event.Resume 0 entry (note_in held) (ResumeAnswer.Refused refusal) stored) t.met mid.seen → Ended Played.Done (ResumePlays name.basis means entry asked) old mid
    resume-refused asked held refusal stored f o a =
        let event : Event = Event.Resume 0 entry (note_in held) (ResumeAnswer.Refused refusal) stored in
        ended-last (ResumePlays name.basis means entry asked) (at (past_seen t.met) event) old mid
        (note_in held, ResumeAnswer.Refused refusal, stored, refl, f, refl)
        (did-event {did = did} name lock old mid p same t event refl (ap Some (sym z)) (by-own event a) (resume-frees held entry (note_in held) refusal stored o a))

    -- It was stopped, and what was out is given back.
    pub resume-stopped : (asked : AskAnswer) (held kept : Option (Ticket × Fetched)) (stop : Stop) (new : PassView Entry) → ResumeFetches name.basis.facts means.files asked (note_in held) → StoppedIn stop t.met mid.seen
        → IsPass lock name mid → IsOut kept mid → WasGivenUp name kept mid new → Ended (stopped_as stop) (ResumePlays name.basis means entry asked) old new
    resume-stopped asked held kept stop new f s q o w = left kept o w
      where
        left : (kept : Option (Ticket × Fetched)) → IsOut kept mid → WasGivenUp name kept mid new → Ended (stopped_as stop) (ResumePlays name.basis means entry asked) old new
        left None o w =
            subst (λ (x : PassView Entry). Ended (stopped_as stop) (ResumePlays name.basis means entry asked) old x) (sym w)
            (ended-stopped stop (ResumePlays name.basis means entry asked) old mid
            (leaves-nothing old.number (ResumePlays name.basis means entry asked) (at [] (Event.Resume 0 entry (note_in held) (ResumeAnswer.Refused Refusal.NoDevice) Stored.Yes) ∷ []) (note_in held, ResumeAnswer.Refused Refusal.NoDevice, Stored.Yes, refl, f, refl))
            (stopped-off old.number (λ (_ : Unit {0}). Event.Cut) stop t.met mid.seen (stopped-turn stop s))
            (record { same = same; own_are = stopped-same stop s ∙ sym (append-nil (own old)); free = o }))
        left (Some x) o w =
            ended-after (stopped_as stop) (ResumePlays name.basis means entry asked) old mid new (stopped-same stop s) same
            (play-left name lock x.0.request mid new q w.same w.turn (ResumePlays name.basis means entry asked) (at [] (Event.Resume 0 entry (note_in held) (ResumeAnswer.Refused Refusal.NoDevice) Stored.Yes) ∷ [])
            stop x.0.pending (held_by x.0 (block_count x.1)) (note_in held, ResumeAnswer.Refused Refusal.NoDevice, Stored.Yes, refl, f, refl)
            (stopped-off old.number (λ (_ : Unit {0}). Event.Cut) stop t.met mid.seen (stopped-turn stop s)) o w.turn.does)

    -- ---- the ask

    -- The resumption follows on it.
    pub asked-behind : (request : Request) (answer : AskAnswer) (played : Played) (new : PassView Entry) → Adds 0 (Event.Ask 0 request (Some entry) answer) t.met mid.seen
        → Ended played (ResumePlays name.basis means entry answer) mid new → Ended played (TaskPlays name.basis means (ToResume entry)) old new
    asked-behind request answer played new a e =
        let event : Event = Event.Ask 0 request (Some entry) answer in
        ended-behind played (TaskPlays name.basis means (ToResume entry)) (ResumePlays name.basis means entry answer) (at (past_seen t.met) event) old mid new
        (own-gained event refl refl a) same (λ w. refl) (λ ms u. (request, answer, refl, u)) e

    -- It was stopped.
    pub ask-stopped : {A : Type 0} (event : A → Event) (told : Played) (stop : Stop) → told ≡ stopped_as stop → IsFreePass old → TurnedIn 0 event (Err stop) t.met mid.seen → Ended told (TaskPlays name.basis means (ToResume entry)) old mid
    ask-stopped {A} event told stop e f s =
        let turned : TurnedIn old.number event (Err stop) t.met mid.seen = subst (λ (n : ℕ). TurnedIn n event (Err stop) t.met mid.seen) (sym z) s in
        subst (λ (x : Played). Ended x (TaskPlays name.basis means (ToResume entry)) old mid) (sym e)
        (ended-stopped stop (TaskPlays name.basis means (ToResume entry)) old mid (task-unplayed name.basis means old.number (ToResume entry))
        (stopped-off old.number event stop t.met mid.seen turned) (stopped-did {did = did} name lock old mid p same t event stop f turned))

  -- One that was stopped tells no fault.
  pub ask-left : {A : Type 0} (event : A → Event) (stop : Stop) → TurnedIn 0 event (Err stop) t.met mid.seen → faults_in (own mid) ≡ faults_in (own old)
  ask-left event stop s = ap faults_in (stopped-own {did = did} name lock old mid p same t event stop (subst (λ (n : ℕ). TurnedIn n event (Err stop) t.met mid.seen) (sym z) s))

  -- What comes in where it was refused.
  pub refused-may : (entry : ℕ) (request : Request) (refusal : Refusal) → IsFreePass old → WaitsIn (rows_seen name mid.seen) entry → AddsOn 0 (Event.Ask 0 request (Some entry) (AskAnswer.Refused refusal)) t.met mid.seen → MayResumeRow name entry None mid.seen
  refused-may entry request refusal f w a =
      let event : Event = Event.Ask 0 request (Some entry) (AskAnswer.Refused refusal) in
      let own-adds : AddsOn old.number event t.met mid.seen = (a.0, by-own event a.1) in
      record {
        row = w.row;
        row_is = w.row_is;
        pending = w.pending;
        has = record {
          refusal = refusal;
          event = event;
          free = subst (λ (n : ℕ). IsFree (past_seen mid.seen) n) (same ∙ z) (quiet-free {did = did} name lock old mid p same t event (λ past. refl) (λ past. refl) f own-adds);
          last = ap (last_of 0) (past-added 0 event t.met mid.seen a.1);
          refused = (refl, refl);
        };
      }

-- ---- an ask for such a row is never answered by another entry of its tag

abbrev is_kept_ask : AskAnswer → Bool
is_kept_ask (AskAnswer.Hold blocks release) = false
is_kept_ask (AskAnswer.Kept entry state) = true
is_kept_ask (AskAnswer.Refused refusal) = false

target-not_kept : (c : Case) (t : Target) (o : Option Refusal) → is_kept_ask (ask_answer (refused_or o (Decision.Accept t.place t.chosen.at (need t)))) ≡ false
target-not_kept c t None = refl
target-not_kept c t (Some refusal) = refl

found-not_kept : (c : Case) (o : Option Target) → is_kept_ask (ask_answer (on_found c o)) ≡ false
found-not_kept c None = refl
found-not_kept c (Some t) =
    by_test (is_that_release c t.chosen) _
    (λ u. rw u (target-not_kept c t (first_refusal (refusals c t))))
    (λ u. rw u refl)

present-not_kept : (c : Case) (o : Option ℕ) → is_kept_ask (ask_answer (on_present c o)) ≡ false
present-not_kept c None = refl
present-not_kept c (Some at) = found-not_kept c (target c.facts c.views c.request)

pub pending-not_kept : (name : Name) (lock : LockId) (pass : PassView Entry) (entry kept : ℕ) (state : RowState) (request : Request) (met : List Entry) → IsPass lock name pass → Adds 0 (Event.Ask 0 request (Some entry) (AskAnswer.Kept kept state)) met pass.seen → ⊥
pending-not_kept name lock pass entry kept state request met p a =
    let event = Event.Ask 0 request (Some entry) (AskAnswer.Kept kept state) in
    let l : IsLegalSo name.basis name.first (event ∷ past_seen met) = subst (λ (x : List Event). IsLegalSo name.basis name.first x) (past-added 0 event met pass.seen a) p.log.legal in
    let allowed = l.1.2 in
    let c : Case = case_of name.basis (past_seen met) 0 request (Stage.AskPending entry) in
    let bad : true ≡ false = ap is_kept_ask allowed.answer_is ∙ present-not_kept c (present c) in
    cc

-- What was given back tells no fault of a shelf.
pub given-told : (name : Name) (lock : LockId) (kept : Option (Ticket × Fetched)) (mid new : PassView Entry) → IsPass lock name mid → WasGivenUp name kept mid new → faults_in (own new) ≡ faults_in (own mid)
given-told name lock None mid new p w = ap (λ (x : PassView Entry). faults_in (own x)) w
given-told name lock (Some x) mid new p w =
    turn-quiet name lock mid new p w.same w.turn (Event.GiveBack mid.number (back_of x.0.pending x.0.request)) refl refl refl w.turn.does

-- Where nothing was fetched, no more is told.
pub unfetched : (a b c : ℕ) → b ≡ a → c ≤ b + faults_noted None → c ≤ a
unfetched a b c x y = omega arith
