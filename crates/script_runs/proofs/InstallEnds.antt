-- An install: its ask, its claim, and what follows.
use Rattle.std.proofs.Common.{◌≡◌, ◌≢◌, ℕ, Bool, true, false, List, [], ◌∷◌, refl, ap, sym, ◌∙◌, subst}
use Rattle.std.specs.Prelude.{Option, Some, None, MatchBool, Err}
use Rattle.history_keeper.specs.declared.row.Row.{Row}
use Rattle.release_catalogue.specs.declared.reference.ReleaseRef.{ReleaseRef}
use Rattle.update_log.specs.declared.answer.AskAnswer.{AskAnswer}
use Rattle.update_log.specs.declared.answer.ClaimAnswer.{ClaimAnswer}
use Rattle.update_log.specs.declared.event.Event.{Event}
use Rattle.update_log.specs.declared.facts.Facts.{Facts}
use Rattle.update_log.specs.declared.live.Held.{Held}
use Rattle.update_log.specs.declared.refusal.FetchNote.{FetchNote}
use Rattle.update_log.specs.declared.refusal.Refusal.{Refusal}
use Rattle.update_log.specs.declared.request.Request.{Request}
use Rattle.update_log.specs.Holding.{hold, holds, live}
use Rattle.update_log.specs.Pasts.{off}
use Rattle.update_log.specs.Known.{Basis, basis_of}
use Rattle.daemon_core.specs.declared.claimed.ClaimStop.{ClaimStop}
use Rattle.daemon_core.specs.declared.fetched.Fetched.{Fetched}
use Rattle.daemon_core.specs.declared.hold.Hold.{Hold}
use Rattle.daemon_core.specs.declared.hold.Ticket.{Ticket}
use Rattle.daemon_core.specs.declared.stop.Stop.{Stop}
use Rattle.daemon_core.specs.Fetches.{block_count, note_of}
use Rattle.daemon_core.specs.Holds.{IsHoldFor, back_of, held_by}
use Rattle.client_scripts.specs.declared.item.Item.{Item}
use Rattle.client_plays.specs.declared.played.Played.{Played}
use Rattle.client_plays.specs.Moments.{Moment, at}
use Rattle.client_plays.specs.Plays.{AfterAsk, AfterClaim, Alone, ClaimPlays, InstallPlays, Plays, SchedulePlays, UpdatePlays}
use Rattle.client_plays.specs.Shelves.{IsFetched}
use Rattle.client_plays.specs.Tools.{Means, files_alone}
use Rattle.client_plays.proofs.PlayLaws.{leaves-nothing}
use Rattle.client_plays.proofs.WiderLaws.{claim-wider}
use Rattle.turn_lock.specs.Shown.{LockId, PassView}
use Rattle.shared_daemon.specs.declared.entry.Entry.{Entry}
use Rattle.shared_daemon.specs.Calls.{Adds, AddsOn, Took, TurnedIn}
use Rattle.shared_daemon.specs.Closings.{IsFreePass}
use Rattle.shared_daemon.specs.Entries.{past_seen}
use Rattle.shared_daemon.specs.Names.{IsPass, Name}
use Rattle.claim_runs.proofs.Clients.{hold-gone}
use Rattle.claim_runs.proofs.Kept.{off-stay, past-added}
use Rattle.script_runs.specs.Passes.{Ended, own}
use Rattle.script_runs.proofs.DidLaws.{did-event, did-quiet}
use Rattle.script_runs.proofs.EndedPlays.{ended-after, ended-back, ended-behind, ended-last, ended-stopped, ended-wider, stopped-did, stopped-off, stopped_as}
use Rattle.script_runs.proofs.OwnMoments.{own-event}

-- A hold is for the request of its own ticket.
pub hold-self : (facts : Facts) (client number : ℕ) (request : Request) (given : Hold) → number ≡ client → IsHoldFor facts client request None given → IsHoldFor facts number given.ticket.request None given
hold-self facts client number request given s h =
    record {
      client_is = h.client_is ∙ sym s;
      request_is = refl;
      pending_is = h.pending_is;
      blocks_are = h.blocks_are;
      release = h.release;
      release_at = h.release_at;
      digest_is = h.digest_is;
      size_is = h.size_is;
    }

-- What is given back leaves the live entries.
back-live : (client : ℕ) (pending : Option ℕ) (request : Request) (past : List Event) → live (Event.GiveBack client (back_of pending request) ∷ past) ≡ live past
back-live client None request past = refl
back-live client (Some entry) request past = refl

online-plays : (basis : Basis) (means : Means) (client : ℕ) (request : Request) (offline : Bool) (moments : List Moment) → offline ≡ false → InstallPlays basis means client request moments
    → MatchBool offline (Alone (SchedulePlays client request) moments) (InstallPlays basis means client request moments)
online-plays basis means client request true moments e p = cc
online-plays basis means client request false moments e p = p

-- A claim that was stopped hands the ticket and what was fetched back.
pub held-back : (stopped : ClaimStop) (ticket : Ticket) (fetched : Fetched) (out : Option Held) → stopped.ticket ≡ ticket → stopped.fetched ≡ fetched → out ≡ Some (held_by ticket (block_count fetched)) → out ≡ Some (held_by stopped.ticket (block_count stopped.fetched))
held-back stopped ticket fetched out t f h =
    subst (λ (x : Ticket). out ≡ Some (held_by x (block_count stopped.fetched))) (sym t)
    (subst (λ (y : Fetched). out ≡ Some (held_by ticket (block_count y))) (sym f) h)

pub claim-stopped : (basis : Basis) (means : Means) (stopped : ClaimStop) (ticket : Ticket) (fetched : Fetched) (played : Played) (old mid new : PassView Entry) → stopped.ticket ≡ ticket → stopped.fetched ≡ fetched → own mid ≡ own old → mid.number ≡ old.number
    → IsFetched basis.facts means.files ticket.release (note_of fetched) → (IsFetched basis.facts means.files stopped.ticket.release (note_of stopped.fetched) → Ended played (ClaimPlays basis (files_alone means.files) mid.number stopped.ticket.request stopped.ticket.release) mid new)
    → Ended played (ClaimPlays basis means old.number ticket.request ticket.release) old new
claim-stopped basis means stopped ticket fetched played old mid new t f o s is k =
    let is' : IsFetched basis.facts means.files stopped.ticket.release (note_of stopped.fetched) =
    subst (λ (x : Ticket). IsFetched basis.facts means.files x.release (note_of stopped.fetched)) (sym t)
    (subst (λ (y : Fetched). IsFetched basis.facts means.files ticket.release (note_of y)) (sym f) is)
    in
    let none : Ended played (ClaimPlays basis (files_alone means.files) mid.number ticket.request ticket.release) mid new =
    subst (λ (x : Ticket). Ended played (ClaimPlays basis (files_alone means.files) mid.number x.request x.release) mid new) t (k is')
    in
    ended-after played (ClaimPlays basis means old.number ticket.request ticket.release) old mid new o s
    (subst (λ (n : ℕ). Ended played (ClaimPlays basis means n ticket.request ticket.release) mid new) s
    (ended-wider played (ClaimPlays basis means mid.number ticket.request ticket.release) (ClaimPlays basis (files_alone means.files) mid.number ticket.request ticket.release) mid new
    (claim-wider basis means mid.number ticket.request ticket.release) none))

-- A play was stopped, and the hold that was out is given back.
pub play-left : {did : List Entry → List Entry → Type 0} (name : Name) (lock : LockId) (request : Request) (old mid : PassView Entry) → IsPass lock name old → mid.number ≡ old.number → (t : Took name did old mid)
    → (Play : List Moment → Type 0) (some : List Moment) (stop : Stop) (pending : Option ℕ) (held : Held) → Play some → (stop ≡ Stop.Off → off (past_seen old.seen) ≡ true)
    → hold (past_seen old.seen) old.number ≡ Some held → Adds old.number (Event.GiveBack old.number (back_of pending request)) t.met mid.seen → Ended (stopped_as stop) Play old mid
play-left {did} name lock request old mid p same t Play some stop pending held q o h a =
    let event : Event = Event.GiveBack old.number (back_of pending request) in
    let free : IsFreePass mid = hold-gone {did = did} name lock old mid p same t held event (λ past. refl) (λ past. back-live old.number pending request past) h a in
    let late : stop ≡ Stop.Off → off (past_seen mid.seen) ≡ true = λ e. ap (λ (w : List Event). off w) (past-added old.number event t.met mid.seen a) ∙ off-stay name old.number old.seen t.met p.log t.meets (o e) in
    ended-back stop (back_of pending request) Play some (at (past_seen t.met) event) old mid q refl late
    (did-event {did = did} name lock old mid p same t event refl refl a free)

module _ {did : List Entry → List Entry → Type 0} (name : Name) (lock : LockId) (means : Means) (request : Request) (old mid : PassView Entry) (p : IsPass lock name old) (same : mid.number ≡ old.number) (t : Took name did old mid) where
  -- ---- the claim

  -- It took an entry, whose update follows.
  pub claim-behind : (release : ReleaseRef) (note : FetchNote) (entry : ℕ) (played : Played) (new : PassView Entry) → IsFetched name.basis.facts means.files release note → AddsOn old.number (Event.Claim old.number request note (ClaimAnswer.Entry entry)) t.met mid.seen
      → played ≢ Played.NoMemory → Ended played (UpdatePlays name.basis means.plugins mid.number entry (past_seen mid.seen)) mid new → Ended played (ClaimPlays name.basis means old.number request release) old new
  claim-behind release note entry played new f a room e =
      let event : Event = Event.Claim old.number request note (ClaimAnswer.Entry entry) in
      ended-behind played (ClaimPlays name.basis means old.number request release) (UpdatePlays name.basis means.plugins old.number entry (event ∷ past_seen t.met)) (at (past_seen t.met) event) old mid new
      (own-event {did = did} name lock old mid p same t event refl refl a.1) same (λ w. absurd (room w)) (λ ms u. (note, ClaimAnswer.Entry entry, refl, f, u))
      (subst (λ (w : List Event). Ended played (UpdatePlays name.basis means.plugins old.number entry w) mid new) (past-added old.number event t.met mid.seen a.1)
      (subst (λ (n : ℕ). Ended played (UpdatePlays name.basis means.plugins n entry (past_seen mid.seen)) mid new) same e))

  -- It took none, and the hold is gone.
  pub claim-ended : (release : ReleaseRef) (note : FetchNote) (answer : ClaimAnswer) (held : Held) → IsFetched name.basis.facts means.files release note → AfterClaim name.basis means.plugins old.number (Event.Claim old.number request note answer ∷ past_seen t.met) answer []
      → ((past : List Event) → live (Event.Claim old.number request note answer ∷ past) ≡ live past) → hold (past_seen old.seen) old.number ≡ Some held → AddsOn old.number (Event.Claim old.number request note answer) t.met mid.seen
      → Ended Played.Done (ClaimPlays name.basis means old.number request release) old mid
  claim-ended release note answer held f r l h a =
      let event : Event = Event.Claim old.number request note answer in
      let free : IsFreePass mid = hold-gone {did = did} name lock old mid p same t held event (λ past. refl) l h a.1 in
      ended-last (ClaimPlays name.basis means old.number request release) (at (past_seen t.met) event) old mid (note, answer, refl, f, r)
      (did-event {did = did} name lock old mid p same t event refl refl a.1 free)

  -- The hold of one that was stopped is given back.
  pub claim-left : (release : ReleaseRef) (note : FetchNote) (stop : Stop) (pending : Option ℕ) (held : Held) → IsFetched name.basis.facts means.files release note → (stop ≡ Stop.Off → off (past_seen old.seen) ≡ true)
      → hold (past_seen old.seen) old.number ≡ Some held → Adds old.number (Event.GiveBack old.number (back_of pending request)) t.met mid.seen → Ended (stopped_as stop) (ClaimPlays name.basis means old.number request release) old mid
  claim-left release note stop pending held f o h a =
      play-left {did = did} name lock request old mid p same t (ClaimPlays name.basis means old.number request release) (at [] (Event.Claim old.number request note (ClaimAnswer.Refused Refusal.NoDevice)) ∷ [])
      stop pending held (note, ClaimAnswer.Refused Refusal.NoDevice, refl, f, refl) o h a

  -- ---- the ask

  module _ (opening : List Row) (online : request.flags.offline ≡ false) where
    -- The install goes on behind its ask.
    pub install-behind : (given : Hold) (played : Played) (new : PassView Entry) → given.ticket.request ≡ request → AddsOn old.number (Event.Ask old.number request None (AskAnswer.Hold given.blocks.count given.ticket.release)) t.met mid.seen
        → Ended played (ClaimPlays (basis_of name.basis.facts opening) means mid.number given.ticket.request given.ticket.release) mid new → Ended played (Plays (basis_of name.basis.facts opening) means old.number (Item.Install request)) old new
    install-behind given played new r a e =
        let release : ReleaseRef = given.ticket.release in
        let answer : AskAnswer = AskAnswer.Hold given.blocks.count release in
        let event : Event = Event.Ask old.number request None answer in
        ended-behind played (Plays (basis_of name.basis.facts opening) means old.number (Item.Install request)) (ClaimPlays (basis_of name.basis.facts opening) means old.number request release) (at (past_seen t.met) event) old mid new
        (own-event {did = did} name lock old mid p same t event refl refl a.1) same (λ w. refl)
        (λ ms u. online-plays (basis_of name.basis.facts opening) means old.number request request.flags.offline (at (past_seen t.met) event ∷ ms) online (answer, refl, u))
        (subst (λ (n : ℕ). Ended played (ClaimPlays (basis_of name.basis.facts opening) means n request release) mid new) same
        (subst (λ (x : Request). Ended played (ClaimPlays (basis_of name.basis.facts opening) means mid.number x release) mid new) r e))

    -- It ends with its ask.
    pub install-asked : (answer : AskAnswer) → AfterAsk (basis_of name.basis.facts opening) means old.number request answer [] → ((past : List Event) → holds (Event.Ask old.number request None answer ∷ past) ≡ holds past) → IsFreePass old
        → AddsOn old.number (Event.Ask old.number request None answer) t.met mid.seen → Ended Played.Done (Plays (basis_of name.basis.facts opening) means old.number (Item.Install request)) old mid
    install-asked answer r h f a =
        let event : Event = Event.Ask old.number request None answer in
        ended-last (Plays (basis_of name.basis.facts opening) means old.number (Item.Install request)) (at (past_seen t.met) event) old mid
        (online-plays (basis_of name.basis.facts opening) means old.number request request.flags.offline (at (past_seen t.met) event ∷ []) online (answer, refl, r))
        (did-quiet {did = did} name lock old mid p same t event (record { no_boot = refl; own_is = refl; same_holds = h; same_live = λ past. refl }) f a)

    -- It was stopped at its ask.
    pub install-stopped : {A : Type 0} (ask : A → Event) (stop : Stop) → IsFreePass old → TurnedIn old.number ask (Err stop) t.met mid.seen → Ended (stopped_as stop) (Plays (basis_of name.basis.facts opening) means old.number (Item.Install request)) old mid
    install-stopped ask stop f s =
        let P : List Moment → Type 0 = λ ms. Plays (basis_of name.basis.facts opening) means old.number (Item.Install request) ms in
        let some : List Moment = at [] (Event.Ask old.number request None (AskAnswer.Refused Refusal.NoDevice)) ∷ [] in
        ended-stopped stop P old mid
        (leaves-nothing old.number P some (online-plays (basis_of name.basis.facts opening) means old.number request request.flags.offline some online (AskAnswer.Refused Refusal.NoDevice, refl, refl)))
        (stopped-off old.number ask stop t.met mid.seen s)
        (stopped-did {did = did} name lock old mid p same t ask stop f s)
