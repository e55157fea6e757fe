-- What an ask that was accepted comes to, and a request that was put off.
use Rattle.std.proofs.Common.{◌≡◌, ◌⊎◌, ℕ, ◌<◌, Bool, true, false, List, [], ◌∷◌, ◌++◌, ◌+◌, length, append_assoc, refl, ap, sym, ◌∙◌, subst, inl, inr, arith}
use Rattle.std.proofs.lemmas.Bool.{eqb-true}
use Rattle.std.proofs.lemmas.Option.{same_Some}
use Rattle.std.specs.List.{list_any}
use Rattle.std.specs.Prelude.{Option, Some, None, option_map}
use Rattle.history_keeper.specs.declared.change.Change.{Change}
use Rattle.history_keeper.specs.declared.row.Row.{Row}
use Rattle.history_keeper.specs.declared.row.RowState.{RowState}
use Rattle.release_catalogue.specs.declared.reference.ReleaseRef.{ReleaseRef}
use Rattle.update_log.proofs.Lists.{eqb-self}
use Rattle.update_log.specs.declared.answer.AskAnswer.{AskAnswer}
use Rattle.update_log.specs.declared.answer.ClaimAnswer.{ClaimAnswer}
use Rattle.update_log.specs.declared.answer.ResumeAnswer.{ResumeAnswer}
use Rattle.update_log.specs.declared.decision.Decision.{Decision}
use Rattle.update_log.specs.declared.decision.Stage.{Stage}
use Rattle.update_log.specs.declared.event.Back.{Back}
use Rattle.update_log.specs.declared.event.Event.{Event}
use Rattle.update_log.specs.declared.event.Stored.{Stored}
use Rattle.update_log.specs.declared.facts.Facts.{Facts}
use Rattle.update_log.specs.declared.live.Held.{Held}
use Rattle.update_log.specs.declared.refusal.FetchNote.{FetchNote}
use Rattle.update_log.specs.declared.refusal.Refusal.{Refusal}
use Rattle.update_log.specs.declared.request.Request.{Request}
use Rattle.update_log.specs.Holding.{hold, holds, live}
use Rattle.update_log.specs.Known.{Fate, Target, addition, known, new_row, rows, rows_by}
use Rattle.update_log.specs.Legal.{Allowed, AskAllowed, IsLegal, ScheduleAllowed, ScheduleAnswered, ask_answer, next_entry}
use Rattle.update_log.specs.Once.{takes}
use Rattle.update_log.specs.Pasts.{is_boot, is_of, last_of, off, time_of}
use Rattle.update_log.specs.Shows.{Campaign}
use Rattle.update_log.specs.Verdicts.{verdict}
use Rattle.daemon_core.proofs.PuttingOff.{off-facts}
use Rattle.daemon_core.specs.PutOff.{IsAccept}
use Rattle.client_plays.specs.Idle.{EndsIdle, IsEndedBy}
use Rattle.client_plays.specs.Moments.{mine}
use Rattle.client_plays.specs.Shelves.{IsFetched}
use Rattle.client_plays.specs.Tools.{Files}
use Rattle.client_plays.specs.Complete.{Resumes, Takes}
use Rattle.client_plays.specs.Installs.{Begins, InBoot, InstallComes, Installs, IsClaimed, IsGivenUp, IsPutOff, IsResumed, IsThere, PutsOff, ResumptionComes}
use Rattle.client_plays.proofs.Asked.{asked-hold, asked_hold, install-came}
use Rattle.client_plays.proofs.Standing.{Released, asks_for, last-asked, legal-at, lets_go, off-behind, released, told-at}
use Rattle.client_plays.proofs.Takings.{CameWhole, came-noted, came-whole, resumption-came}
use Rattle.client_plays.proofs.Told.{AllTold, AskedFor, FetchedFor, Told, WasStopped}

-- A payload that is there came whole, or the shelf failed.
came-there : (facts : Facts) (files : Files) (release : ReleaseRef) (note : FetchNote) → IsFetched facts files release note → IsThere facts files release note → CameWhole facts release note ⊎ (note ≡ FetchNote.ShelfFault)
came-there facts files release note f (inl has) = came-whole facts files release note f has
came-there facts files release note f (inr w) = inl (came-noted facts files release note w.0 w.1 w.2 f w.3)

-- Two asks that are one.
pub record SameAsk (a b : Request) (p q : Option ℕ) (m n : ℕ) (x y : ReleaseRef) : Type 0 where
  pub request : a ≡ b
  pub pending : p ≡ q
  pub blocks : m ≡ n
  pub release : x ≡ y

ask-same : (client : ℕ) (a b : Request) (p q : Option ℕ) (m n : ℕ) (x y : ReleaseRef) → Event.Ask client a p (AskAnswer.Hold m x) ≡ Event.Ask client b q (AskAnswer.Hold n y) → SameAsk a b p q m n x y
ask-same client a b p q m n x y e = record { request = cc; pending = cc; blocks = cc; release = cc }

answer-same : (client : ℕ) (a b : Request) (p q : Option ℕ) (x y : AskAnswer) → Event.Ask client a p x ≡ Event.Ask client b q y → x ≡ y
answer-same client a b p q x y e = cc

-- An ask that was accepted is answered with a hold.
accepted-hold : (d : Decision) (answer : AskAnswer) → IsAccept d → answer ≡ ask_answer d → (blocks : ℕ) × (release : ReleaseRef) × (answer ≡ AskAnswer.Hold blocks release)
accepted-hold (Decision.Accept device release blocks) answer a e = (blocks, release, e)
accepted-hold (Decision.Kept entry state) answer a e = cc
accepted-hold (Decision.Refused refusal) answer a e = cc

module _ (c : Campaign) (past : List Event) (files : Files) (wanting : Bool) (client : ℕ)
    (legal : IsLegal c past) (idle : EndsIdle past) (told : AllTold c.basis.facts files (WasStopped (off past) wanting) None (mine client past)) where
  -- ---- an ask that was answered with a hold

  module _ (request : Request) (pending : Option ℕ) (blocks : ℕ) (release : ReleaseRef) (later before : List Event)
      (are : past ≡ later ++ Event.Ask client request pending (AskAnswer.Hold blocks release) ∷ before) (in_boot : list_any is_boot later ≡ false) where
    abbrev ask : Event
    ask = Event.Ask client request pending (AskAnswer.Hold blocks release)

    abbrev asked : List Event
    asked = ask ∷ before

    abbrev given : Held
    given = asked_hold client request pending blocks release

    last-here : last_of client asked ≡ Some ask
    last-here = rw (eqb-self client) refl

    held-here : hold asked client ≡ Some given
    held-here = asked-hold asked client request pending blocks release last-here

    so : past ≡ later ++ asked
    so = are

    out : Released client asked later given
    out = released c client asked later given (subst (IsLegal c) so legal) in_boot held-here (ap (λ (p : List Event). holds p) (sym so) ∙ idle.no_hold)

    -- The log at the event that ends the hold.
    abbrev met : List Event
    met = out.between ++ asked

    stands : past ≡ out.newer ++ out.event ∷ met
    stands = so ∙ ap (λ (es : List Event). es ++ asked) out.are ∙ append_assoc out.newer (out.event ∷ out.between) asked

    ended : (event : Event) → out.event ≡ event → past ≡ out.newer ++ event ∷ met
    ended event e = stands ∙ ap (λ (x : Event). out.newer ++ x ∷ met) e

    let_so : (event : Event) → out.event ≡ event → Allowed c met event
    let_so event e = legal-at c out.newer event met (subst (IsLegal c) (ended event e) legal)

    told_so : (event : Event) → out.event ≡ event → is_boot event ≡ false → is_of client event ≡ true → Told c.basis.facts files (WasStopped (off past) wanting) (last_of client met) event
    told_so event e b o =
        told-at c.basis.facts files (WasStopped (off past) wanting) client out.newer event met out.newer_on b o
        (subst (λ (p : List Event). AllTold c.basis.facts files (WasStopped (off past) wanting) None (mine client p)) (ended event e) told)

    held_so : hold met client ≡ Some given
    held_so = out.still

    -- The client's event before it is the ask.
    last_so : (other : Event) → asks_for client other ≡ true → last_of client met ≡ Some other → (other ≡ ask) × (list_any (is_of client) out.between ≡ false)
    last_so other t h =
        let r = last-asked client asked out.between other out.between_on out.asks t h in
        (same_Some other ask (sym r.0 ∙ last-here), r.1)

    -- An entry that it took ended.
    taken_so : (event : Event) (entry : ℕ) → out.event ≡ event → takes entry event ≡ true → IsEndedBy (off past) entry out.newer
    taken_so event entry e t = idle.ended entry (record { later = out.newer; event = event; before = met; are = ended event e; in_boot = out.newer_on; takes_it = t })

    off_so : (event : Event) → out.event ≡ event → off (event ∷ met) ≡ true → off past ≡ true
    off_so event e o = ap off (ended event e) ∙ off-behind out.newer (event ∷ met) out.newer_on o

    -- It gave that back.
    given-up : (what : Back) → out.event ≡ Event.GiveBack client what → IsGivenUp (off past) wanting client asked later
    given-up what e =
        record {
          what = what;
          newer = out.newer;
          between = out.between;
          are = out.are ∙ ap (λ (x : Event). out.newer ++ x ∷ out.between) e;
          held = out.still ∙ sym held-here;
          cause = told_so (Event.GiveBack client what) e refl (eqb-self client);
        }

    -- It was claimed.
    installed : (note : FetchNote) (answer : ClaimAnswer) → out.event ≡ Event.Claim client request note answer → IsFetched c.basis.facts files release note → last_of client met ≡ Some (Event.Ask client request None (AskAnswer.Hold blocks release))
        → IsAccept (verdict c.basis met client request (Stage.Claim release)) → IsThere c.basis.facts files release note → Installs (off past) (next_entry c.basis met) out.newer note answer
    installed note answer e fetched last accept there =
        by (install-came c met client request blocks release note answer (let_so (Event.Claim client request note answer) e) last accept (came-there c.basis.facts files release note fetched there))
      where
        by : Takes (next_entry c.basis met) note answer → Installs (off past) (next_entry c.basis met) out.newer note answer
        by (inl t) =
            let n : ℕ = next_entry c.basis met in
            inl (t, taken_so (Event.Claim client request note answer) n e (ap (λ (x : ClaimAnswer). takes n (Event.Claim client request note x)) t ∙ eqb-self n))
        by (inr (inl t)) =
            inr (inl (t, off_so (Event.Claim client request note answer) e (ap (λ (x : ClaimAnswer). off (Event.Claim client request note x ∷ met)) t)))
        by (inr (inr t)) = inr (inr t)

    claimed : (other : Request) (note : FetchNote) (answer : ClaimAnswer) → out.event ≡ Event.Claim client other note answer → IsClaimed c.basis files (off past) client request release asked later
    claimed other note answer e =
        let a = let_so (Event.Claim client other note answer) e in
        let f : FetchedFor c.basis.facts files client None note (last_of client met) = told_so (Event.Claim client other note answer) e refl (eqb-self client) in
        let r = last_so (Event.Ask client f.request None (AskAnswer.Hold f.blocks f.release)) (eqb-self client) f.asked in
        let s = ask-same client f.request request None pending f.blocks blocks f.release release r.0 in
        let held : a.0 ≡ given = same_Some a.0 given (sym a.1.held_is ∙ held_so) in
        let wanted : other ≡ request = sym a.1.request_is ∙ ap (λ (h : Held). h.request) held in
        let now : out.event ≡ Event.Claim client request note answer = e ∙ ap (λ (x : Request). Event.Claim client x note answer) wanted in
        let fetched : IsFetched c.basis.facts files release note = subst (λ (x : ReleaseRef). IsFetched c.basis.facts files x note) s.release f.fetched in
        let last : last_of client met ≡ Some (Event.Ask client request None (AskAnswer.Hold blocks release)) =
        f.asked ∙ ap Some r.0 ∙ ap (λ (o : Option ℕ). Some (Event.Ask client request o (AskAnswer.Hold blocks release))) (sym s.pending) in
        record {
          note = note;
          answer = answer;
          next = record { newer = out.newer; between = out.between; are = out.are ∙ ap (λ (x : Event). out.newer ++ x ∷ out.between) now; others = r.1 };
          fetched = fetched;
          installs = λ accept there. installed note answer now fetched last accept there;
        }

    client-comes : 0 < client → IsClaimed c.basis files (off past) client request release asked later ⊎ IsGivenUp (off past) wanting client asked later
    client-comes above = on out.event refl out.lets
      where
        on : (event : Event) → out.event ≡ event → lets_go client event ≡ true → IsClaimed c.basis files (off past) client request release asked later ⊎ IsGivenUp (off past) wanting client asked later
        on (Event.Boot number time limit found boards) e t = cc
        on (Event.Query other query) e t = cc
        on (Event.Ask other wanted row answer) e t = cc
        on (Event.Claim other wanted note answer) e t =
            inl (claimed wanted note answer (e ∙ ap (λ (n : ℕ). Event.Claim n wanted note answer) (eqb-true other client t)))
        on (Event.Schedule other wanted answer) e t = cc
        on (Event.Resume other entry fetched answer stored) e t =
            let a = let_so (Event.Resume other entry fetched answer stored) e in
            let none : client ≡ 0 = sym (eqb-true other client t) ∙ a.1.client_is in
            absurd (omega arith)
        on (Event.Start other entry op) e t = cc
        on (Event.End other entry op outcome marks seen) e t = cc
        on (Event.Finish other entry state stored) e t = cc
        on (Event.Judge other entry version state stored) e t = cc
        on (Event.Unplug other device answer) e t = cc
        on (Event.Plug other device answer) e t = cc
        on (Event.GiveBack other what) e t = inr (given-up what (e ∙ ap (λ (n : ℕ). Event.GiveBack n what) (eqb-true other client t)))
        on Event.Cut e t = cc

-- ---- an ask of the daemon for a row

module _ (c : Campaign) (past : List Event) (files : Files) (wanting : Bool)
    (legal : IsLegal c past) (idle : EndsIdle past) (told : AllTold c.basis.facts files (WasStopped (off past) wanting) None (mine 0 past))
    (entry : ℕ) (request : Request) (blocks : ℕ) (release : ReleaseRef) (later before : List Event)
    (are : past ≡ later ++ Event.Ask 0 request (Some entry) (AskAnswer.Hold blocks release) ∷ before) (in_boot : list_any is_boot later ≡ false) where
  abbrev waited : List Event
  waited = Event.Ask 0 request (Some entry) (AskAnswer.Hold blocks release) ∷ before

  abbrev wants : Held
  wants = asked_hold 0 request (Some entry) blocks release

  abbrev ends : Released 0 waited later wants
  ends = out c past files wanting 0 legal idle told request (Some entry) blocks release later before are in_boot

  abbrev seen : List Event
  seen = ends.between ++ waited

  begun : (note : FetchNote) (answer : ResumeAnswer) (stored : Stored) → ends.event ≡ Event.Resume 0 entry (Some note) answer stored → IsFetched c.basis.facts files release note → IsAccept (verdict c.basis seen 0 request (Stage.Resume entry release)) → IsThere c.basis.facts files release note
      → Begins (off past) entry ends.newer note answer
  begun note answer stored e fetched accept there =
      let a = let_so c past files wanting 0 legal idle told request (Some entry) blocks release later before are in_boot (Event.Resume 0 entry (Some note) answer stored) e in
      by (resumption-came c.basis seen 0 entry note answer stored a.0 wants a.1 (held_so c past files wanting 0 legal idle told request (Some entry) blocks release later before are in_boot) accept (came-there c.basis.facts files release note fetched there))
    where
      by : Resumes note answer → Begins (off past) entry ends.newer note answer
      by (inl t) =
          inl (t, taken_so c past files wanting 0 legal idle told request (Some entry) blocks release later before are in_boot (Event.Resume 0 entry (Some note) answer stored) entry e (ap (λ (x : ResumeAnswer). takes entry (Event.Resume 0 entry (Some note) x stored)) t ∙ eqb-self entry))
      by (inr (inl t)) =
          inr (inl (t, off_so c past files wanting 0 legal idle told request (Some entry) blocks release later before are in_boot (Event.Resume 0 entry (Some note) answer stored) e (ap (λ (x : ResumeAnswer). off (Event.Resume 0 entry (Some note) x stored ∷ seen)) t)))
      by (inr (inr t)) = inr (inr t)

  resumed : (row : ℕ) (note : FetchNote) (answer : ResumeAnswer) (stored : Stored) → ends.event ≡ Event.Resume 0 row (Some note) answer stored → IsResumed c.basis files (off past) entry request release waited later
  resumed row note answer stored e =
      let f : FetchedFor c.basis.facts files 0 (Some row) note (last_of 0 seen) = told_so c past files wanting 0 legal idle told request (Some entry) blocks release later before are in_boot (Event.Resume 0 row (Some note) answer stored) e refl refl in
      let r = last_so c past files wanting 0 legal idle told request (Some entry) blocks release later before are in_boot (Event.Ask 0 f.request (Some row) (AskAnswer.Hold f.blocks f.release)) refl f.asked in
      let s = ask-same 0 f.request request (Some row) (Some entry) f.blocks blocks f.release release r.0 in
      let same : row ≡ entry = same_Some row entry s.pending in
      let now : ends.event ≡ Event.Resume 0 entry (Some note) answer stored = e ∙ ap (λ (n : ℕ). Event.Resume 0 n (Some note) answer stored) same in
      let fetched : IsFetched c.basis.facts files release note = subst (λ (x : ReleaseRef). IsFetched c.basis.facts files x note) s.release f.fetched in
      record {
        note = note;
        answer = answer;
        stored = stored;
        next = record { newer = ends.newer; between = ends.between; are = ends.are ∙ ap (λ (x : Event). ends.newer ++ x ∷ ends.between) now; others = r.1 };
        fetched = fetched;
        begins = λ accept there. begun note answer stored now fetched accept there;
      }

  -- A resumption without a payload comes behind an ask that got no hold.
  not-refused : (row : ℕ) (answer : ResumeAnswer) (stored : Stored) (G : Type 0) → ends.event ≡ Event.Resume 0 row None answer stored → G
  not-refused row answer stored G e =
      let f : AskedFor 0 (Some row) (last_of 0 seen) = told_so c past files wanting 0 legal idle told request (Some entry) blocks release later before are in_boot (Event.Resume 0 row None answer stored) e refl refl in
      let r = last_so c past files wanting 0 legal idle told request (Some entry) blocks release later before are in_boot (Event.Ask 0 f.request (Some row) f.answer) refl f.asked in
      let same : f.answer ≡ AskAnswer.Hold blocks release = answer-same 0 f.request request (Some row) (Some entry) f.answer (AskAnswer.Hold blocks release) r.0 in
      absurd (f.no_hold blocks release same)

  -- The daemon claims no row that was put off.
  not-claimed : (wanted : Request) (note : FetchNote) (answer : ClaimAnswer) (G : Type 0) → ends.event ≡ Event.Claim 0 wanted note answer → G
  not-claimed wanted note answer G e =
      let a = let_so c past files wanting 0 legal idle told request (Some entry) blocks release later before are in_boot (Event.Claim 0 wanted note answer) e in
      let held : a.0 ≡ wants = same_Some a.0 wants (sym a.1.held_is ∙ held_so c past files wanting 0 legal idle told request (Some entry) blocks release later before are in_boot) in
      let bad : Some entry ≡ None = ap (λ (h : Held). h.pending) (sym held) ∙ a.1.pending in
      cc

  resumed-so : (row : ℕ) (fetched : Option FetchNote) (answer : ResumeAnswer) (stored : Stored) → ends.event ≡ Event.Resume 0 row fetched answer stored → IsResumed c.basis files (off past) entry request release waited later
  resumed-so row (Some note) answer stored e = resumed row note answer stored e
  resumed-so row None answer stored e = not-refused row answer stored _ e

  row-comes : IsResumed c.basis files (off past) entry request release waited later ⊎ IsGivenUp (off past) wanting 0 waited later
  row-comes = on ends.event refl ends.lets
    where
      on : (event : Event) → ends.event ≡ event → lets_go 0 event ≡ true → IsResumed c.basis files (off past) entry request release waited later ⊎ IsGivenUp (off past) wanting 0 waited later
      on (Event.Claim other wanted note answer) e t =
          not-claimed wanted note answer _ (e ∙ ap (λ (n : ℕ). Event.Claim n wanted note answer) (eqb-true other 0 t))
      on (Event.Resume other row fetched answer stored) e t =
          inl (resumed-so row fetched answer stored (e ∙ ap (λ (n : ℕ). Event.Resume n row fetched answer stored) (eqb-true other 0 t)))
      on (Event.GiveBack other what) e t = inr (given-up c past files wanting 0 legal idle told request (Some entry) blocks release later before are in_boot what (e ∙ ap (λ (n : ℕ). Event.GiveBack n what) (eqb-true other 0 t)))
      on _ e t = cc

-- ---- the three kinds of request

-- An install that was asked for.
pub install-comes : (c : Campaign) (past : List Event) (files : Files) (wanting : Bool) (client : ℕ) → IsLegal c past → EndsIdle past → AllTold c.basis.facts files (WasStopped (off past) wanting) None (mine client past)
    → (request : Request) (answer : AskAnswer) (stands : InBoot past (Event.Ask client request None answer)) → 0 < client → IsAccept (verdict c.basis stands.before client request Stage.Ask) → InstallComes wanting c.basis files past client request answer stands
install-comes c past files wanting client legal idle told request answer stands above accept =
    let allowed : AskAllowed c.basis stands.before client request None answer = legal-at c stands.later (Event.Ask client request None answer) stands.before (subst (IsLegal c) stands.are legal) in
    let h = accepted-hold (verdict c.basis stands.before client request Stage.Ask) answer accept allowed.answer_is in
    record {
      blocks = h.0;
      release = h.1;
      answer_is = h.2;
      comes = subst (λ (x : AskAnswer). IsClaimed c.basis files (off past) client request h.1 (Event.Ask client request None x ∷ stands.before) stands.later ⊎ IsGivenUp (off past) wanting client (Event.Ask client request None x ∷ stands.before) stands.later) (sym h.2)
          (client-comes c past files wanting client legal idle told request None h.0 h.1 stands.later stands.before
          (stands.are ∙ ap (λ (x : AskAnswer). stands.later ++ Event.Ask client request None x ∷ stands.before) h.2) stands.in_boot above);
    }

-- A row that waited for the boot.
pub resumption-comes : (c : Campaign) (past : List Event) (files : Files) (wanting : Bool) → IsLegal c past → EndsIdle past → AllTold c.basis.facts files (WasStopped (off past) wanting) None (mine 0 past)
    → (entry : ℕ) (request : Request) (answer : AskAnswer) (stands : InBoot past (Event.Ask 0 request (Some entry) answer)) → IsAccept (verdict c.basis stands.before 0 request (Stage.AskPending entry)) → ResumptionComes wanting c.basis files past entry request answer stands
resumption-comes c past files wanting legal idle told entry request answer stands accept =
    let allowed : AskAllowed c.basis stands.before 0 request (Some entry) answer = legal-at c stands.later (Event.Ask 0 request (Some entry) answer) stands.before (subst (IsLegal c) stands.are legal) in
    let h = accepted-hold (verdict c.basis stands.before 0 request (Stage.AskPending entry)) answer accept allowed.answer_is in
    record {
      blocks = h.0;
      release = h.1;
      answer_is = h.2;
      comes = subst (λ (x : AskAnswer). IsResumed c.basis files (off past) entry request h.1 (Event.Ask 0 request (Some entry) x ∷ stands.before) stands.later ⊎ IsGivenUp (off past) wanting 0 (Event.Ask 0 request (Some entry) x ∷ stands.before) stands.later) (sym h.2)
          (row-comes c past files wanting legal idle told entry request h.0 h.1 stands.later stands.before
          (stands.are ∙ ap (λ (x : AskAnswer). stands.later ++ Event.Ask 0 request (Some entry) x ∷ stands.before) h.2) stands.in_boot);
    }

-- A request that was put off.
answered-off : (next : ℕ) (d : Decision) (answer : ClaimAnswer) → IsAccept d → ScheduleAnswered next d answer → (answer ≡ ClaimAnswer.Entry next) ⊎ (answer ≡ ClaimAnswer.Refused Refusal.KeeperFault)
answered-off next (Decision.Accept device release blocks) answer a h = h
answered-off next (Decision.Kept entry state) answer a h = cc
answered-off next (Decision.Refused refusal) answer a h = cc

pub put-off : (c : Campaign) (past : List Event) → IsLegal c past → (client : ℕ) (request : Request) (answer : ClaimAnswer) (stands : InBoot past (Event.Schedule client request answer))
    → IsAccept (verdict c.basis stands.before client request Stage.Schedule) → PutsOff c.basis (off past) client request answer stands.before
put-off c past legal client request answer stands accept = by (answered-off (next_entry c.basis stands.before) (verdict c.basis stands.before client request Stage.Schedule) answer accept allowed.answer_is)
  where
    allowed : ScheduleAllowed c.basis stands.before client request answer
    allowed = legal-at c stands.later (Event.Schedule client request answer) stands.before (subst (IsLegal c) stands.are legal)

    stored : answer ≡ ClaimAnswer.Entry (next_entry c.basis stands.before) → IsPutOff c.basis stands.before client request (Event.Schedule client request answer)
    stored e =
        let t = off-facts c.basis stands.before client request accept in
        let row : Row = new_row (length (rows c.basis stands.before) + 1) (time_of stands.before) client request RowState.Pending t.0 in
        let change : addition c.basis.facts (time_of stands.before) (live stands.before) (known c.basis stands.before) client request RowState.Pending ≡ Some (Change.Add row) =
        ap (λ (o : Option Target). option_map (λ (u : Target). Change.Add (new_row (length (rows c.basis stands.before) + 1) (time_of stands.before) client request RowState.Pending u)) o) t.1.found in
        let added : rows c.basis (Event.Schedule client request (ClaimAnswer.Entry (next_entry c.basis stands.before)) ∷ stands.before) ≡ rows c.basis stands.before ++ row ∷ [] =
        ap (λ (o : Option Change). rows_by Fate.Made o (rows c.basis stands.before)) change in
        record {
          row = row;
          rows_are = ap (λ (x : ClaimAnswer). rows c.basis (Event.Schedule client request x ∷ stands.before)) e ∙ added;
          entry_is = refl;
          waits = refl;
          client_is = refl;
          tag_is = refl;
        }

    by : (answer ≡ ClaimAnswer.Entry (next_entry c.basis stands.before)) ⊎ (answer ≡ ClaimAnswer.Refused Refusal.KeeperFault) → PutsOff c.basis (off past) client request answer stands.before
    by (inl e) = inl (e, stored e)
    by (inr e) =
        inr (
          e,
          ap off stands.are ∙ off-behind stands.later (Event.Schedule client request answer ∷ stands.before) stands.in_boot
              (ap (λ (x : ClaimAnswer). off (Event.Schedule client request x ∷ stands.before)) e),
        )
