-- What a hold says of the row that made it, and why an ask was refused.
use Rattle.std.proofs.Common.{◌≡◌, ℕ, true, false, List, [], ◌∷◌, ap, sym, ◌∙◌, subst}
use Rattle.std.specs.Prelude.{Some, None, ◌==◌, find, is_some, option_and_then}
use Rattle.device_list.specs.declared.selector.Selector.{Selector}
use Rattle.fw_facts.specs.declared.seen.Seen.{Seen}
use Rattle.history_keeper.specs.Histories.{IsHistory}
use Rattle.history_keeper.specs.declared.row.Row.{Row}
use Rattle.update_log.proofs.HoldsMade.{IsOfRow, request-made}
use Rattle.update_log.proofs.LegalOnce.{past-held}
use Rattle.update_log.proofs.Lists.{All-find, by_test}
use Rattle.update_log.specs.Holding.{hold, holds}
use Rattle.update_log.specs.Known.{Basis, row_of, rows}
use Rattle.update_log.specs.Legal.{Allowed, IsLegal, IsRefusedAsk, ask_answer, ask_stage}
use Rattle.update_log.specs.Pasts.{is_boot, is_keeper_fault, is_of, last_of}
use Rattle.update_log.specs.Shows.{campaign_on, Campaign}
use Rattle.update_log.specs.Verdicts.{case_of, verdict}
use Rattle.update_log.specs.declared.answer.AskAnswer.{AskAnswer}
use Rattle.update_log.specs.declared.answer.ResumeAnswer.{ResumeAnswer}
use Rattle.update_log.specs.declared.decision.Decision.{Decision}
use Rattle.update_log.specs.declared.event.Event.{Event}
use Rattle.update_log.specs.declared.live.Held.{Held}
use Rattle.update_log.specs.declared.refusal.Refusal.{Refusal}
use Rattle.update_log.specs.declared.request.Request.{Request}
use Rattle.daemon_core.specs.HouseLog.{IsLegalSo}
use Rattle.daemon_core.specs.Resumes.{is_refused, refused_by}
use Rattle.daemon_core.proofs.PuttingOff.{refusal-other}

-- ---- the row of a hold

-- The daemon's hold is of the device of the row that made it.
pub hold-device : (basis : Basis) (first : List Seen) (past : List Event) (entry : ℕ) (h : Held) (row : Row) → IsHistory basis.opening → IsLegalSo basis first past → hold past 0 ≡ Some h → h.pending ≡ Some entry → row_of (rows basis past) entry ≡ Some row
    → h.request.device ≡ Selector.Id row.device
hold-device basis first past entry h row v l e p r =
    let both = past-held (campaign_on basis first l.0) past v l.1 in
    let k : IsOfRow (rows basis past) h = All-find (IsOfRow (rows basis past)) (λ (x : Held). x.client == 0) (holds past) h both.made e in
    ap (λ (x : Request). x.device) (request-made (rows basis past) h entry row k p r)

-- ---- the daemon's last event

refused-answer : (d : Decision) (refusal : Refusal) → AskAnswer.Refused refusal ≡ ask_answer d → d ≡ Decision.Refused refusal
refused-answer (Decision.Accept device release blocks) refusal e = cc
refused-answer (Decision.Kept entry state) refusal e = cc
refused-answer (Decision.Refused r) refusal e = cc

-- No ask is refused for the keeper's fault.
abbrev pub NamesOther : Event → Type 0
NamesOther event = (refusal : Refusal) → refused_by event ≡ Some refusal → is_keeper_fault refusal ≡ false

allowed-other : (c : Campaign) (past : List Event) (event : Event) → Allowed c past event → NamesOther event
allowed-other c past (Event.Ask client request pending (AskAnswer.Refused given)) a = λ refusal e.
    by_test (client == 0) _
    (λ t. let s : Some given ≡ Some refusal = rw t at e in
    let same : given ≡ refusal = cc in
    let d = refused-answer (verdict c.basis past client request (ask_stage pending)) given a.answer_is in
    subst (λ (x : Refusal). is_keeper_fault x ≡ false) same (refusal-other (case_of c.basis past client request (ask_stage pending)) given d))
    (λ f. let bad : None ≡ Some refusal = rw f at e in cc)
allowed-other c past _ a = λ refusal e. cc

last-other : (c : Campaign) (past : List Event) (event : Event) → IsLegal c past → last_of 0 past ≡ Some event → NamesOther event
last-other c [] event l h = cc
last-other c (e ∷ past) event l h =
    by_test (is_boot e) _
    (λ t. let bad : None ≡ Some event = rw t at h in cc)
    (λ f. by_test (is_of 0 e) _
    (λ t. let s : Some e ≡ Some event = rw (f, t) at h in let same : e ≡ event = cc in subst NamesOther same (allowed-other c past e l.2))
    (λ u. last-other c past event l.0 (rw (f, u) at h)))

pub last-names_other : (basis : Basis) (first : List Seen) (past : List Event) (event : Event) → IsLegalSo basis first past → last_of 0 past ≡ Some event → NamesOther event
last-names_other basis first past event l h = last-other (campaign_on basis first l.0) past event l.1 h

-- It is the daemon's.
last-own : (past : List Event) (event : Event) → last_of 0 past ≡ Some event → is_of 0 event ≡ true
last-own [] event h = cc
last-own (e ∷ past) event h =
    by_test (is_boot e) _
    (λ t. let bad : None ≡ Some event = rw t at h in cc)
    (λ f. by_test (is_of 0 e) _
    (λ t. let s : Some e ≡ Some event = rw (f, t) at h in let same : e ≡ event = cc in subst (λ (x : Event). is_of 0 x ≡ true) same t)
    (λ u. last-own past event (rw (f, u) at h)))

-- A refused ask of the daemon is an event of the daemon.
refused-own : (event : Event) → is_refused event ≡ true → is_of 0 event ≡ true
refused-own (Event.Ask client request pending (AskAnswer.Refused given)) h =
    by_test (client == 0) _
    (λ t. t)
    (λ f. let bad : false ≡ true = rw f at h in cc)
refused-own _ h = cc

pub last-refused_by : (past : List Event) (entry : ℕ) (refusal : Refusal) (event : Event) → last_of 0 past ≡ Some event → IsRefusedAsk entry (ResumeAnswer.Refused refusal) event → refused_by event ≡ Some refusal
last-refused_by past entry refusal event h k = at event k (last-own past event h)
  where
    at : (e : Event) → IsRefusedAsk entry (ResumeAnswer.Refused refusal) e → is_of 0 e ≡ true → refused_by e ≡ Some refusal
    at (Event.Ask client request pending (AskAnswer.Refused given)) k o = let t : (client == 0) ≡ true = o in rw t (ap Some k.1)
    at _ k o = absurd k

-- Where the last event is such an ask, it is the first that is found from the end.
pub last-found : (past : List Event) (event : Event) → last_of 0 past ≡ Some event → is_refused event ≡ true → find is_refused past ≡ Some event
last-found [] event h k = cc
last-found (e ∷ past) event h k =
    by_test (is_boot e) _
    (λ t. let bad : None ≡ Some event = rw t at h in cc)
    (λ f. by_test (is_of 0 e) _
    (λ t. let s : Some e ≡ Some event = rw (f, t) at h in let same : e ≡ event = cc in let r : is_refused e ≡ true = ap is_refused same ∙ k in rw r s)
    (λ u. let rest : find is_refused past ≡ Some event = last-found past event (rw (f, u) at h) k in
    by_test (is_refused e) _
    (λ r. let bad : true ≡ false = sym (refused-own e r) ∙ u in cc)
    (λ r. rw r rest)))

-- So it is found why it was refused.
pub refused-found : (past : List Event) (entry : ℕ) (refusal : Refusal) (event : Event) → last_of 0 past ≡ Some event → IsRefusedAsk entry (ResumeAnswer.Refused refusal) event → option_and_then refused_by (find is_refused past) ≡ Some refusal
refused-found past entry refusal event h k =
    let r = last-refused_by past entry refusal event h k in
    ap (option_and_then refused_by) (last-found past event h (ap is_some r)) ∙ r
