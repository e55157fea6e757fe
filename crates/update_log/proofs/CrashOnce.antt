-- What a crash leaves is legal.
use Rattle.std.proofs.Common.{◌≡◌, ℕ, zero, suc, Bool, true, false, List, [], ◌∷◌, ◌++◌, refl, ap, sym, ◌∙◌, ◌⊎◌, inl, inr, length, subst, append-nil, arith}
use Rattle.std.proofs.lemmas.Option.{same_Some}
use Rattle.std.proofs.lemmas.List.{append_cancel_left}
use Rattle.std.specs.Prelude.{Option, Some, None, MatchBool, slice_get, unwrap_or, option_map}
use Rattle.fw_facts.specs.declared.seen.Seen.{Seen}
use Rattle.history_keeper.specs.Histories.{IsHistory}
use Rattle.history_keeper.specs.declared.row.RowState.{RowState}
use Rattle.update_log.proofs.HistoryKept.{rows-history}
use Rattle.update_log.proofs.LegalOnce.{JournalsFit, past-kept, past-once}
use Rattle.update_log.proofs.Pasts.{past-push}
use Rattle.update_log.proofs.StepsKept.{get-last}
use Rattle.update_log.specs.Crashes.{CrashOf, IsNextBoot, LeftOf, NextCampaign, faulted, next_boot}
use Rattle.update_log.specs.Known.{Basis, Target}
use Rattle.update_log.specs.Laws.{IsSafeCrash}
use Rattle.update_log.specs.Legal.{Allowed, BoardListed, BootTakes, ClaimAnswered, IsLegal, Legal, ResumeAnswered, ResumeFetched, ResumeStored, ScheduleAnswered, UnchangedExactly, is_fetched}
use Rattle.update_log.specs.Once.{FitsPast, JournalAndView, OncePast}
use Rattle.update_log.specs.Pasts.{boots, is_boot, is_counted, past_of}
use Rattle.update_log.specs.Shows.{Campaign, told, untold_of}
use Rattle.update_log.specs.Steps.{fits}
use Rattle.update_log.specs.declared.answer.ClaimAnswer.{ClaimAnswer}
use Rattle.update_log.specs.declared.answer.ResumeAnswer.{ResumeAnswer}
use Rattle.update_log.specs.declared.decision.Decision.{Decision}
use Rattle.update_log.specs.declared.event.BoardSeen.{BoardSeen}
use Rattle.update_log.specs.declared.event.Event.{Event}
use Rattle.update_log.specs.declared.event.Found.{Found}
use Rattle.update_log.specs.declared.event.Stored.{Stored}
use Rattle.update_log.specs.declared.facts.BootPlan.{BootPlan}
use Rattle.update_log.specs.declared.refusal.FetchNote.{FetchNote}
use Rattle.update_log.specs.declared.refusal.Refusal.{Refusal}

pub claim-faulted : (note : FetchNote) (t : Option Target) (next : ℕ) (d : Decision) (entry : ℕ) → ClaimAnswered note t next d (ClaimAnswer.Entry entry) → ClaimAnswered note t next d (ClaimAnswer.Refused Refusal.KeeperFault)
claim-faulted note t next (Decision.Kept e s) entry h = cc
claim-faulted note t next (Decision.Refused r) entry h = cc
claim-faulted note t next (Decision.Accept device release blocks) entry h = at (is_fetched note t) h
  where
    at : (b : Bool) → MatchBool b ((ClaimAnswer.Entry entry ≡ ClaimAnswer.Entry next) ⊎ (ClaimAnswer.Entry entry ≡ ClaimAnswer.Refused Refusal.KeeperFault)) (ClaimAnswer.Entry entry ≡ ClaimAnswer.Refused (Refusal.Payload note)) → MatchBool b ((ClaimAnswer.Refused Refusal.KeeperFault ≡ ClaimAnswer.Entry next) ⊎ (ClaimAnswer.Refused Refusal.KeeperFault ≡ ClaimAnswer.Refused Refusal.KeeperFault)) (ClaimAnswer.Refused Refusal.KeeperFault ≡ ClaimAnswer.Refused (Refusal.Payload note))
    at true k = inr refl
    at false k = cc

pub schedule-faulted : (next : ℕ) (d : Decision) (entry : ℕ) → ScheduleAnswered next d (ClaimAnswer.Entry entry) → ScheduleAnswered next d (ClaimAnswer.Refused Refusal.KeeperFault)
schedule-faulted next (Decision.Kept e s) entry h = cc
schedule-faulted next (Decision.Refused r) entry h = cc
schedule-faulted next (Decision.Accept device release blocks) entry h = inr refl

pub resume-faulted : (note : FetchNote) (t : Option Target) (d : Decision) → ResumeAnswered note t d ResumeAnswer.Begun → ResumeAnswered note t d (ResumeAnswer.Refused Refusal.KeeperFault)
resume-faulted note t (Decision.Kept e s) h = absurd h
resume-faulted note t (Decision.Refused r) h = cc
resume-faulted note t (Decision.Accept device release blocks) h = at (is_fetched note t) h
  where
    at : (b : Bool) → MatchBool b ((ResumeAnswer.Begun ≡ ResumeAnswer.Begun) ⊎ (ResumeAnswer.Begun ≡ ResumeAnswer.Refused Refusal.KeeperFault)) (ResumeAnswer.Begun ≡ ResumeAnswer.Refused (Refusal.Payload note)) → MatchBool b ((ResumeAnswer.Refused Refusal.KeeperFault ≡ ResumeAnswer.Begun) ⊎ (ResumeAnswer.Refused Refusal.KeeperFault ≡ ResumeAnswer.Refused Refusal.KeeperFault)) (ResumeAnswer.Refused Refusal.KeeperFault ≡ ResumeAnswer.Refused (Refusal.Payload note))
    at true k = inr refl
    at false k = cc

pub fetched-faulted : (basis : Basis) (past : List Event) (entry : ℕ) (fetched : Option FetchNote) → ResumeFetched basis past entry fetched ResumeAnswer.Begun → ResumeFetched basis past entry fetched (ResumeAnswer.Refused Refusal.KeeperFault)
fetched-faulted basis past entry None f = absurd f.2
fetched-faulted basis past entry (Some note) f = (f.0, f.1, f.2, resume-faulted note _ _ f.3)

pub stored-faulted : (refusal : Refusal) → ResumeStored (ResumeAnswer.Refused refusal) Stored.Yes → ResumeStored (ResumeAnswer.Refused refusal) Stored.Fault
stored-faulted Refusal.KeeperFault h = refl
stored-faulted _ h = inr refl

pub unchanged-faulted : (closed : RowState) → UnchangedExactly closed Stored.Yes → UnchangedExactly closed Stored.Fault
unchanged-faulted RowState.Begun h = cc
unchanged-faulted _ h = λ e. cc

pub takes-alike : (past : List Event) (event f : Event) → BootTakes past event → is_boot event ≡ false → is_counted event ≡ true → BootTakes past f
takes-alike past event f b n c = record { booted = λ _. b.booted n; on = λ _. b.on c; below = λ _. b.below c }

abbrev pub MayCome : Campaign → List Event → Event → Type 0
MayCome c past event = BootTakes past event × Allowed c past event

pub come-alike : (c : Campaign) (past : List Event) (g f : Event) → Some g ≡ Some f → MayCome c past g → MayCome c past f
come-alike c past g f e h = subst (MayCome c past) (same_Some g f e) h

-- an event at fault is allowed where the event was
pub faulted-allowed : (c : Campaign) (past : List Event) (event f : Event) → faulted event ≡ Some f → BootTakes past event → Allowed c past event → MayCome c past f
faulted-allowed c past (Event.Claim client request fetched (ClaimAnswer.Entry entry)) f e b a =
    let w = a.1 in
    come-alike c past (Event.Claim client request fetched (ClaimAnswer.Refused Refusal.KeeperFault)) f e (
      takes-alike past (Event.Claim client request fetched (ClaimAnswer.Entry entry)) _ b refl refl,
      (a.0, record { held_is = w.held_is; request_is = w.request_is; pending = w.pending; answer_is = claim-faulted fetched _ _ _ entry w.answer_is }),
    )
faulted-allowed c past (Event.Schedule client request (ClaimAnswer.Entry entry)) f e b a =
    come-alike c past (Event.Schedule client request (ClaimAnswer.Refused Refusal.KeeperFault)) f e (
      takes-alike past (Event.Schedule client request (ClaimAnswer.Entry entry)) _ b refl refl,
      record { free = a.free; answer_is = schedule-faulted _ _ entry a.answer_is },
    )
faulted-allowed c past (Event.Resume client entry fetched ResumeAnswer.Begun stored) f e b a =
    let w = a.1 in
    come-alike c past (Event.Resume client entry fetched (ResumeAnswer.Refused Refusal.KeeperFault) Stored.Fault) f e (
      takes-alike past (Event.Resume client entry fetched ResumeAnswer.Begun stored) _ b refl refl,
      (a.0, record { client_is = w.client_is; row_is = w.row_is; pending = w.pending; fetched_is = fetched-faulted c.basis past entry fetched w.fetched_is; stored_is = refl }),
    )
faulted-allowed c past (Event.Resume client entry fetched (ResumeAnswer.Refused refusal) Stored.Yes) f e b a =
    let w = a.1 in
    come-alike c past (Event.Resume client entry fetched (ResumeAnswer.Refused refusal) Stored.Fault) f e (
      takes-alike past (Event.Resume client entry fetched (ResumeAnswer.Refused refusal) Stored.Yes) _ b refl refl,
      (a.0, record { client_is = w.client_is; row_is = w.row_is; pending = w.pending; fetched_is = w.fetched_is; stored_is = stored-faulted refusal w.stored_is }),
    )
faulted-allowed c past (Event.Finish client entry state Stored.Yes) f e b a =
    let w = a.2 in
    come-alike c past (Event.Finish client entry state Stored.Fault) f e (
      takes-alike past (Event.Finish client entry state Stored.Yes) _ b refl refl,
      (a.0, a.1, record { live = w.live; client_is = w.client_is; open_none = w.open_none; done = w.done; closing = w.closing; state_is = w.state_is; unchanged = unchanged-faulted a.1 w.unchanged }),
    )
faulted-allowed c past (Event.Judge client entry version state Stored.Yes) f e b a =
    let w = a.2 in
    come-alike c past (Event.Judge client entry version state Stored.Fault) f e (
      takes-alike past (Event.Judge client entry version state Stored.Yes) _ b refl refl,
      (a.0, a.1, record { row_is = w.row_is; waits = w.waits; device = w.device; home = w.home; version_is = w.version_is; state_is = w.state_is; stored_is = inr refl }),
    )
faulted-allowed c past _ f e b a = cc

pub crash-legal : (c : Campaign) (past crashed : List Event) → IsLegal c past → LeftOf past crashed → IsLegal c crashed
crash-legal c [] crashed legal e = rw e tt
crash-legal c (event ∷ past) crashed legal (inl e) = rw e legal
crash-legal c (event ∷ past) crashed legal (inr (inl (f, e, g))) = let p = faulted-allowed c past event f e legal.1 legal.2 in rw g (legal.0, p.0, p.1)
crash-legal c (event ∷ past) crashed legal (inr (inr h)) = crash-legal c past crashed legal.0 h

pub get-alike : {X Y : Type 0} (xs : List X) (ys : List Y) (i : ℕ) (x : X) → length ys ≡ length xs → slice_get xs i ≡ Some x → (y : Y) × (slice_get ys i ≡ Some y)
get-alike [] ys i x l h = cc
get-alike (x' ∷ xs) [] i x l h = absurd (omega arith)
get-alike (x' ∷ xs) (y ∷ ys) zero x l h = (y, refl)
get-alike (x' ∷ xs) (y ∷ ys) (suc i) x l h = get-alike xs ys i x (omega arith) h

-- The boot after a crash is allowed, in a campaign that has its plan.
pub next-allowed : (c : Campaign) (past : List Event) (plan : BootPlan) (states : List JournalAndView) (found : Found) (boards : List BoardSeen) → slice_get c.plans (boots past) ≡ Some plan → FitsPast c.basis c.first past states → IsNextBoot c.basis c.first past plan states found boards → MayCome c past (next_boot past plan found boards)
next-allowed c past plan states found boards planned fits n = (
  record { booted = λ h. cc; on = λ h. cc; below = λ h. cc },
  (
    plan,
    record {
      number_is = refl;
      planned = planned;
      time_is = refl;
      limit_is = refl;
      count = n.count;
      listed = λ board b e. listed board b e;
      found_is = n.found_is;
    },
  ),
)
  where
    listed : (board : ℕ) (b : BoardSeen) → slice_get boards board ≡ Some b → BoardListed c.basis c.first past plan board b
    listed board b e =
        let s = get-alike boards states board b (fits.count ∙ sym n.count) e in
        let t = fits.each board s.0 s.1 in
        let f = t.1 in
        let j = f.journal in
        let l = n.listed board b s.0 e s.1 in
        let same : b.untold ≡ t.0 = append_cancel_left (told c.basis past board) b.untold t.0 (sym l.tail ∙ j.told_and_tail) in
        record { number = l.number; presence = l.presence; untold = rw same j.tail_is; shown = l.shown }

-- The journals fit after it.
pub next-fits : (basis : Basis) (first : List Seen) (past : List Event) (plan : BootPlan) (states : List JournalAndView) (found : Found) (boards : List BoardSeen) → FitsPast basis first past states → IsNextBoot basis first past plan states found boards → JournalsFit basis (next_boot past plan found boards ∷ past) states
next-fits basis first past plan states found boards fits n = λ board s e.
    let b = get-alike states boards board s (n.count ∙ sym fits.count) e in
    let tail : untold_of boards board ≡ b.0.untold = ap (λ o. unwrap_or (option_map (λ x. x.untold) o) []) b.1 in
    let l = n.listed board b.0 s b.1 e in
    ([], record { told_and_tail = l.tail ∙ ap (λ m. told basis past board ++ m) (sym tail) ∙ sym (append-nil (told basis past board ++ untold_of boards board)); tail_is = tt })

-- A plan at the end leaves the others where they were, and stands behind them.
pub get-before : {X : Type 0} (xs : List X) (x y : X) (i : ℕ) → slice_get xs i ≡ Some y → slice_get (xs ++ x ∷ []) i ≡ Some y
get-before [] x y i h = cc
get-before (z ∷ zs) x y zero h = h
get-before (z ∷ zs) x y (suc i) h = get-before zs x y i h

-- A campaign with one plan more.
abbrev pub planned_on : Campaign → BootPlan → Campaign
planned_on c plan = record c { plans = c.plans ++ plan ∷ [] }

pub allowed-on : (c : Campaign) (plan : BootPlan) (past : List Event) (event : Event) → Allowed c past event → Allowed (planned_on c plan) past event
allowed-on c plan past (Event.Boot number time limit found boards) a =
    let w = a.1 in
    (a.0, record { number_is = w.number_is; planned = get-before c.plans plan a.0 (boots past) w.planned; time_is = w.time_is; limit_is = w.limit_is; count = w.count; listed = w.listed; found_is = w.found_is })
allowed-on c plan past _ a = a

pub legal-on : (c : Campaign) (plan : BootPlan) (past : List Event) → IsLegal c past → IsLegal (planned_on c plan) past
legal-on c plan [] legal = tt
legal-on c plan (event ∷ past) legal = (legal-on c plan past legal.0, legal.1, allowed-on c plan past event legal.2)

-- The next boot is legal, and the boards were written once then.
abbrev pub BootSafe : Campaign → List Event → Event → List JournalAndView → Type 0
BootSafe c past event states = IsLegal c (event ∷ past) × OncePast c.basis (event ∷ past) states

pub boot-safe : (c : Campaign) (past : List Event) (plan : BootPlan) (states : List JournalAndView) (found : Found) (boards : List BoardSeen) → IsHistory c.basis.opening → IsLegal c past → slice_get c.plans (boots past) ≡ Some plan → FitsPast c.basis c.first past states → IsNextBoot c.basis c.first past plan states found boards → BootSafe c past (next_boot past plan found boards) states
boot-safe c past plan states found boards valid legal planned fits n =
    let a = next-allowed c past plan states found boards planned fits n in
    let after : IsLegal c (next_boot past plan found boards ∷ past) = (legal, a.0, a.1) in (
      after,
      past-once c.basis (next_boot past plan found boards ∷ past) states
          (past-kept c (next_boot past plan found boards ∷ past) valid after)
          (rows-history c (next_boot past plan found boards ∷ past) valid after)
          (next-fits c.basis c.first past plan states found boards fits n),
    )

pub next-safe : (c after : Campaign) (past : List Event) (plan : BootPlan) (states : List JournalAndView) (found : Found) (boards : List BoardSeen) → IsHistory c.basis.opening → IsLegal c past → FitsPast c.basis c.first past states → NextCampaign c past plan after → IsNextBoot c.basis c.first past plan states found boards → BootSafe after past (next_boot past plan found boards) states
next-safe c after past plan states found boards valid legal fits (inl (planned, same)) n =
    subst (λ (x : Campaign). BootSafe x past (next_boot past plan found boards) states) (sym same)
    (boot-safe c past plan states found boards valid legal planned fits n)
next-safe c after past plan states found boards valid legal fits (inr (count, same)) n =
    subst (λ (x : Campaign). BootSafe x past (next_boot past plan found boards) states) (sym same)
    (boot-safe (planned_on c plan) past plan states found boards valid (legal-on c plan past legal)
    (ap (slice_get (c.plans ++ plan ∷ [])) (sym count) ∙ get-last c.plans plan) fits n)

pub crash-safe : (c : Campaign) (log crashed : List Event) → IsHistory c.basis.opening → Legal c log → CrashOf log crashed → IsSafeCrash c crashed
crash-safe c log crashed valid legal crash =
    let left : IsLegal c (past_of crashed) = crash-legal c (past_of log) (past_of crashed) legal crash in
    record {
      legal = left;
      boots = λ states plan after found boards fits next n.
          let boot : Event = next_boot (past_of crashed) plan found boards in
          let safe = next-safe c after (past_of crashed) plan states found boards valid left fits next n in
          let push : past_of (crashed ++ boot ∷ []) ≡ boot ∷ past_of crashed = past-push crashed boot in
          (subst (IsLegal after) (sym push) safe.0, subst (λ past. OncePast after.basis past states) (sym push) safe.1);
    }
