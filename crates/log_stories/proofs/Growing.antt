-- A story with one event more.
use Rattle.std.proofs.Common.{◌≡◌, ℕ, ◌+◌, ◌≤◌, ◌<◌, Bool, true, false, not, ◌&&◌, ◌==◌, List, [], ◌∷◌, ◌++◌, length, None, refl, ap, sym, ◌∙◌, subst, arith, inl}
use Rattle.std.proofs.lemmas.List.{length_push}
use Rattle.std.proofs.lemmas.Bool.{and_parts}
use Rattle.std.specs.Prelude.{Option, Some, is_none, option_map}
use Rattle.std.specs.List.{list_any}
use Rattle.fw_facts.specs.declared.view.DeviceView.{DeviceView}
use Rattle.history_keeper.specs.declared.change.Change.{Change}
use Rattle.history_keeper.specs.declared.row.Row.{Row}
use Rattle.history_keeper.specs.declared.row.RowState.{RowState}
use Rattle.core_state.proofs.CoreLegal.{asks-few}
use Rattle.core_state.proofs.FirstSteps.{stands-reserved}
use Rattle.update_log.proofs.Pasts.{past-push}
use Rattle.core_state.specs.Core.{Core, Stands}
use Rattle.update_log.specs.Legal.{IsNext}
use Rattle.update_log.specs.Holding.{hold, live}
use Rattle.update_log.specs.Known.{Basis, Fate, Target, known, new_row, rows, rows_by, target, views}
use Rattle.update_log.specs.Legal.{ClaimAllowed, ClaimAnswered, IsFree, ask_answer, is_fetched, next_entry}
use Rattle.update_log.specs.Pasts.{past_of, time_of}
use Rattle.update_log.specs.Verdicts.{verdict}
use Rattle.update_log.specs.Shows.{campaign_on}
use Rattle.update_log.specs.declared.answer.AskAnswer.{AskAnswer}
use Rattle.update_log.specs.declared.answer.ClaimAnswer.{ClaimAnswer}
use Rattle.update_log.specs.declared.decision.Decision.{Decision}
use Rattle.update_log.specs.declared.decision.Stage.{Stage}
use Rattle.update_log.specs.declared.event.Event.{Event}
use Rattle.update_log.specs.declared.live.Held.{Held}
use Rattle.update_log.specs.declared.refusal.FetchNote.{FetchNote}
use Rattle.update_log.specs.declared.request.Request.{Request}
use Rattle.update_log.proofs.Unlimited.{unlimited}
use Rattle.log_stories.specs.Stories.{IsStory, RunsOn, StoryTold, is_accepted, is_claimable, past}

-- What runs on is legal with its next event, and stands then.
pub runs-next : (basis : Basis) (past : List Event) (event : Event) → RunsOn basis (event ∷ past) → IsNext basis past event
runs-next basis past event r = (r.first, r.plans, unlimited (campaign_on basis r.first r.plans) (event ∷ past) r.legal)

pub story-grown : (event : Event) (basis : Basis) (old new : Core) → RunsOn basis (event ∷ past_of old.log) → new.log ≡ old.log ++ event ∷ [] → Stands basis new
    → IsStory (record { basis = basis; core = new })
story-grown event basis old new r l s =
    record { runs = subst (RunsOn basis) (sym (ap past_of l ∙ past-push old.log event)) r; stands = s }

-- ---- an ask

pub is-free : (o : Option Held) (b : Bool) → (is_none o && not b) ≡ true → (o ≡ None) × (b ≡ false)
is-free None false h = (refl, refl)
is-free None true h = absurd (cc)
is-free (Some held) b h = absurd (cc)

pub free-by : (past : List Event) (client : ℕ) → (is_none (hold past client) && not (list_any (λ l. l.client == client) (live past))) ≡ true → IsFree past client
free-by past client h = let both = is-free (hold past client) (list_any (λ l. l.client == client) (live past)) h in record { hold = both.0; live = both.1 }

pub ask-runs : (basis : Basis) (past : List Event) (client : ℕ) (request : Request) → RunsOn basis past → IsFree past client
    → RunsOn basis (Event.Ask client request None (ask_answer (verdict basis past client request Stage.Ask)) ∷ past)
ask-runs basis past client request r f =
    record {
      first = r.first;
      plans = r.plans;
      legal = (
        r.legal,
        record { booted = λ h. r.booted; on = λ h. r.on; below = λ h. rw r.limit tt },
        record { free = f; pending_is = tt; answer_is = refl },
      );
      booted = r.booted;
      on = r.on;
      limit = r.limit;
    }

pub ask-rows : (basis : Basis) (core : Core) (client : ℕ) (request : Request) (answer : AskAnswer) → Stands basis core
    → length (rows basis (Event.Ask client request None answer ∷ past_of core.log)) ≤ length core.rows + core.row_room
ask-rows basis core client request answer s =
    let same : length (rows basis (past_of core.log)) ≡ length core.rows = ap length (sym s.rows) in
    omega (arith, same)

pub ask-story : (s : StoryTold) (client : ℕ) (request : Request) (answer : AskAnswer) (d : Decision) → IsStory s → IsFree (past s) client → answer ≡ ask_answer d → d ≡ verdict s.basis (past s) client request Stage.Ask
    → RunsOn s.basis (Event.Ask client request None answer ∷ past s)
ask-story s client request answer d k f a e =
    subst (λ (x : AskAnswer). RunsOn s.basis (Event.Ask client request None x ∷ past s)) (sym (a ∙ ap ask_answer e)) (ask-runs s.basis (past s) client request k.runs f)

-- ---- a claim

answered : (note : FetchNote) (t : Option Target) (next : ℕ) (d : Decision) → is_accepted d ≡ true → is_fetched note t ≡ true → ClaimAnswered note t next d (ClaimAnswer.Entry next)
answered note t next (Decision.Accept a b c) i f = rw f (inl refl)
answered note t next (Decision.Kept a b) i f = absurd (cc)
answered note t next (Decision.Refused a) i f = absurd (cc)

pub claim-runs : (basis : Basis) (core : Core) (client : ℕ) (held : Held) (note : FetchNote) → RunsOn basis (past_of core.log) → Stands basis core
    → hold (past_of core.log) client ≡ Some held → held.pending ≡ None
    → is_accepted (verdict basis (past_of core.log) client held.request (Stage.Claim held.release)) ≡ true → is_fetched note (target basis.facts core.views held.request) ≡ true
    → RunsOn basis (Event.Claim client held.request note (ClaimAnswer.Entry (length core.rows + 1)) ∷ past_of core.log)
claim-runs basis core client held note r s h p a f =
    let past : List Event = past_of core.log in
    let fetched : is_fetched note (target basis.facts (views basis past) held.request) ≡ true =
    ap (λ (v : List DeviceView). is_fetched note (target basis.facts v held.request)) (sym s.views) ∙ f in
    let next : next_entry basis past ≡ length core.rows + 1 = ap (λ (x : List Row). length x + 1) (sym s.rows) in
    let answer = answered note (target basis.facts (views basis past) held.request) (next_entry basis past) (verdict basis past client held.request (Stage.Claim held.release)) a fetched in
    let allowed : ClaimAllowed basis past client held.request note (ClaimAnswer.Entry (length core.rows + 1)) held =
    record { held_is = h; request_is = refl; pending = p; answer_is = subst (λ (n : ℕ). ClaimAnswered note (target basis.facts (views basis past) held.request) (next_entry basis past) (verdict basis past client held.request (Stage.Claim held.release)) (ClaimAnswer.Entry n)) next answer } in
    record {
      first = r.first;
      plans = r.plans;
      legal = (r.legal, record { booted = λ h. r.booted; on = λ h. r.on; below = λ h. rw r.limit tt }, (held, allowed));
      booted = r.booted;
      on = r.on;
      limit = r.limit;
    }

one-row : (f : Target → Row) (o : Option Target) (all : List Row) → length (rows_by Fate.Made (option_map (λ t. Change.Add (f t)) o) all) ≤ length all + 1
one-row f None all = omega arith
one-row f (Some t) all = let e = length_push all (f t) in omega (arith, e)

pub claim-rows : (basis : Basis) (core : Core) (client : ℕ) (request : Request) (note : FetchNote) (entry : ℕ) → Stands basis core → 1 ≤ core.row_room
    → length (rows basis (Event.Claim client request note (ClaimAnswer.Entry entry) ∷ past_of core.log)) ≤ length core.rows + core.row_room
claim-rows basis core client request note entry s room =
    let past : List Event = past_of core.log in
    let k = known basis past in
    let same : length (rows basis past) ≡ length core.rows = ap length (sym s.rows) in
    let one = one-row (λ t. new_row (length k.rows + 1) (time_of past) client request RowState.Begun t) (target basis.facts (views basis past) request) (rows basis past) in
    omega (arith, same, one, room)

none-is : {X : Type 0} (o : Option X) → is_none o ≡ true → o ≡ None
none-is None h = refl
none-is (Some x) h = absurd (cc)

pub claim-story : (s : StoryTold) (client : ℕ) (held : Held) (note : FetchNote) → IsStory s → hold (past s) client ≡ Some held → is_claimable s client note held ≡ true
    → (entry : ℕ) → entry ≡ length s.core.rows + 1 → RunsOn s.basis (Event.Claim client held.request note (ClaimAnswer.Entry entry) ∷ past s)
claim-story s client held note k h b entry n =
    let all = and_parts (is_none held.pending && is_fetched note (target s.basis.facts s.core.views held.request)) (is_accepted (verdict s.basis (past s) client held.request (Stage.Claim held.release))) b in
    let first = and_parts (is_none held.pending) (is_fetched note (target s.basis.facts s.core.views held.request)) all.0 in
    rw n (claim-runs s.basis s.core client held note k.runs k.stands h (none-is held.pending first.0) all.1 first.1)

-- What may be claimed is accepted, so the history isn't full.
pub claimable-few : (s : StoryTold) (client : ℕ) (held : Held) (note : FetchNote) → IsStory s → hold (past s) client ≡ Some held → is_claimable s client note held ≡ true → length s.core.rows < 65536
claimable-few s client held note k h b =
    let event : Event = Event.Claim client held.request note (ClaimAnswer.Entry (length s.core.rows + 1)) in
    let r = claim-story s client held note k h b (length s.core.rows + 1) refl in
    let few = asks-few (campaign_on s.basis r.first r.plans) (past s) event r.legal.2 refl in
    let same = ap length k.stands.rows in
    omega (arith, few, same)

-- More room changes nothing.
pub story-roomier : (basis : Basis) (old new : Core) → new ≡ record old { room = new.room; row_room = new.row_room } → IsStory (record { basis = basis; core = old })
    → IsStory (record { basis = basis; core = new })
story-roomier basis old new e k =
    record {
      runs = subst (λ (l : List Event). RunsOn basis (past_of l)) (sym (ap (λ (x : Core). x.log) e)) k.runs;
      stands = stands-reserved basis old new e k.stands;
    }
