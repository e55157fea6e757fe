-- Where the boot isn't off, the entry of each open step is live.
use Rattle.std.proofs.Common.{◌≡◌, ℕ, true, false, ◌||◌, List, [], ◌∷◌, ◌++◌, refl, ap, sym, ◌∙◌}
use Rattle.std.specs.Prelude.{Some, None, ◌==◌, find}
use Rattle.std.specs.List.{AllByRecursion}
use Rattle.std.proofs.lemmas.Bool.{eqb-true, or_parts}
use Rattle.update_log.proofs.Lists.{All-find, All-filter, All-map, All-push, by_test, find-passes}
use Rattle.update_log.specs.Holding.{is_live, live, live_entry, open_steps, step_open, without_entry}
use Rattle.update_log.specs.Legal.{Allowed, IsLegal}
use Rattle.update_log.specs.Pasts.{is_fault, is_keeper_fault, off}
use Rattle.update_log.specs.Shows.{Campaign}
use Rattle.update_log.specs.declared.answer.ClaimAnswer.{ClaimAnswer}
use Rattle.update_log.specs.declared.answer.ResumeAnswer.{ResumeAnswer}
use Rattle.update_log.specs.declared.event.Back.{Back}
use Rattle.update_log.specs.declared.event.Event.{Event}
use Rattle.update_log.specs.declared.live.LiveEntry.{LiveEntry}
use Rattle.update_log.specs.declared.live.OpenStep.{OpenStep}

abbrev AreLive : List LiveEntry → List OpenStep → Type 0
AreLive entries steps = AllByRecursion (λ s. is_live entries s.entry ≡ true) steps

-- Each open step's entry is live, where the boot isn't off.
abbrev pub OpenLive : List Event → Type 0
OpenLive past = off past ≡ false → AreLive (live past) (open_steps past)

pub live-push : (entries : List LiveEntry) (l : LiveEntry) (entry : ℕ) → is_live entries entry ≡ true → is_live (entries ++ l ∷ []) entry ≡ true
live-push [] l entry h = cc
live-push (x ∷ xs) l entry h =
    by_test (x.entry == entry) _
    (λ t. rw t refl)
    (λ t. let h' : is_live xs entry ≡ true = rw t at h in rw t (live-push xs l entry h'))

pub live-found : (entries : List LiveEntry) (entry : ℕ) (l : LiveEntry) → find (λ x. x.entry == entry) entries ≡ Some l → is_live entries entry ≡ true
live-found [] entry l h = cc
live-found (x ∷ xs) entry l h =
    by_test (x.entry == entry) _
    (λ t. rw t refl)
    (λ t. rw t (live-found xs entry l (rw t at h)))

live-left : (entries : List LiveEntry) (gone entry : ℕ) → (entry == gone) ≡ false → is_live entries entry ≡ true → is_live (without_entry gone entries) entry ≡ true
live-left [] gone entry n h = cc
live-left (x ∷ xs) gone entry n h =
    by_test (x.entry == entry) _
    (λ t. let s : x.entry ≡ entry = eqb-true x.entry entry t in
    let k : (x.entry == gone) ≡ false = ap (λ y. y == gone) s ∙ n in rw (k, t) refl)
    (λ t. let h' : is_live xs entry ≡ true = rw t at h in
    let rest : is_live (without_entry gone xs) entry ≡ true = live-left xs gone entry n h' in
    by_test (x.entry == gone) _ (λ k. rw k rest) (λ k. rw (k, t) rest))

-- no step of this entry is open
not-open : (steps : List OpenStep) (entry : ℕ) → find (λ s. s.entry == entry) steps ≡ None → AllByRecursion (λ s. (s.entry == entry) ≡ false) steps
not-open [] entry h = tt
not-open (s ∷ ss) entry h =
    by_test (s.entry == entry) _
    (λ t. let bad : Some s ≡ None = rw t at h in cc)
    (λ t. (t, not-open ss entry (rw t at h)))

both-left : (entries : List LiveEntry) (gone : ℕ) (steps : List OpenStep) → AllByRecursion (λ s. (s.entry == gone) ≡ false) steps → AreLive entries steps → AreLive (without_entry gone entries) steps
both-left entries gone [] n a = tt
both-left entries gone (s ∷ ss) n a = (live-left entries gone s.entry n.0 a.0, both-left entries gone ss n.1 a.1)

open-step : (c : Campaign) (past : List Event) (event : Event) → Allowed c past event → OpenLive past → OpenLive (event ∷ past)
open-step c past (Event.Boot number time limit found boards) a k o = tt
open-step c past (Event.Claim client request fetched (ClaimAnswer.Entry entry)) a k o =
    All-map _ _ (open_steps past) (k o) (λ s h. live-push (live past) _ s.entry h)
open-step c past (Event.Claim client request fetched (ClaimAnswer.Refused refusal)) a k o = k (or_parts (is_keeper_fault refusal) (off past) o).1
open-step c past (Event.Schedule client request (ClaimAnswer.Refused refusal)) a k o = k (or_parts (is_keeper_fault refusal) (off past) o).1
open-step c past (Event.Resume client entry fetched ResumeAnswer.Begun stored) a k o =
    All-map _ _ (open_steps past) (k (or_parts (is_fault stored) (off past) o).1) (λ s h. live-push (live past) _ s.entry h)
open-step c past (Event.Resume client entry fetched (ResumeAnswer.Refused refusal) stored) a k o = k (or_parts (is_keeper_fault refusal || is_fault stored) (off past) o).1
open-step c past (Event.Start client entry op) a k o =
    let s = a.1 in
    All-push _ (open_steps past) (record { client = client; entry = entry; op = op }) (k o) (live-found (live past) entry a.0 s.live)
open-step c past (Event.End client entry op outcome told seen) a k o =
    All-filter _ _ _ (open_steps past) (k o) (λ s h _. h)
open-step c past (Event.Finish client entry state stored) a k o =
    let f = a.2 in
    both-left (live past) entry (open_steps past) (not-open (open_steps past) entry f.open_none) (k (or_parts (is_fault stored) (off past) o).1)
open-step c past (Event.Judge client entry version state stored) a k o = k (or_parts (is_fault stored) (off past) o).1
open-step c past (Event.GiveBack client (Back.Entry entry)) a k o = let off-is : off past ≡ true = a.3 in cc
open-step c past Event.Cut a k o = cc
open-step c past _ a k o = k o

pub open-live : (c : Campaign) (past : List Event) → IsLegal c past → OpenLive past
open-live c [] l o = tt
open-live c (event ∷ past) l o = open-step c past event l.2 (open-live c past l.0) o

-- so the entry of an open step is found among the live ones
pub found-live : (entries : List LiveEntry) (entry : ℕ) → is_live entries entry ≡ true → (l : LiveEntry) × (find (λ x. x.entry == entry) entries ≡ Some l)
found-live [] entry h = cc
found-live (x ∷ xs) entry h =
    by_test (x.entry == entry) _
    (λ t. (x, rw t refl))
    (λ t. let r = found-live xs entry (rw t at h) in (r.0, rw t r.1))

pub open-entry_live : (c : Campaign) (past : List Event) (entry : ℕ) (s : OpenStep) → IsLegal c past → off past ≡ false → step_open past entry ≡ Some s → (l : LiveEntry) × (live_entry past entry ≡ Some l)
open-entry_live c past entry s l o e =
    let same : s.entry ≡ entry = eqb-true s.entry entry (find-passes (λ x. x.entry == entry) (open_steps past) s e) in
    let h : is_live (live past) s.entry ≡ true = All-find (λ x. is_live (live past) x.entry ≡ true) (λ x. x.entry == entry) (open_steps past) s (open-live c past l o) e in
    found-live (live past) entry (ap (is_live (live past)) (sym same) ∙ h)
