-- What an event of another client leaves of what a client has out.
use Rattle.std.proofs.Common.{◌≡◌, ℕ, Bool, true, false, not, List, [], ◌∷◌, ◌++◌, refl, ap, sym, ◌∙◌}
use Rattle.std.specs.Prelude.{Some, ◌==◌, find, filter}
use Rattle.std.specs.List.{list_any}
use Rattle.std.proofs.lemmas.Bool.{eqb-true, or_right}
use Rattle.daemon_core.proofs.ClaimTaking.{any-but_last}
use Rattle.update_log.proofs.Lists.{by_test, eqb-self, find-filter, find-push_other}
use Rattle.update_log.specs.Holding.{blocks_fetched, blocks_fetched_if, hold, holds, live, without_client}
use Rattle.update_log.specs.Legal.{IsFree}
use Rattle.update_log.specs.Pasts.{is_boot, is_of, last_of, off, puts_off, time_of}
use Rattle.update_log.specs.declared.answer.AskAnswer.{AskAnswer}
use Rattle.update_log.specs.declared.answer.ClaimAnswer.{ClaimAnswer}
use Rattle.update_log.specs.declared.answer.ResumeAnswer.{ResumeAnswer}
use Rattle.update_log.specs.declared.event.Back.{Back}
use Rattle.update_log.specs.declared.event.Event.{Event}
use Rattle.update_log.specs.declared.live.Held.{Held}
use Rattle.daemon_core.proofs.LogLaws.{time-same}

-- The event is no boot, and none of the client's.
pub record IsOther (client : ℕ) (event : Event) : Type 0 where
  pub no_boot : is_boot event ≡ false
  pub not_of : is_of client event ≡ false

-- what is found in a list is found in a longer one
pub find-grown : {X : Type 0} (p : X → Bool) (xs ys : List X) (x : X) → find p xs ≡ Some x → find p (xs ++ ys) ≡ Some x
find-grown p [] ys x h = cc
find-grown p (y ∷ rest) ys x h =
    by_test (p y) _
    (λ t. let h' : Some y ≡ Some x = rw t at h in rw t h')
    (λ f. rw f (find-grown p rest ys x (rw f at h)))

pub any-fewer : {X : Type 0} (p q : X → Bool) (xs : List X) → list_any p xs ≡ false → list_any p (filter q xs) ≡ false
any-fewer p q [] h = refl
any-fewer p q (x ∷ xs) h =
    by_test (p x) _
    (λ t. let bad : true ≡ false = rw t at h in cc)
    (λ f. let rest : list_any p (filter q xs) ≡ false = any-fewer p q xs (rw f at h) in
    by_test (q x) _ (λ u. rw (u, f) rest) (λ u. rw u rest))

-- the hold of a client, where those of another one go
pub hold-apart : (hs : List Held) (gone client : ℕ) → (gone == client) ≡ false → find (λ h. h.client == client) (without_client gone hs) ≡ find (λ h. h.client == client) hs
hold-apart hs gone client n =
    find-filter (λ h. h.client == client) (λ h. not (h.client == gone)) hs
    (λ h t. by_test (h.client == gone) _
    (λ u. let s : h.client ≡ client = eqb-true h.client client t in
    let r : h.client ≡ gone = eqb-true h.client gone u in
    let e : gone ≡ client = sym r ∙ s in
    let bad : (gone == client) ≡ true = ap (λ (x : ℕ). x == client) e ∙ eqb-self client in cc)
    (λ u. rw u refl))

pub hold-other : (past : List Event) (event : Event) (client : ℕ) → IsOther client event → hold (event ∷ past) client ≡ hold past client
hold-other past (Event.Boot number time limit found boards) client o = let bad : true ≡ false = o.no_boot in cc
hold-other past (Event.Ask other request pending (AskAnswer.Hold blocks release)) client o =
    let n : (other == client) ≡ false = o.not_of in
    find-push_other (λ h. h.client == client) (without_client other (holds past)) (record { client = other; request = request; pending = pending; blocks = blocks; release = release }) n
    ∙ hold-apart (holds past) other client n
hold-other past (Event.Claim other request fetched answer) client o = hold-apart (holds past) other client o.not_of
hold-other past (Event.Resume other entry fetched answer stored) client o = hold-apart (holds past) other client o.not_of
hold-other past (Event.GiveBack other what) client o = hold-apart (holds past) other client o.not_of
hold-other past _ client o = refl

-- a client without a live entry is still without one
pub none-other : (past : List Event) (event : Event) (client : ℕ) → IsOther client event → list_any (λ l. l.client == client) (live past) ≡ false → list_any (λ l. l.client == client) (live (event ∷ past)) ≡ false
none-other past (Event.Boot number time limit found boards) client o h = refl
none-other past (Event.Claim other request fetched (ClaimAnswer.Entry entry)) client o h =
    any-but_last (λ l. l.client == client) (live past) (record { client = other; entry = entry; blocks = blocks_fetched fetched }) o.not_of ∙ h
none-other past (Event.Resume other entry fetched ResumeAnswer.Begun stored) client o h =
    any-but_last (λ l. l.client == client) (live past) (record { client = other; entry = entry; blocks = blocks_fetched_if fetched }) o.not_of ∙ h
none-other past (Event.Finish other entry state stored) client o h = any-fewer (λ l. l.client == client) (λ l. not (l.entry == entry)) (live past) h
none-other past (Event.GiveBack other (Back.Entry entry)) client o h = any-fewer (λ l. l.client == client) (λ l. not (l.entry == entry)) (live past) h
none-other past _ client o h = h

pub free-other : (past : List Event) (event : Event) (client : ℕ) → IsOther client event → IsFree past client → IsFree (event ∷ past) client
free-other past event client o f = record { hold = hold-other past event client o ∙ f.hold; live = none-other past event client o f.live }

pub last-other : (past : List Event) (event : Event) (client : ℕ) → IsOther client event → last_of client (event ∷ past) ≡ last_of client past
last-other past event client o = rw (o.no_boot, o.not_of) refl

pub time-other : (past : List Event) (event : Event) → is_boot event ≡ false → time_of (event ∷ past) ≡ time_of past
time-other past event b = time-same event (time_of past) b

pub off-other : (past : List Event) (event : Event) → is_boot event ≡ false → off past ≡ true → off (event ∷ past) ≡ true
off-other past event b h = rw b (or_right (puts_off event) (off past) h)
