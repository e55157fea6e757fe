-- What a client holds whose last event is an ask that was answered with a hold.
use Rattle.std.proofs.Common.{◌≡◌, ◌⊎◌, ℕ, true, false, not, List, [], ◌∷◌, refl, ap, sym, ◌∙◌, subst}
use Rattle.std.proofs.lemmas.Option.{same_Some}
use Rattle.std.specs.Prelude.{Option, Some, None, ◌==◌, find}
use Rattle.release_catalogue.specs.declared.reference.ReleaseRef.{ReleaseRef}
use Rattle.update_log.proofs.Lists.{by_test, eqb-other, eqb-self, find-filter, find-filter_none, find-push_other, find-push_new}
use Rattle.update_log.specs.declared.answer.AskAnswer.{AskAnswer}
use Rattle.update_log.specs.declared.answer.ClaimAnswer.{ClaimAnswer}
use Rattle.update_log.specs.declared.decision.Stage.{Stage}
use Rattle.update_log.specs.declared.event.Event.{Event}
use Rattle.update_log.specs.declared.live.Held.{Held}
use Rattle.update_log.specs.declared.refusal.FetchNote.{FetchNote}
use Rattle.update_log.specs.declared.request.Request.{Request}
use Rattle.update_log.specs.Holding.{hold, holds, without_client}
use Rattle.update_log.specs.Legal.{Allowed, ClaimAllowed, next_entry}
use Rattle.update_log.specs.Pasts.{is_boot, is_of, last_of, last_of_after}
use Rattle.update_log.specs.Shows.{Campaign}
use Rattle.update_log.specs.Verdicts.{verdict}
use Rattle.daemon_core.specs.PutOff.{IsAccept}
use Rattle.client_plays.specs.Shelves.{IsFetched}
use Rattle.client_plays.specs.Tools.{Files}
use Rattle.client_plays.specs.Complete.{CanInstall, Takes}
use Rattle.client_plays.proofs.Takings.{CameWhole, came-whole, claim-came}

-- The hold that an ask gave.
abbrev pub asked_hold : ℕ → Request → Option ℕ → ℕ → ReleaseRef → Held
asked_hold client request pending blocks release =
    record { client = client; request = request; pending = pending; blocks = blocks; release = release }

-- A client's hold is found past those of another one.
others : (other client : ℕ) (all : List Held) → (other == client) ≡ false → find (λ h. h.client == client) (without_client other all) ≡ find (λ h. h.client == client) all
others other client all f =
    find-filter (λ (h : Held). h.client == client) (λ (h : Held). not (h.client == other)) all
    (λ x t. ap not (eqb-other x.client other (λ s. let bad : (other == client) ≡ true = ap (λ (n : ℕ). n == client) (sym s) ∙ t in let no : true ≡ false = sym bad ∙ f in cc)))

-- What another does leaves a client's hold.
pub hold-kept : (event : Event) (past : List Event) (client : ℕ) → is_boot event ≡ false → is_of client event ≡ false → hold (event ∷ past) client ≡ hold past client
hold-kept (Event.Boot number time limit found boards) past client b f = cc
hold-kept (Event.Ask other request pending (AskAnswer.Hold blocks release)) past client b f =
    find-push_other (λ (h : Held). h.client == client) (without_client other (holds past)) (asked_hold other request pending blocks release) f
    ∙ others other client (holds past) f
hold-kept (Event.Claim other request fetched answer) past client b f = others other client (holds past) f
hold-kept (Event.Resume other entry fetched answer stored) past client b f = others other client (holds past) f
hold-kept (Event.GiveBack other what) past client b f = others other client (holds past) f
hold-kept _ past client b f = refl

-- So it holds what it asked for, as long as it does nothing else.
pub asked-hold : (past : List Event) (client : ℕ) (request : Request) (pending : Option ℕ) (blocks : ℕ) (release : ReleaseRef)
    → last_of client past ≡ Some (Event.Ask client request pending (AskAnswer.Hold blocks release)) → hold past client ≡ Some (asked_hold client request pending blocks release)
asked-hold [] client request pending blocks release h = cc
asked-hold (event ∷ past) client request pending blocks release h =
    by_test (is_boot event) _
    (λ t. let bad : None ≡ Some ask = rw t at l in cc)
    (λ t. by_test (is_of client event) _
    (λ u. let e : Some event ≡ Some ask = rw (t, u) at l in
    subst (λ (x : Event). hold (x ∷ past) client ≡ Some (asked_hold client request pending blocks release)) (sym (same_Some event ask e)) now)
    (λ u. let e : last_of client past ≡ Some ask = rw (t, u) at l in
    hold-kept event past client t u ∙ asked-hold past client request pending blocks release e))
  where
    ask : Event
    ask = Event.Ask client request pending (AskAnswer.Hold blocks release)

    l : last_of_after client event (last_of client past) ≡ Some ask
    l = h

    now : hold (ask ∷ past) client ≡ Some (asked_hold client request pending blocks release)
    now =
        find-push_new (λ (x : Held). x.client == client) (without_client client (holds past)) (asked_hold client request pending blocks release)
        (find-filter_none (λ (x : Held). x.client == client) (holds past)) (eqb-self client)

-- The claim of an install takes an entry, where its payload came whole or the shelf failed.
pub install-came : (c : Campaign) (past : List Event) (client : ℕ) (request : Request) (blocks : ℕ) (release : ReleaseRef) (note : FetchNote) (answer : ClaimAnswer)
    → Allowed c past (Event.Claim client request note answer) → last_of client past ≡ Some (Event.Ask client request None (AskAnswer.Hold blocks release))
    → IsAccept (verdict c.basis past client request (Stage.Claim release)) → CameWhole c.basis.facts release note ⊎ (note ≡ FetchNote.ShelfFault) → Takes (next_entry c.basis past) note answer
install-came c past client request blocks release note answer allowed asked accepted came =
    claim-came c.basis past client request note answer (asked_hold client request None blocks release) claim accepted came
  where
    same : allowed.0 ≡ asked_hold client request None blocks release
    same = same_Some allowed.0 (asked_hold client request None blocks release) (sym allowed.1.held_is ∙ asked-hold past client request None blocks release asked)

    claim : ClaimAllowed c.basis past client request note answer (asked_hold client request None blocks release)
    claim = subst (ClaimAllowed c.basis past client request note answer) same allowed.1

pub install-complete : (c : Campaign) (past : List Event) (client : ℕ) (request : Request) (release : ReleaseRef) (note : FetchNote) (answer : ClaimAnswer) (files : Files)
    → Allowed c past (Event.Claim client request note answer) → IsFetched c.basis.facts files release note
    → CanInstall c.basis past files client request release → Takes (next_entry c.basis past) note answer
install-complete c past client request release note answer files allowed fetched can =
    install-came c past client request can.blocks release note answer allowed can.asked can.accepted (came-whole c.basis.facts files release note fetched can.payload)
