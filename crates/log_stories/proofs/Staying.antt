-- A story that has more room, and one that then grows: what comes of it goes by the story before.
use Rattle.std.proofs.Common.{◌≡◌, ℕ, Bool, true, false, [], ◌∷◌, ◌++◌, refl, ap, sym, ◌∙◌, subst}
use Rattle.std.specs.Prelude.{Option, Some, None, is_some, if◌then◌else◌}
use Rattle.std.specs.List.{list_any}
use Rattle.device_list.specs.declared.selector.Selector.{Selector}
use Rattle.update_log.specs.Holding.{hold}
use Rattle.update_log.specs.declared.event.Event.{Event}
use Rattle.update_log.specs.declared.event.Query.{Query}
use Rattle.update_log.specs.declared.live.Held.{Held}
use Rattle.update_log.specs.declared.refusal.FetchNote.{FetchNote}
use Rattle.update_log.specs.declared.request.Request.{Request}
use Rattle.log_stories.specs.Stories.{Grown, GrownBy, Stayed, StoryTold, ask_event, ask_if_free, claim_event, claim_if_claimable, claim_if_held, is_claimable, is_free, past, settle_if_none_waits, waits}

grown-then : (event : Event) (old mid new : StoryTold) → Stayed old mid → Grown event mid new → Grown event old new
grown-then event old mid new e g =
    record { basis = g.basis ∙ ap (λ (s : StoryTold). s.basis) e; log = g.log ∙ ap (λ (s : StoryTold). s.core.log ++ event ∷ []) e }

stayed-then : (old mid new : StoryTold) → Stayed old mid → Stayed mid new → Stayed old new
stayed-then old mid new e n =
    n
    ∙ ap (λ (s : StoryTold). let t : StoryTold = record { basis = s.basis; core = record s.core { room = new.core.room; row_room = new.core.row_room } } in t) e

grown_by-then : (o : Option Event) (old mid new : StoryTold) → Stayed old mid → GrownBy o mid new → GrownBy o old new
grown_by-then (Some event) old mid new e g = grown-then event old mid new e g
grown_by-then None old mid new e g = stayed-then old mid new e g

-- What comes of a story goes by the story, and not by its room.
pub grown-as : (p : StoryTold → Option Event) (old mid new : StoryTold) → p mid ≡ p old → Stayed old mid → GrownBy (p mid) mid new → GrownBy (p old) old new
grown-as p old mid new same e g = grown_by-then (p old) old mid new e (subst (λ (o : Option Event). GrownBy o mid new) same g)

pub none-comes : (o : Option Event) (s : StoryTold) → o ≡ None → GrownBy o s s
none-comes o s n = subst (λ (x : Option Event). GrownBy x s s) (sym n) refl

pub one-comes : (o : Option Event) (event : Event) (old new : StoryTold) → o ≡ Some event → Grown event old new → GrownBy o old new
one-comes o event old new n g = subst (λ (x : Option Event). GrownBy x old new) (sym n) g

pub event-as : (p : StoryTold → Event) (old mid new : StoryTold) → p mid ≡ p old → Stayed old mid → Grown (p mid) mid new → Grown (p old) old new
event-as p old mid new same e g = grown-then (p old) old mid new e (subst (λ (event : Event). Grown event mid new) same g)

-- ---- an ask

pub ask-none : (s : StoryTold) (client : ℕ) (request : Request) → is_free (past s) client ≡ false → ask_if_free s client request ≡ None
ask-none s client request f = rw f refl

pub ask-one : (s : StoryTold) (client : ℕ) (request : Request) → is_free (past s) client ≡ true → ask_if_free s client request ≡ Some (ask_event s client request)
ask-one s client request f = rw f refl

-- ---- a device to settle

pub settle-none : (s : StoryTold) (client : ℕ) (device : Selector) → list_any waits s.core.rows ≡ true → settle_if_none_waits s client device ≡ None
settle-none s client device w = rw w refl

pub settle-one : (s : StoryTold) (client : ℕ) (device : Selector) → list_any waits s.core.rows ≡ false → settle_if_none_waits s client device ≡ Some (Event.Query client (Query.Settle device))
settle-one s client device w = rw w refl

-- ---- a claim

pub claim-none : (s : StoryTold) (client : ℕ) (note : FetchNote) (held : Held) → is_claimable s client note held ≡ false → claim_if_claimable s client note held ≡ None
claim-none s client note held f = rw f refl

pub claim-one : (s : StoryTold) (client : ℕ) (note : FetchNote) (held : Held) → is_claimable s client note held ≡ true → claim_if_claimable s client note held ≡ Some (claim_event s client note held)
claim-one s client note held f = rw f refl

pub claim-held : (s : StoryTold) (client : ℕ) (note : FetchNote) (held : Held) → hold (past s) client ≡ Some held → claim_if_held s client note ≡ claim_if_claimable s client note held
claim-held s client note held h = rw h refl

pub claim-unheld : (s : StoryTold) (client : ℕ) (note : FetchNote) → hold (past s) client ≡ None → claim_if_held s client note ≡ None
claim-unheld s client note h = rw h refl

some-if : {X : Type 0} (b : Bool) (x : X) → is_some (if b then Some x else None) ≡ b
some-if true x = refl
some-if false x = refl

pub claim-told : (s : StoryTold) (client : ℕ) (note : FetchNote) (held : Held) → is_some (claim_if_claimable s client note held) ≡ is_claimable s client note held
claim-told s client note held = some-if (is_claimable s client note held) (claim_event s client note held)
