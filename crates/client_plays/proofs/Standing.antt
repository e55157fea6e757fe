-- Where an event of a boot stands: what came before it, and how long a hold stands behind its ask.
use Rattle.std.proofs.Common.{◌≡◌, ◌⊎◌, ℕ, Bool, true, false, List, [], ◌∷◌, ◌++◌, refl, ap, sym, ◌∙◌, subst, inl, inr}
use Rattle.std.proofs.lemmas.Bool.{eqb-true, or_parts}
use Rattle.std.proofs.lemmas.Option.{same_Some}
use Rattle.std.specs.List.{list_any}
use Rattle.std.specs.Prelude.{Option, Some, None, ◌==◌}
use Rattle.update_log.proofs.Lists.{by_test}
use Rattle.update_log.specs.declared.event.Event.{Event}
use Rattle.update_log.specs.declared.facts.Facts.{Facts}
use Rattle.update_log.specs.declared.live.Held.{Held}
use Rattle.update_log.specs.Holding.{hold, hold_of, holds}
use Rattle.update_log.specs.Legal.{Allowed, IsLegal}
use Rattle.update_log.specs.Pasts.{is_boot, is_of, last_of, last_of_after, off}
use Rattle.update_log.specs.Shows.{Campaign}
use Rattle.client_plays.specs.Moments.{Moment, at, mine}
use Rattle.client_plays.specs.Tools.{Files}
use Rattle.client_plays.proofs.MomentLaws.{grew-off, mine-boot, mine-other, mine-own}
use Rattle.client_plays.proofs.Asked.{hold-kept}
use Rattle.client_plays.proofs.Told.{AllTold, Told}

-- ---- a legal log, in front

pub legal-front : (c : Campaign) (newer past : List Event) → IsLegal c (newer ++ past) → IsLegal c past
legal-front c [] past l = l
legal-front c (e ∷ newer) past l = legal-front c newer past l.0

pub legal-at : (c : Campaign) (newer : List Event) (event : Event) (past : List Event) → IsLegal c (newer ++ event ∷ past) → Allowed c past event
legal-at c newer event past l = (legal-front c newer (event ∷ past) l).2

-- ---- what comes before an event, among its client's own

abbrev last_event : Option Event → List Moment → Option Event
last_event before [] = before
last_event before (m ∷ moments) = last_event (Some m.event) moments

last-push : (before : Option Event) (moments : List Moment) (m : Moment) → last_event before (moments ++ m ∷ []) ≡ Some m.event
last-push before [] m = refl
last-push before (n ∷ moments) m = last-push (Some n.event) moments m

last-own : (client : ℕ) (past : List Event) → last_event None (mine client past) ≡ last_of client past
last-own client [] = refl
last-own client (event ∷ past) =
    by_test (is_boot event) _
    (λ t. ap (λ (ms : List Moment). last_event None ms) (mine-boot client past event t) ∙ sym (none t))
    (λ b. by_test (is_of client event) _
    (λ t. ap (λ (ms : List Moment). last_event None ms) (mine-own client past event b t) ∙ last-push None (mine client past) (at past event) ∙ sym (own b t))
    (λ f. ap (λ (ms : List Moment). last_event None ms) (mine-other client past event b f) ∙ last-own client past ∙ sym (other b f)))
  where
    none : is_boot event ≡ true → last_of client (event ∷ past) ≡ None
    none t = rw t refl

    own : is_boot event ≡ false → is_of client event ≡ true → last_of client (event ∷ past) ≡ Some event
    own b t = rw (b, t) refl

    other : is_boot event ≡ false → is_of client event ≡ false → last_of client (event ∷ past) ≡ last_of client past
    other b f = rw (b, f) refl

module _ (facts : Facts) (files : Files) (Cause : Type 0) where
  all-front : (before : Option Event) (a b : List Moment) → AllTold facts files Cause before (a ++ b) → AllTold facts files Cause before a
  all-front before [] b p = tt
  all-front before (m ∷ a) b p = (p.0, all-front (Some m.event) a b p.1)

  all-last : (before : Option Event) (moments : List Moment) (m : Moment) → AllTold facts files Cause before (moments ++ m ∷ []) → Told facts files Cause (last_event before moments) m.event
  all-last before [] m p = p.0
  all-last before (n ∷ moments) m p = all-last (Some n.event) moments m p.1

  -- What is told of an event of the boot.
  pub told-at : (client : ℕ) (newer : List Event) (event : Event) (past : List Event) → list_any is_boot newer ≡ false → is_boot event ≡ false → is_of client event ≡ true → AllTold facts files Cause None (mine client (newer ++ event ∷ past)) → Told facts files Cause (last_of client past) event
  told-at client [] event past n b o p =
      subst (λ (before : Option Event). Told facts files Cause before event) (last-own client past)
      (all-last None (mine client past) (at past event) (subst (AllTold facts files Cause None) (mine-own client past event b o) p))
  told-at client (e ∷ newer) event past n b o p =
      let k = or_parts (is_boot e) (list_any is_boot newer) n in
      let rest : List Event = newer ++ event ∷ past in
      by_test (is_of client e) _
      (λ t. told-at client newer event past k.1 b o (all-front None (mine client rest) (at rest e ∷ []) (subst (AllTold facts files Cause None) (mine-own client rest e k.0 t) p)))
      (λ f. told-at client newer event past k.1 b o (subst (AllTold facts files Cause None) (mine-other client rest e k.0 f) p))

-- ---- how long a hold stands

-- The event ends a hold of the client; or asks for one.
abbrev pub lets_go : ℕ → Event → Bool
lets_go client (Event.Claim other request fetched answer) = other == client
lets_go client (Event.Resume other entry fetched answer stored) = other == client
lets_go client (Event.GiveBack other what) = other == client
lets_go client _ = false

abbrev pub asks_for : ℕ → Event → Bool
asks_for client (Event.Ask other request pending answer) = other == client
asks_for client _ = false

-- Whoever holds something asks for nothing.
asks-none : (c : Campaign) (past : List Event) (event : Event) (client : ℕ) (held : Held) → Allowed c past event → hold past client ≡ Some held → asks_for client event ≡ false
asks-none c past (Event.Ask other request pending answer) client held a h =
    by_test (other == client) _
    (λ t. let none : hold past client ≡ None = ap (λ (n : ℕ). hold past n) (sym (eqb-true other client t)) ∙ a.free.hold in
    let bad : Some held ≡ None = sym h ∙ none in cc)
    (λ f. f)
asks-none c past _ client held a h = refl

-- An event that neither ends a hold of the client nor asks for one leaves it.
hold-stays : (event : Event) (past : List Event) (client : ℕ) → is_boot event ≡ false → lets_go client event ≡ false → asks_for client event ≡ false → hold (event ∷ past) client ≡ hold past client
hold-stays (Event.Boot number time limit found boards) past client b l a = cc
hold-stays (Event.Ask other request pending answer) past client b l a = hold-kept (Event.Ask other request pending answer) past client refl a
hold-stays (Event.Claim other request fetched answer) past client b l a = hold-kept (Event.Claim other request fetched answer) past client refl l
hold-stays (Event.Resume other entry fetched answer stored) past client b l a = hold-kept (Event.Resume other entry fetched answer stored) past client refl l
hold-stays (Event.GiveBack other what) past client b l a = hold-kept (Event.GiveBack other what) past client refl l
hold-stays _ past client b l a = refl

-- A hold still stands.
record StillHeld (client : ℕ) (asked later : List Event) (held : Held) : Type 0 where
  still : hold (later ++ asked) client ≡ Some held
  asks : list_any (asks_for client) later ≡ false

-- Or one of these events was the first that ended it.
pub record Released (client : ℕ) (asked later : List Event) (held : Held) : Type 0 where
  pub newer : List Event
  pub between : List Event
  pub event : Event
  pub are : later ≡ newer ++ event ∷ between
  pub newer_on : list_any is_boot newer ≡ false
  pub between_on : list_any is_boot between ≡ false
  pub lets : lets_go client event ≡ true
  pub still : hold (between ++ asked) client ≡ Some held
  pub asks : list_any (asks_for client) between ≡ false

still-or-released : (c : Campaign) (client : ℕ) (asked later : List Event) (held : Held) → IsLegal c (later ++ asked) → list_any is_boot later ≡ false → hold asked client ≡ Some held → StillHeld client asked later held ⊎ Released client asked later held
still-or-released c client asked [] held l n h = inl (record { still = h; asks = refl })
still-or-released c client asked (e ∷ later) held l n h =
    let k = or_parts (is_boot e) (list_any is_boot later) n in
    elim (still-or-released c client asked later held l.0 k.1 h) [
      | inl s ↦
          by_test (lets_go client e) _
          (λ t. inr (record { newer = []; between = later; event = e; are = refl; newer_on = refl; between_on = k.1; lets = t; still = s.still; asks = s.asks }))
          (λ f.
          let a : asks_for client e ≡ false = asks-none c (later ++ asked) e client held l.2 s.still in
          inl (record { still = hold-stays e (later ++ asked) client k.0 f a ∙ s.still; asks = rw a s.asks }))
      | inr r ↦
          inr (record {
            newer = e ∷ r.newer;
            between = r.between;
            event = r.event;
            are = ap (λ (es : List Event). e ∷ es) r.are;
            newer_on = rw (k.0) r.newer_on;
            between_on = r.between_on;
            lets = r.lets;
            still = r.still;
            asks = r.asks;
          })
    ]

-- A boot that ends with no hold has ended each that was asked for in it.
pub released : (c : Campaign) (client : ℕ) (asked later : List Event) (held : Held) → IsLegal c (later ++ asked) → list_any is_boot later ≡ false → hold asked client ≡ Some held → holds (later ++ asked) ≡ [] → Released client asked later held
released c client asked later held l n h none =
    elim (still-or-released c client asked later held l n h) [
      | inl s ↦
          (let gone : hold (later ++ asked) client ≡ None = ap (λ (hs : List Held). hold_of hs client) none in
          let bad : Some held ≡ None = sym s.still ∙ gone in cc)
      | inr r ↦ r
    ]

-- ---- the ask before a claim

-- Where none of these events is the client's ask, and its last event is one, that stood before them, and none of them
-- is the client's.
pub last-asked : (client : ℕ) (asked between : List Event) (ask : Event) → list_any is_boot between ≡ false → list_any (asks_for client) between ≡ false → asks_for client ask ≡ true → last_of client (between ++ asked) ≡ Some ask
    → (last_of client asked ≡ Some ask) × (list_any (is_of client) between ≡ false)
last-asked client asked [] ask n a t h = (h, refl)
last-asked client asked (e ∷ between) ask n a t h =
    let k = or_parts (is_boot e) (list_any is_boot between) n in
    let j = or_parts (asks_for client e) (list_any (asks_for client) between) a in
    let l : last_of_after client e (last_of client (between ++ asked)) ≡ Some ask = h in
    by_test (is_of client e) _
    (λ o. let same : Some e ≡ Some ask = rw (k.0, o) at l in
    let bad : true ≡ false = sym t ∙ ap (asks_for client) (sym (same_Some e ask same)) ∙ j.0 in cc)
    (λ o. let before : last_of client (between ++ asked) ≡ Some ask = rw (k.0, o) at l in
    let r = last-asked client asked between ask k.1 j.1 t before in
    (r.0, rw o r.1))

-- A boot that went off stays off.
pub off-behind : (newer past : List Event) → list_any is_boot newer ≡ false → off past ≡ true → off (newer ++ past) ≡ true
off-behind newer past n o = grew-off past (newer ++ past) (record { more = newer; are = refl; no_boot = n }) o
