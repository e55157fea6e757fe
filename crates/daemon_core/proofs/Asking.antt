-- An ask that is accepted.
use Rattle.std.proofs.Common.{◌≡◌, ℕ, ◌≤◌, ◌+◌, ◌-◌, Bool, true, false, List, [], ◌∷◌, ◌++◌, length, refl, ap, sym, ◌∙◌, subst, arith}
use Rattle.std.specs.Prelude.{Option, Some, None, slice_get, option_map, option_and_then, if◌then◌else◌, nat_lt, ◌==◌, ◌&&◌, sum_by, ◌*◌}
use Rattle.device_list.specs.Lists.{place}
use Rattle.fw_facts.specs.declared.release.Release.{Release}
use Rattle.std.proofs.lemmas.List.{append-nil, length_push}
use Rattle.std.proofs.lemmas.List.Sums.{sum_by_push}
use Rattle.std.proofs.lemmas.Bool.{ltb-false}
use Rattle.std.proofs.lemmas.Option.{same_Some}
use Rattle.fw_facts.specs.Views.{guids_of}
use Rattle.fw_facts.specs.declared.view.DeviceView.{DeviceView}
use Rattle.fw_facts.specs.declared.seen.Seen.{Seen}
use Rattle.history_keeper.specs.declared.row.Row.{Row}
use Rattle.release_catalogue.specs.Lookup.{Chosen, chosen}
use Rattle.release_catalogue.specs.declared.reference.ReleaseRef.{ReleaseRef}
use Rattle.update_log.proofs.Accepts.{none-refuses}
use Rattle.update_log.proofs.Placed.{chosen-placed}
use Rattle.update_log.proofs.Lists.{by_test}
use Rattle.update_log.specs.Holding.{blocks_of, held, hold, hold_of, holds, without_client}
use Rattle.update_log.specs.Known.{Basis, Target, target, target_at, target_of, views, doubt}
use Rattle.update_log.specs.Legal.{ask_stage}
use Rattle.update_log.specs.Verdicts.{Case, case_of, decided, first_refusal, is_that_release, kept, need, no_room, on_found, on_kept, on_present, on_target, present, refusals, refused_or, verdict, wants_room, where_so}
use Rattle.update_log.specs.declared.answer.AskAnswer.{AskAnswer}
use Rattle.update_log.specs.declared.decision.Decision.{Decision}
use Rattle.update_log.specs.declared.event.Event.{Event}
use Rattle.update_log.specs.declared.facts.Facts.{Facts}
use Rattle.update_log.specs.declared.live.Held.{Held}
use Rattle.update_log.specs.declared.refusal.Refusal.{Refusal}
use Rattle.update_log.specs.declared.request.Request.{Request}
use Rattle.block_pool.specs.Views.{PoolCounts}
use Rattle.history_keeper.specs.declared.change.Change.{Change}
use Rattle.history_keeper.specs.Signs.{KeeperSigns}
use Rattle.update_log.specs.Pasts.{off}
use Rattle.daemon_core.specs.HouseLog.{Appended, IsHouseLog}
use Rattle.daemon_core.specs.House.{IsHouse}
use Rattle.daemon_core.specs.Housed.{basis_in, HouseLogView, Housed, past, past_in}
use Rattle.fw_facts.specs.declared.release.Component.{Component}
use Rattle.daemon_core.specs.Keeping.{KeepsSo}
use Rattle.daemon_core.specs.Owed.{hold_needs, owed}
use Rattle.daemon_core.proofs.HouseKept.{house-next}
use Rattle.daemon_core.proofs.PlacesKept.{SameOfBoard, place-same}
use Rattle.daemon_core.specs.Holds.{IsReleaseAt}

-- What was accepted: the target, its release, and the blocks of its size, which are free where room is wanted.
pub record IsAccepted (c : Case) (release : ReleaseRef) (blocks : ℕ) (t : Target) : Type 0 where
  pub found : target c.facts c.views c.request ≡ Some t
  pub at : release ≡ t.chosen.at
  pub needs : blocks ≡ need t
  pub fits : no_room c t ≡ None

pub accepted : (c : Case) (device blocks : ℕ) (release : ReleaseRef) → decided c ≡ Decision.Accept device release blocks → (t : Target) × IsAccepted c release blocks t
accepted c device blocks release h = at-kept (kept c) h
  where
    at-none : (t : Target) → target c.facts c.views c.request ≡ Some t → (o : Option Refusal) → first_refusal (refusals c t) ≡ o → refused_or o (Decision.Accept t.place t.chosen.at (need t)) ≡ Decision.Accept device release blocks → (t : Target) × IsAccepted c release blocks t
    at-none t e None n g = (t, record { found = e; at = cc; needs = cc; fits = (none-refuses c t n).is_no_room })
    at-none t e (Some r) n g = cc

    at-release : (t : Target) → target c.facts c.views c.request ≡ Some t → (b : Bool) → (if b then on_target c t else Decision.Refused Refusal.NoRelease) ≡ Decision.Accept device release blocks → (t : Target) × IsAccepted c release blocks t
    at-release t e true g = at-none t e (first_refusal (refusals c t)) refl g
    at-release t e false g = cc

    at-target : (o : Option Target) → target c.facts c.views c.request ≡ o → on_found c o ≡ Decision.Accept device release blocks → (t : Target) × IsAccepted c release blocks t
    at-target None e g = cc
    at-target (Some t) e g = at-release t e (is_that_release c t.chosen) g

    at-present : (o : Option ℕ) → on_present c o ≡ Decision.Accept device release blocks → (t : Target) × IsAccepted c release blocks t
    at-present None g = cc
    at-present (Some at) g = at-target (target c.facts c.views c.request) refl g

    at-kept : (o : Option Row) → on_kept c o ≡ Decision.Accept device release blocks → (t : Target) × IsAccepted c release blocks t
    at-kept None g = at-present (present c) g
    at-kept (Some row) g = cc

-- The release of a target stands at its place.
pub target-placed : (facts : Facts) (views : List DeviceView) (request : Request) (t : Target) → target facts views request ≡ Some t → IsReleaseAt facts.catalogue t.chosen.at t.chosen.release
target-placed facts views request t h = at (place request.device views) h
  where
    at-chosen : (place : ℕ) (view : DeviceView) (o : Option Chosen) → chosen facts.catalogue (guids_of view) request.version ≡ o → option_map (λ c. let u : Target = record { place = place; view = view; chosen = c } in u) o ≡ Some t → IsReleaseAt facts.catalogue t.chosen.at t.chosen.release
    at-chosen place view None e g = cc
    at-chosen place view (Some c) e g =
        let same : record { place = place; view = view; chosen = c } ≡ t = same_Some (record { place = place; view = view; chosen = c }) t g in
        let p = chosen-placed facts.catalogue (guids_of view) request.version c e in
        subst (λ (u : Target). IsReleaseAt facts.catalogue u.chosen.at u.chosen.release) same
        (record { component = c.component; component_is = p.component; release_is = p.release })

    at-view : (place : ℕ) (o : Option DeviceView) → option_and_then (target_of facts request.version place) o ≡ Some t → IsReleaseAt facts.catalogue t.chosen.at t.chosen.release
    at-view place None g = cc
    at-view place (Some view) g = at-chosen place view (chosen facts.catalogue (guids_of view) request.version) refl g

    at : (o : Option ℕ) → option_and_then (target_at facts views request.version) o ≡ Some t → IsReleaseAt facts.catalogue t.chosen.at t.chosen.release
    at None g = cc
    at (Some place) g = at-view place (slice_get views place) g

fits-so : (wants : Bool) (need free : ℕ) → wants ≡ true → where_so (wants && nat_lt free need) (Refusal.NoRoom need free) ≡ None → need ≤ free
fits-so false need free w h = cc
fits-so true need free w h = by_test (nat_lt free need) (need ≤ free) (λ t. let e : Some (Refusal.NoRoom need free) ≡ None = rw t at h in cc) (λ f. ltb-false free need f)

ask-wants : (pending : Option ℕ) → wants_room (ask_stage pending) ≡ true
ask-wants None = refl
ask-wants (Some entry) = refl

-- What an accepted ask found.
pub record Found (facts : Facts) (past : List Event) (at : ReleaseRef) (blocks : ℕ) : Type 0 where
  pub release : Release
  pub there : IsReleaseAt facts.catalogue at release
  pub blocks_are : blocks ≡ blocks_of release.size
  pub fits : blocks ≤ facts.pool - held past

pub ask-found : (basis : Basis) (past : List Event) (client : ℕ) (request : Request) (pending : Option ℕ) (device blocks : ℕ) (at : ReleaseRef)
    → verdict basis past client request (ask_stage pending) ≡ Decision.Accept device at blocks → Found basis.facts past at blocks
ask-found basis past client request pending device blocks at h =
    let c = case_of basis past client request (ask_stage pending) in
    let a = accepted c device blocks at h in
    let t : Target = a.0 in
    let fit = fits-so (wants_room (ask_stage pending)) (need t) (basis.facts.pool - held past) (ask-wants pending) a.1.fits in
    let n = a.1.needs in
    record {
      release = t.chosen.release;
      there = subst (λ (r : ReleaseRef). IsReleaseAt basis.facts.catalogue r t.chosen.release) (sym a.1.at) (target-placed basis.facts (views basis past) request t a.1.found);
      blocks_are = n;
      fits = omega (arith, fit, n);
    }

-- Where a client has no hold, no other is taken away.
pub without-none : (client : ℕ) (hs : List Held) → hold_of hs client ≡ None → without_client client hs ≡ hs
without-none client [] h = refl
without-none client (x ∷ xs) h =
    by_test (x.client == client) (without_client client (x ∷ xs) ≡ x ∷ xs)
    (λ t. let e : Some x ≡ None = rw t at h in cc)
    (λ f. let e : hold_of xs client ≡ None = rw f at h in rw f (ap (λ (l : List Held). x ∷ l) (without-none client xs e)))

-- An ask leaves what is said of each board.
pub ask-board : (basis : Basis) (first : List Seen) (past : List Event) (client : ℕ) (request : Request) (pending : Option ℕ) (answer : AskAnswer) (number : ℕ) → SameOfBoard basis first past (Event.Ask client request pending answer ∷ past) number
ask-board basis first past client request pending answer number =
    record { told = append-nil _; out = refl; opened = refl; marks = refl; booted = λ h. h; seen = refl; before = refl; began = refl; raws = λ entry raw h. h; faults = refl }

hold-more : (b : Bool) (n : ℕ) → hold_needs b * (n + 1) ≤ hold_needs b * n + 2
hold-more true n = omega arith
hold-more false n = omega arith

-- A hold owes two events more, and its blocks are held.
pub owed-held : (past : List Event) (client : ℕ) (request : Request) (pending : Option ℕ) (blocks : ℕ) (release : ReleaseRef) → hold past client ≡ None → owed (Event.Ask client request pending (AskAnswer.Hold blocks release) ∷ past) ≤ owed past + 2
owed-held past client request pending blocks release h =
    let h' : Held = record { client = client; request = request; pending = pending; blocks = blocks; release = release } in
    let e : length (without_client client (holds past) ++ h' ∷ []) ≡ length (holds past) + 1 = ap (λ (l : List Held). length (l ++ h' ∷ [])) (without-none client (holds past) h) ∙ length_push (holds past) h' in
    let m = hold-more (off past) (length (holds past)) in
    rw e (omega (arith, m))

pub held-more : (past : List Event) (client : ℕ) (request : Request) (pending : Option ℕ) (blocks : ℕ) (release : ReleaseRef) → hold past client ≡ None → held (Event.Ask client request pending (AskAnswer.Hold blocks release) ∷ past) ≡ held past + blocks
held-more past client request pending blocks release h =
    let h' : Held = record { client = client; request = request; pending = pending; blocks = blocks; release = release } in
    let e : sum_by (λ (x : Held). x.blocks) (without_client client (holds past) ++ h' ∷ []) ≡ sum_by (λ (x : Held). x.blocks) (holds past) + blocks = ap (λ (l : List Held). sum_by (λ (x : Held). x.blocks) (l ++ h' ∷ [])) (without-none client (holds past) h) ∙ sum_by_push (λ (x : Held). x.blocks) (holds past) h' in
    rw e (omega arith)

-- A house, after an ask that was accepted.
pub house-held : {K : Type 0} (signs : KeeperSigns K) (client : ℕ) (request : Request) (pending : Option ℕ) (blocks : ℕ) (release : ReleaseRef) (old : Housed K) (new : HouseLogView) (pool : PoolCounts) → IsHouse signs old → IsHouseLog old.house_log → IsHouseLog new → Appended client (Event.Ask client request pending (AskAnswer.Hold blocks release)) old.house_log new → old.house_log.loaded ≡ true
    → hold (past old) client ≡ None → pool.capacity ≡ old.pool.capacity → pool.free + blocks ≡ old.pool.free → IsHouse signs (record old { house_log = new; pool = pool })
house-held signs client request pending blocks release old new pool h o k a l none cap free =
    let more = held-more (past old) client request pending blocks release none in
    let was = h.free in
    house-next signs client (Event.Ask client request pending (AskAnswer.Hold blocks release)) old (record old { house_log = new; pool = pool }) h a k
    (record {
      count = refl;
      places = λ number place e.
          place-same (basis_in old.house_log) old.house_log.first (past old) (Event.Ask client request pending (AskAnswer.Hold blocks release) ∷ past old) number place
          (ask-board (basis_in old.house_log) old.house_log.first (past old) client request pending (AskAnswer.Hold blocks release) number) (h.places number place e);
      loaded = l;
      kept =
          subst (λ (x : List Row). KeepsSo old.house_log.reopened signs old.keeper x (doubt (basis_in old.house_log) (past old))) o.stands.rows
          (subst (λ (x : Option Change). KeepsSo old.house_log.reopened signs old.keeper old.house_log.core.rows x) o.stands.doubt (h.kept l));
      capacity = cap;
      free = omega (arith, more, was, free);
    })

-- One release stands at a place.
pub release-same : (catalogue : List Component) (at : ReleaseRef) (a b : Release) → IsReleaseAt catalogue at a → IsReleaseAt catalogue at b → a ≡ b
release-same catalogue at a b k l =
    let c : Some k.component ≡ Some l.component = sym k.component_is ∙ l.component_is in
    let e : k.component ≡ l.component = same_Some k.component l.component c in
    same_Some a b (sym k.release_is ∙ ap (λ (x : Component). slice_get x.releases at.release) e ∙ l.release_is)

-- What was accepted over a house log, over one that is the same.
pub found-over : (a b : HouseLogView) (client : ℕ) (request : Request) (pending : Option ℕ) (at : ReleaseRef) (blocks : ℕ) → b ≡ a
    → (device : ℕ) × (verdict (basis_in a) (past_in a) client request (ask_stage pending) ≡ Decision.Accept device at blocks) → Found b.facts (past_in b) at blocks
found-over a b client request pending at blocks e h =
    subst (λ (x : HouseLogView). Found x.facts (past_in x) at blocks) (sym e) (ask-found (basis_in a) (past_in a) client request pending h.0 blocks at h.1)
