-- What a legal event has, so that a state can take it.
use Rattle.std.proofs.Common.{◌≡◌, ℕ, Bool, true, false, List, [], ◌∷◌, refl, ap, ◌∙◌, ◌<◌, length}
use Rattle.std.specs.Prelude.{Option, Some, None, IfSome, nat_le, option_map, if◌then◌else◌, find}
use Rattle.std.specs.List.{AllByRecursion}
use Rattle.std.proofs.lemmas.Bool.{leb-false}
use Rattle.history_keeper.specs.declared.row.Row.{Row}
use Rattle.release_catalogue.specs.declared.reference.ReleaseRef.{ReleaseRef}
use Rattle.update_log.proofs.Accepts.{accepts-target}
use Rattle.core_state.specs.CoreSteps.{asks_row, is_taken}
use Rattle.update_log.specs.Known.{Target, rows, target, views}
use Rattle.update_log.specs.Legal.{Allowed, ClaimAnswered, ScheduleAnswered, next_entry}
use Rattle.update_log.specs.Pasts.{is_keeper_fault}
use Rattle.update_log.specs.Shows.{Campaign}
use Rattle.update_log.specs.Verdicts.{Case, case_of, decided, first_refusal, is_that_release, kept, need, on_found, on_kept, on_present, on_target, present, refusals, refused_or, retry_fault, rows_full, rows_max, wants_row, where_so}
use Rattle.update_log.specs.declared.answer.ClaimAnswer.{ClaimAnswer}
use Rattle.update_log.specs.declared.decision.Decision.{Decision}
use Rattle.update_log.specs.declared.decision.Stage.{Stage}
use Rattle.update_log.specs.declared.event.Event.{Event}
use Rattle.update_log.specs.declared.refusal.FetchNote.{FetchNote}
use Rattle.update_log.specs.declared.refusal.Refusal.{Refusal}

-- It isn't refusal 16.
abbrev IsOther : Option Refusal → Type 0
IsOther o = IfSome o (λ r. is_keeper_fault r ≡ false)

other-mapped : {X : Type 0} (f : X → Refusal) (o : Option X) → ((x : X) → is_keeper_fault (f x) ≡ false) → IsOther (option_map f o)
other-mapped f None h = tt
other-mapped f (Some x) h = h x

other-where : (b : Bool) (r : Refusal) → is_keeper_fault r ≡ false → IsOther (where_so b r)
other-where true r h = h
other-where false r h = tt

all-other : (c : Case) (t : Target) → AllByRecursion IsOther (refusals c t)
all-other c t =
    (other-mapped _ t.view.claim (λ x. refl), (other-mapped _ (find _ c.rows) (λ x. refl), (other-mapped _ (retry_fault c t) (λ x. refl), (other-where _ Refusal.NotUpdatable refl, (other-where _ Refusal.Locked refl, (other-mapped _ _ (λ x. refl), (other-where _ Refusal.SameVersion refl, (other-where _ Refusal.Older refl, (other-mapped _ _ (λ x. refl), (other-mapped _ _ (λ x. refl), (other-where _ _ refl, (other-where _ _ refl, (other-where _ Refusal.RowsFull refl, tt)))))))))))))

first-other : (xs : List (Option Refusal)) → AllByRecursion IsOther xs → IsOther (first_refusal xs)
first-other [] a = tt
first-other (Some r ∷ xs) a = a.0
first-other (None ∷ xs) a = first-other xs a.1

-- No decision is it.
abbrev IsNotKeeper : Decision → Type 0
IsNotKeeper (Decision.Refused r) = is_keeper_fault r ≡ false
IsNotKeeper (Decision.Accept device release blocks) = Unit {0}
IsNotKeeper (Decision.Kept entry state) = Unit {0}

refused-other : (o : Option Refusal) (device blocks : ℕ) (release : ReleaseRef) → IsOther o → IsNotKeeper (refused_or o (Decision.Accept device release blocks))
refused-other None device blocks release h = tt
refused-other (Some r) device blocks release h = h

pub decided-other : (c : Case) → IsNotKeeper (decided c)
decided-other c = at-kept (kept c)
  where
    at-release : (t : Target) (b : Bool) → IsNotKeeper (if b then on_target c t else Decision.Refused Refusal.NoRelease)
    at-release t true = refused-other (first_refusal (refusals c t)) t.place (need t) t.chosen.at (first-other (refusals c t) (all-other c t))
    at-release t false = refl

    at-target : (o : Option Target) → IsNotKeeper (on_found c o)
    at-target None = refl
    at-target (Some t) = at-release t (is_that_release c t.chosen)

    at-present : (o : Option ℕ) → IsNotKeeper (on_present c o)
    at-present None = refl
    at-present (Some at) = at-target (target c.facts c.views c.request)

    at-kept : (o : Option Row) → IsNotKeeper (on_kept c o)
    at-kept None = at-present (present c)
    at-kept (Some row) = tt

-- It was decided to accept.
abbrev IsAccepted : Decision → Type 0
IsAccepted d = (device : ℕ) × (blocks : ℕ) × (release : ReleaseRef) × (d ≡ Decision.Accept device release blocks)

claim-accepted : (note : FetchNote) (t : Option Target) (next : ℕ) (d : Decision) (answer : ClaimAnswer) → is_taken answer ≡ true → IsNotKeeper d → ClaimAnswered note t next d answer → IsAccepted d
claim-accepted note t next (Decision.Kept entry state) answer h n a = let e : is_taken answer ≡ false = ap is_taken a in cc
claim-accepted note t next (Decision.Refused r) answer h n a = let e : is_taken answer ≡ false = ap is_taken a ∙ n in cc
claim-accepted note t next (Decision.Accept device release blocks) answer h n a = (device, blocks, release, refl)

schedule-accepted : (next : ℕ) (d : Decision) (answer : ClaimAnswer) → is_taken answer ≡ true → IsNotKeeper d → ScheduleAnswered next d answer → IsAccepted d
schedule-accepted next (Decision.Kept entry state) answer h n a = let e : is_taken answer ≡ false = ap is_taken a in cc
schedule-accepted next (Decision.Refused r) answer h n a = let e : is_taken answer ≡ false = ap is_taken a ∙ n in cc
schedule-accepted next (Decision.Accept device release blocks) answer h n a = (device, blocks, release, refl)

not-full : (b : Bool) → where_so b Refusal.RowsFull ≡ None → b ≡ false
not-full true h = cc
not-full false h = refl

-- Where a row is to be added, there are few.
few-rows : (c : Case) → wants_row c.stage ≡ true → IsAccepted (decided c) → length c.rows < 65536
few-rows c w d =
    let t = accepts-target c d.0 d.1 d.2 d.3 in
    let u = t.1 in
    let n = u.none in
    let f : rows_full c t.0 ≡ None = n.is_rows_full in
    let g : where_so (nat_le rows_max (length c.rows)) Refusal.RowsFull ≡ None = rw w at f in
    leb-below (length c.rows) (not-full (nat_le rows_max (length c.rows)) g)
  where
    leb-below : (n : ℕ) → nat_le rows_max n ≡ false → n < 65536
    leb-below n h = leb-false rows_max n h

pub asks-few : (c : Campaign) (past : List Event) (event : Event) → Allowed c past event → asks_row event ≡ true → length (rows c.basis past) < 65536
asks-few c past (Event.Claim client request fetched answer) a h =
    let held = a.0 in
    let k : Case = case_of c.basis past client request (Stage.Claim held.release) in
    let is = a.1 in
    few-rows k refl (claim-accepted fetched (target c.basis.facts (views c.basis past) request) (next_entry c.basis past) (decided k) answer h (decided-other k) is.answer_is)
asks-few c past (Event.Schedule client request answer) a h =
    let k : Case = case_of c.basis past client request Stage.Schedule in
    few-rows k refl (schedule-accepted (next_entry c.basis past) (decided k) answer h (decided-other k) a.answer_is)
asks-few c past _ a h = cc
