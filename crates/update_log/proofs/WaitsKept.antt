-- Each legal past keeps that a device has at most one row that waits for its end.
use Rattle.std.proofs.Common.{◌≡◌, ◌≢◌, ℕ, Bool, true, false, ◌&&◌, not, List, [], ◌∷◌, refl, ap, sym, ◌∙◌, ◌+◌, arith, length, subst}
use Rattle.std.proofs.lemmas.Bool.{eqb-true, eq-eqb, and_parts}
use Rattle.std.proofs.lemmas.Option.{slice_get-map, same_Some}
use Rattle.std.specs.Prelude.{Option, Some, None, IfSome, ◌==◌, find, option_map, option_and_then, slice_get, unwrap_or}
use Rattle.std.specs.List.{AllByRecursion, list_any}
use Rattle.std.specs.Str.{bytes_eq}
use Rattle.device_list.specs.Lists.{place}
use Rattle.fw_facts.specs.Views.{guids_of}
use Rattle.fw_facts.specs.declared.view.DeviceView.{DeviceView}
use Rattle.history_keeper.specs.Histories.{IsHistory, is_unsettled}
use Rattle.history_keeper.specs.declared.change.Change.{Change}
use Rattle.history_keeper.specs.declared.row.Row.{Row}
use Rattle.history_keeper.specs.declared.row.RowState.{RowState}
use Rattle.release_catalogue.specs.Lookup.{Chosen, chosen}
use Rattle.release_catalogue.specs.declared.reference.ReleaseRef.{ReleaseRef}
use Rattle.update_log.proofs.Accepts.{HasTarget, NoneRefuses, accepts-target}
use Rattle.update_log.proofs.LegalOnce.{past-kept-on}
use Rattle.update_log.proofs.Lists.{All-both, All-filter, All-find, All-map, All-push, by_test, eqb-other, find-passes, find-push_new, map-none}
use Rattle.update_log.proofs.Openings.{EntriesFrom}
use Rattle.update_log.proofs.Rows.{accepted-claim, rows_by-refused}
use Rattle.update_log.proofs.RowsKept.{RowsKept, row_of-past}
use Rattle.update_log.proofs.Unlimited.{unlimited}
use Rattle.update_log.proofs.WaitsOnce.{KeepsOnce, WaitOnce, by-once, found-once, found-own, only-waits, push-state, state-by, state-made, state_of, waits-once, waits_on}
use Rattle.update_log.specs.Boards.{Board, devices}
use Rattle.update_log.specs.Holding.{blocks_fetched, blocks_fetched_if, is_live, live}
use Rattle.update_log.specs.Known.{Basis, Fate, Known, Target, addition, advance, doubt, doubt_by, doubt_found, fate_answered, fate_stored, is_on, known, new_row, reason_of, refusal_number, row_of, rows, rows_by, rows_found, target, target_at, target_of, view_of, views, views_in}
use Rattle.update_log.specs.Legal.{Allowed, BootRuns, ClaimAllowed, ClaimAnswered, FinishAllowed, IsLegal, IsLegalUnlimited, JudgeAllowed, ResumeAllowed, ScheduleAllowed, ScheduleAnswered, may_judge, next_entry}
use Rattle.update_log.specs.Pasts.{is_keeper_fault, off, time_of}
use Rattle.update_log.specs.Shows.{Campaign}
use Rattle.update_log.specs.Steps.{judge}
use Rattle.update_log.specs.Verdicts.{Case, busy, case_of, decided, first_refusal, hindered, installed, is_in_the_way, is_own, is_that_release, kept, locked, no_room, not_updatable, older, on_found, on_kept, on_present, on_target, out_of_size, pending_of, present, refusals, refused_or, retry, retry_fault, rows_full, unmet, unsettled, verdict, vetoed, where_so}
use Rattle.update_log.specs.declared.answer.ClaimAnswer.{ClaimAnswer}
use Rattle.update_log.specs.declared.answer.ResumeAnswer.{ResumeAnswer}
use Rattle.update_log.specs.declared.decision.Decision.{Decision}
use Rattle.update_log.specs.declared.decision.Stage.{Stage}
use Rattle.update_log.specs.declared.event.Back.{Back}
use Rattle.update_log.specs.declared.event.BoardSeen.{BoardSeen}
use Rattle.update_log.specs.declared.event.Event.{Event}
use Rattle.update_log.specs.declared.event.Found.{Found}
use Rattle.update_log.specs.declared.event.Stored.{Stored}
use Rattle.update_log.specs.declared.facts.Facts.{Facts}
use Rattle.update_log.specs.declared.facts.PluginVetoes.{PluginVetoes}
use Rattle.update_log.specs.declared.live.Held.{Held}
use Rattle.update_log.specs.declared.live.LiveEntry.{LiveEntry}
use Rattle.update_log.specs.declared.refusal.FetchNote.{FetchNote}
use Rattle.update_log.specs.declared.refusal.Refusal.{Refusal}
use Rattle.update_log.specs.declared.request.Request.{Request}
use Rattle.version_formats.specs.VersionOrder.{same_version}

-- The row of each live entry is begun.
abbrev pub AllBegun : List Row → List LiveEntry → Type 0
AllBegun rows entries = AllByRecursion (λ l. state_of rows l.entry ≡ Some RowState.Begun) entries

-- What each legal past keeps of the rows that wait.
pub record WaitKept (basis : Basis) (past : List Event) : Type 0 where
  pub once : WaitOnce (rows basis past)
  pub doubt_once : IfSome (doubt basis past) (λ c. KeepsOnce c (rows basis past))
  pub begun : AllBegun (rows basis past) (live past)

-- An accepted request's device has no row that waits.

-- a live entry whose row is of the device is one of the device
live-on : (all : List Row) (device : List ℕ) (entries : List LiveEntry) (r : Row) → row_of all r.entry ≡ Some r → bytes_eq r.device device ≡ true → is_live entries r.entry ≡ true → find (is_on all device) entries ≡ None → ⊥
live-on all device [] r f b h n = cc
live-on all device (l ∷ ls) r f b h n =
    by_test (is_on all device l) ⊥
    (λ t. let bad : Some l ≡ None = rw t at n in cc)
    (λ u. by_test (l.entry == r.entry) ⊥
    (λ t. let same : l.entry ≡ r.entry = eqb-true l.entry r.entry t in
    let at : row_of all l.entry ≡ Some r = ap (row_of all) same ∙ f in
    let on : is_on all device l ≡ true = ap (λ o. unwrap_or (option_map (λ x. bytes_eq x.device device) o) false) at ∙ b in cc)
    (λ t. let rest : is_live ls r.entry ≡ true = rw t at h in
    let none : find (is_on all device) ls ≡ None = rw u at n in
    live-on all device ls r f b rest none))

-- where nothing is in the way and no live entry is on the device, none of its rows waits
no-way : (all : List Row) (device : List ℕ) (entries : List LiveEntry) (way : Row → Bool) (rs : List Row) → ((r : Row) → way r ≡ false → is_live entries r.entry ≡ false → waits_on device r ≡ false) → AllByRecursion (λ r. row_of all r.entry ≡ Some r) rs → find way rs ≡ None → find (is_on all device) entries ≡ None → list_any (waits_on device) rs ≡ false
no-way all device entries way [] k own n m = refl
no-way all device entries way (r ∷ rs) k own n m =
    by_test (way r) _
    (λ t. let bad : Some r ≡ None = rw t at n in cc)
    (λ u. let rest : find way rs ≡ None = rw u at n in
    let none : list_any (waits_on device) rs ≡ false = no-way all device entries way rs k own.1 rest m in
    by_test (waits_on device r) _
    (λ t. by_test (is_live entries r.entry) _
    (λ v. absurd (live-on all device entries r own.0 (and_parts (bytes_eq r.device device) (is_unsettled r.state) t).0 v m))
    (λ v. let bad : true ≡ false = sym t ∙ k r u v in cc))
    (λ t. rw t none))

-- a view's claim is the live entry on its device
target-claim : (facts : Facts) (entries : List LiveEntry) (k : Known) (request : Request) (t : Target) → target facts (views_in facts entries k) request ≡ Some t → t.view.claim ≡ option_map (λ l. l.entry) (find (is_on k.rows t.view.sheet.device) entries)
target-claim facts entries k request t h = at (place request.device (views_in facts entries k)) h
  where
    claimed : (v : DeviceView) (o : Option Board) → option_map (view_of entries k) o ≡ Some v → v.claim ≡ option_map (λ l. l.entry) (find (is_on k.rows v.sheet.device) entries)
    claimed v None e = cc
    claimed v (Some b) e =
        let same : view_of entries k b ≡ v = same_Some (view_of entries k b) v e in
        subst (λ (w : DeviceView). w.claim ≡ option_map (λ l. l.entry) (find (is_on k.rows w.sheet.device) entries)) same refl

    at-chosen : (at : ℕ) (v : DeviceView) (o : Option Chosen) → v.claim ≡ option_map (λ l. l.entry) (find (is_on k.rows v.sheet.device) entries) → option_map (λ c. let u : Target = record { place = at; view = v; chosen = c } in u) o ≡ Some t → t.view.claim ≡ option_map (λ l. l.entry) (find (is_on k.rows t.view.sheet.device) entries)
    at-chosen at v None w e = cc
    at-chosen at v (Some c) w e =
        let same : record { place = at; view = v; chosen = c } ≡ t = same_Some (record { place = at; view = v; chosen = c }) t e in
        subst (λ (u : Target). u.view.claim ≡ option_map (λ l. l.entry) (find (is_on k.rows u.view.sheet.device) entries)) same w

    at-view : (at : ℕ) (o : Option DeviceView) → slice_get (views_in facts entries k) at ≡ o → option_and_then (target_of facts request.version at) o ≡ Some t → t.view.claim ≡ option_map (λ l. l.entry) (find (is_on k.rows t.view.sheet.device) entries)
    at-view at None s e = cc
    at-view at (Some v) s e =
        at-chosen at v (chosen facts.catalogue (guids_of v) request.version)
        (claimed v (slice_get (devices facts) at) (sym (slice_get-map (view_of entries k) (devices facts) at) ∙ s))
        e

    at : (o : Option ℕ) → option_and_then (target_at facts (views_in facts entries k) request.version) o ≡ Some t → t.view.claim ≡ option_map (λ l. l.entry) (find (is_on k.rows t.view.sheet.device) entries)
    at None e = cc
    at (Some p) e = at-view p (slice_get (views_in facts entries k) p) refl e

waits-or : (w l o : Bool) → (w && not l && not o) ≡ false → l ≡ false → o ≡ false → w ≡ false
waits-or false l o h a b = refl
waits-or true true o h a b = cc
waits-or true false true h a b = cc
waits-or true false false h a b = cc

accepted-free : (basis : Basis) (past : List Event) (client : ℕ) (request : Request) (stage : Stage) (t : Target) → pending_of stage ≡ None → EntriesFrom 1 (rows basis past) → HasTarget (case_of basis past client request stage) t → list_any (waits_on t.view.sheet.device) (rows basis past) ≡ false
accepted-free basis past client request stage t own v has =
    let c : Case = case_of basis past client request stage in
    let n : NoneRefuses c t = has.none in
    let claim : t.view.claim ≡ None = map-none (λ entry. Refusal.Busy entry) t.view.claim n.is_busy in
    let none : find (is_on (rows basis past) t.view.sheet.device) (live past) ≡ None =
    map-none (λ (l : LiveEntry). l.entry) (find (is_on (rows basis past) t.view.sheet.device) (live past))
    (sym (target-claim basis.facts (live past) (known basis past) request t has.found) ∙ claim) in
    no-way (rows basis past) t.view.sheet.device (live past) (is_in_the_way c t) (rows basis past)
    (λ r w l. waits-or (waits_on t.view.sheet.device r) (is_live (live past) r.entry) (is_own c r) w l (ap (λ o. unwrap_or (option_map (λ entry. entry == r.entry) o) false) own))
    (found-own 1 (rows basis past) v)
    (map-none (λ (r : Row). Refusal.Unsettled r.entry) (find (is_in_the_way c t) (rows basis past)) n.is_unsettled)
    none

-- No request is refused for the history's fault before its commit.

so-not : (b : Bool) (r : Refusal) → r ≢ Refusal.KeeperFault → where_so b r ≡ Some Refusal.KeeperFault → ⊥
so-not true r k h = k (same_Some r Refusal.KeeperFault h)
so-not false r k h = cc

map-not : {X : Type 0} (f : X → Refusal) (o : Option X) → ((x : X) → f x ≢ Refusal.KeeperFault) → option_map f o ≡ Some Refusal.KeeperFault → ⊥
map-not f None k h = cc
map-not f (Some x) k h = k x (same_Some (f x) Refusal.KeeperFault h)

first-not : (os : List (Option Refusal)) → AllByRecursion (λ o. o ≡ Some Refusal.KeeperFault → ⊥) os → first_refusal os ≡ Some Refusal.KeeperFault → ⊥
first-not [] a h = cc
first-not (None ∷ os) a h = first-not os a.1 h
first-not (Some r ∷ os) a h = a.0 h

none-keeper : (c : Case) (t : Target) → first_refusal (refusals c t) ≡ Some Refusal.KeeperFault → ⊥
none-keeper c t h =
    let busy_not : busy c t ≡ Some Refusal.KeeperFault → ⊥ = map-not (λ e. Refusal.Busy e) _ (λ x e. cc) in
    let unsettled_not : unsettled c t ≡ Some Refusal.KeeperFault → ⊥ = map-not (λ (r : Row). Refusal.Unsettled r.entry) _ (λ x e. cc) in
    let retry_not : retry c t ≡ Some Refusal.KeeperFault → ⊥ = map-not (λ f. Refusal.Retry f) (retry_fault c t) (λ x e. cc) in
    let updatable_not : not_updatable c t ≡ Some Refusal.KeeperFault → ⊥ = so-not _ Refusal.NotUpdatable (λ e. cc) in
    let locked_not : locked c t ≡ Some Refusal.KeeperFault → ⊥ = so-not _ Refusal.Locked (λ e. cc) in
    let hindered_not : hindered c t ≡ Some Refusal.KeeperFault → ⊥ = map-not (λ p. Refusal.Problem p) _ (λ x e. cc) in
    let installed_not : installed c t ≡ Some Refusal.KeeperFault → ⊥ = so-not _ Refusal.SameVersion (λ e. cc) in
    let older_not : older c t ≡ Some Refusal.KeeperFault → ⊥ = so-not _ Refusal.Older (λ e. cc) in
    let unmet_not : unmet c t ≡ Some Refusal.KeeperFault → ⊥ = map-not (λ u. Refusal.Unmet u) _ (λ x e. cc) in
    let vetoed_not : vetoed c t ≡ Some Refusal.KeeperFault → ⊥ = map-not (λ (v : PluginVetoes). Refusal.Veto v.plugin) _ (λ x e. cc) in
    let size_not : out_of_size c t ≡ Some Refusal.KeeperFault → ⊥ = so-not _ _ (λ e. cc) in
    let room_not : no_room c t ≡ Some Refusal.KeeperFault → ⊥ = so-not _ _ (λ e. cc) in
    let full_not : rows_full c t ≡ Some Refusal.KeeperFault → ⊥ = so-not _ Refusal.RowsFull (λ e. cc) in
    first-not (refusals c t) (busy_not, (unsettled_not, (retry_not, (updatable_not, (locked_not, (hindered_not, (installed_not, (older_not, (unmet_not, (vetoed_not, (size_not, (room_not, (full_not, tt))))))))))))) h

or-not : (o : Option Refusal) (device blocks : ℕ) (release : ReleaseRef) → refused_or o (Decision.Accept device release blocks) ≡ Decision.Refused Refusal.KeeperFault → o ≡ Some Refusal.KeeperFault
or-not None device blocks release h = cc
or-not (Some r) device blocks release h = cc

pub decided-not : (c : Case) → decided c ≡ Decision.Refused Refusal.KeeperFault → ⊥
decided-not c h = at-kept (kept c) h
  where
    at-release : (t : Target) (b : Bool) → is_that_release c t.chosen ≡ b → on_found c (Some t) ≡ Decision.Refused Refusal.KeeperFault → ⊥
    at-release t true i g =
        let on : on_target c t ≡ Decision.Refused Refusal.KeeperFault = rw i at g in
        none-keeper c t (or-not (first_refusal (refusals c t)) _ _ _ on)
    at-release t false i g = let bad : Decision.Refused Refusal.NoRelease ≡ Decision.Refused Refusal.KeeperFault = rw i at g in cc

    at-target : (o : Option Target) → on_found c o ≡ Decision.Refused Refusal.KeeperFault → ⊥
    at-target None g = cc
    at-target (Some t) g = at-release t (is_that_release c t.chosen) refl g

    at-present : (o : Option ℕ) → on_present c o ≡ Decision.Refused Refusal.KeeperFault → ⊥
    at-present None g = cc
    at-present (Some at) g = at-target (target c.facts c.views c.request) g

    at-kept : (o : Option Row) → on_kept c o ≡ Decision.Refused Refusal.KeeperFault → ⊥
    at-kept None g = at-present (present c) g
    at-kept (Some row) g = cc

-- One event more.

-- an event that leaves the rows and the doubt
wait-same : (basis : Basis) (past : List Event) (event : Event) → WaitKept basis past → rows basis (event ∷ past) ≡ rows basis past → doubt basis (event ∷ past) ≡ doubt basis past → ((P : LiveEntry → Type 0) → AllByRecursion P (live past) → AllByRecursion P (live (event ∷ past))) → WaitKept basis (event ∷ past)
wait-same basis past event k r d l =
    record {
      once = subst WaitOnce (sym r) k.once;
      doubt_once = rw (d, r) k.doubt_once;
      begun = subst (λ (rs : List Row). AllBegun rs (live (event ∷ past))) (sym r) (l (λ x. state_of (rows basis past) x.entry ≡ Some RowState.Begun) k.begun);
    }

-- an event that asks for a change
wait-asked : (basis : Basis) (past : List Event) (event : Event) (fate : Fate) (change : Option Change) → WaitKept basis past → doubt basis past ≡ None → IfSome change (λ c. KeepsOnce c (rows basis past)) → rows basis (event ∷ past) ≡ rows_by fate change (rows basis past) → doubt basis (event ∷ past) ≡ doubt_by fate change (doubt basis past) → AllBegun (rows_by fate change (rows basis past)) (live (event ∷ past)) → WaitKept basis (event ∷ past)
wait-asked basis past event fate change k none n r d b =
    record {
      once = subst WaitOnce (sym r) (by-once fate change (rows basis past) n k.once);
      doubt_once = rw (d, r, none) (next fate change (rows basis past) n);
      begun = subst (λ (rs : List Row). AllBegun rs (live (event ∷ past))) (sym r) b;
    }
  where
    next : (fate : Fate) (change : Option Change) (rows : List Row) → IfSome change (λ c. KeepsOnce c rows) → IfSome (doubt_by fate change None) (λ c. KeepsOnce c (rows_by fate change rows))
    next Fate.Made change rows h = tt
    next Fate.Dropped change rows h = tt
    next Fate.Doubtful change rows h = h

-- an event that asks for another state of a row that isn't live
wait-advanced : (basis : Basis) (past : List Event) (event : Event) (fate : Fate) (entry : ℕ) (state : RowState) (reason time : ℕ) → WaitKept basis past → doubt basis past ≡ None → KeepsOnce (Change.Advance entry state reason time) (rows basis past) → AllByRecursion (λ l. (entry == l.entry) ≡ false) (live past) → rows basis (event ∷ past) ≡ rows_by fate (Some (Change.Advance entry state reason time)) (rows basis past) → doubt basis (event ∷ past) ≡ doubt_by fate (Some (Change.Advance entry state reason time)) (doubt basis past) → live (event ∷ past) ≡ live past → WaitKept basis (event ∷ past)
wait-advanced basis past event fate entry state reason time k none n apart r d l =
    wait-asked basis past event fate (Some (Change.Advance entry state reason time)) k none n r d
    (subst (AllBegun (rows_by fate (Some (Change.Advance entry state reason time)) (rows basis past))) (sym l)
    (All-both _ _ _ (live past) k.begun apart (λ x h f. state-by fate entry state reason time (rows basis past) x.entry f ∙ h)))

wait-boot : (basis : Basis) (past : List Event) (number time : ℕ) (limit : Option ℕ) (found : Found) (boards : List BoardSeen) → WaitKept basis past → WaitKept basis (Event.Boot number time limit found boards ∷ past)
wait-boot basis past number time limit found boards k =
    record {
      once = found-once found (doubt basis past) (rows basis past) k.doubt_once k.once;
      doubt_once = next found (doubt basis past) (rows basis past) k.doubt_once;
      begun = tt;
    }
  where
    next : (found : Found) (doubt : Option Change) (rows : List Row) → IfSome doubt (λ c. KeepsOnce c rows) → IfSome (doubt_found found doubt) (λ c. KeepsOnce c (rows_found found doubt rows))
    next Found.Kept doubt rows h = tt
    next Found.Lost doubt rows h = tt
    next Found.Plain doubt rows h = h
    next Found.Fault doubt rows h = h

-- What was decided where a claim or a schedule was accepted, or would have been.

abbrev pub IsAccepted : Decision → Type 0
IsAccepted d = (device : ℕ) × (blocks : ℕ) × (release : ReleaseRef) × (d ≡ Decision.Accept device release blocks)

keeper : (refusal : Refusal) → is_keeper_fault refusal ≡ true → refusal ≡ Refusal.KeeperFault
keeper Refusal.KeeperFault h = refl
keeper _ h = cc

pub doubted-claim : (note : FetchNote) (t : Option Target) (next : ℕ) (d : Decision) (refusal : Refusal) → ClaimAnswered note t next d (ClaimAnswer.Refused refusal) → is_keeper_fault refusal ≡ true → (d ≡ Decision.Refused Refusal.KeeperFault → ⊥) → IsAccepted d
doubted-claim note t next (Decision.Kept e s) refusal h f n = cc
doubted-claim note t next (Decision.Refused r) refusal h f n =
    let same : r ≡ refusal = cc in absurd (n (ap Decision.Refused (same ∙ keeper refusal f)))
doubted-claim note t next (Decision.Accept device release blocks) refusal h f n = (device, blocks, release, refl)

pub doubted-schedule : (next : ℕ) (d : Decision) (refusal : Refusal) → ScheduleAnswered next d (ClaimAnswer.Refused refusal) → is_keeper_fault refusal ≡ true → (d ≡ Decision.Refused Refusal.KeeperFault → ⊥) → IsAccepted d
doubted-schedule next (Decision.Kept e s) refusal h f n = cc
doubted-schedule next (Decision.Refused r) refusal h f n =
    let same : r ≡ refusal = cc in absurd (n (ap Decision.Refused (same ∙ keeper refusal f)))
doubted-schedule next (Decision.Accept device release blocks) refusal h f n = (device, blocks, release, refl)

pub accepted-schedule : (next : ℕ) (d : Decision) (entry : ℕ) → ScheduleAnswered next d (ClaimAnswer.Entry entry) → IsAccepted d
accepted-schedule next (Decision.Kept e s) entry h = cc
accepted-schedule next (Decision.Refused r) entry h = cc
accepted-schedule next (Decision.Accept device release blocks) entry h = (device, blocks, release, refl)

-- the change that such a request asks for
abbrev pub asks : Basis → List Event → ℕ → Request → RowState → Option Change
asks basis past client request state = addition basis.facts (time_of past) (live past) (known basis past) client request state

accept-keeps : (basis : Basis) (past : List Event) (client : ℕ) (request : Request) (stage : Stage) (state : RowState) → pending_of stage ≡ None → EntriesFrom 1 (rows basis past) → IsAccepted (verdict basis past client request stage) → IfSome (asks basis past client request state) (λ c. KeepsOnce c (rows basis past))
accept-keeps basis past client request stage state own v d =
    let u = accepts-target (case_of basis past client request stage) d.0 d.1 d.2 d.3 in
    let t : Target = u.0 in
    let has = u.1 in
    subst (λ (o : Option Target). IfSome (option_map (λ x. Change.Add (new_row (length (rows basis past) + 1) (time_of past) client request state x)) o) (λ c. KeepsOnce c (rows basis past)))
    (sym has.found)
    (accepted-free basis past client request stage t own v has)

-- the live entries, once its row was added
added-begun : (basis : Basis) (past : List Event) (client : ℕ) (request : Request) (state : RowState) → AllBegun (rows basis past) (live past) → AllBegun (rows_by Fate.Made (asks basis past client request state) (rows basis past)) (live past)
added-begun basis past client request state b = at (target basis.facts (views basis past) request)
  where
    at : (o : Option Target) → AllBegun (rows_by Fate.Made (option_map (λ x. Change.Add (new_row (length (rows basis past) + 1) (time_of past) client request state x)) o) (rows basis past)) (live past)
    at None = b
    at (Some t) = All-map _ _ (live past) b (λ l h. push-state (rows basis past) (new_row (length (rows basis past) + 1) (time_of past) client request state t) l.entry RowState.Begun h)

-- its row's state
added-state : (basis : Basis) (past : List Event) (client : ℕ) (request : Request) (state : RowState) (entry : ℕ) (t : Target) → EntriesFrom 1 (rows basis past) → target basis.facts (views basis past) request ≡ Some t → entry ≡ next_entry basis past → state_of (rows_by Fate.Made (asks basis past client request state) (rows basis past)) entry ≡ Some state
added-state basis past client request state entry t v found next =
    subst (λ (o : Option Target). state_of (rows_by Fate.Made (option_map (λ x. Change.Add (new_row (length (rows basis past) + 1) (time_of past) client request state x)) o) (rows basis past)) entry ≡ Some state)
    (sym found)
    (ap (option_map (λ r. r.state))
    (find-push_new (λ r. r.entry == entry) (rows basis past) (new_row (length (rows basis past) + 1) (time_of past) client request state t)
    (row_of-past 1 (rows basis past) entry v (omega arith))
    (eq-eqb (length (rows basis past) + 1) entry (sym next))))

wait-claim : (basis : Basis) (past : List Event) (client : ℕ) (request : Request) (fetched : FetchNote) (answer : ClaimAnswer) (held : Held) → WaitKept basis past → RowsKept basis past → off past ≡ false → ClaimAllowed basis past client request fetched answer held → WaitKept basis (Event.Claim client request fetched answer ∷ past)
wait-claim basis past client request fetched (ClaimAnswer.Kept entry state) held k r o a =
    wait-same basis past (Event.Claim client request fetched (ClaimAnswer.Kept entry state)) k refl refl (λ P h. h)
wait-claim basis past client request fetched (ClaimAnswer.Entry entry) held k r o a =
    let d = accepted-claim fetched (target basis.facts (views basis past) request) (next_entry basis past) (verdict basis past client request (Stage.Claim held.release)) entry a.answer_is in
    let u = accepts-target (case_of basis past client request (Stage.Claim held.release)) d.0 d.1 d.2 d.3 in
    let has = u.1 in
    wait-asked basis past (Event.Claim client request fetched (ClaimAnswer.Entry entry)) Fate.Made _ k (r.doubt_off o)
    (accept-keeps basis past client request (Stage.Claim held.release) RowState.Begun refl r.valid.entries (d.0, d.1, d.2, d.3))
    refl refl
    (All-push _ (live past) (record { client = client; entry = entry; blocks = blocks_fetched fetched })
    (added-begun basis past client request RowState.Begun k.begun)
    (added-state basis past client request RowState.Begun entry u.0 r.valid.entries has.found d.4))
wait-claim basis past client request fetched (ClaimAnswer.Refused refusal) held k r o a =
    by_test (is_keeper_fault refusal) _
    (λ f. wait-asked basis past event (fate_answered (ClaimAnswer.Refused refusal)) (asks basis past client request RowState.Begun) k (r.doubt_off o)
    (accept-keeps basis past client request (Stage.Claim held.release) RowState.Begun refl r.valid.entries
    (doubted-claim fetched (target basis.facts (views basis past) request) (next_entry basis past) (verdict basis past client request (Stage.Claim held.release)) refusal a.answer_is f
    (decided-not (case_of basis past client request (Stage.Claim held.release)))))
    refl refl
    (subst (λ (rs : List Row). AllBegun rs (live past)) (sym (rows_by-refused (is_keeper_fault refusal) (asks basis past client request RowState.Begun) (rows basis past))) k.begun))
    (λ f. wait-same basis past event k (rows_by-refused (is_keeper_fault refusal) (asks basis past client request RowState.Begun) (rows basis past)) (rw f refl) (λ P h. h))
  where
    event : Event
    event = Event.Claim client request fetched (ClaimAnswer.Refused refusal)

wait-schedule : (basis : Basis) (past : List Event) (client : ℕ) (request : Request) (answer : ClaimAnswer) → WaitKept basis past → RowsKept basis past → off past ≡ false → ScheduleAllowed basis past client request answer → WaitKept basis (Event.Schedule client request answer ∷ past)
wait-schedule basis past client request (ClaimAnswer.Kept entry state) k r o a =
    wait-same basis past (Event.Schedule client request (ClaimAnswer.Kept entry state)) k refl refl (λ P h. h)
wait-schedule basis past client request (ClaimAnswer.Entry entry) k r o a =
    wait-asked basis past (Event.Schedule client request (ClaimAnswer.Entry entry)) Fate.Made _ k (r.doubt_off o)
    (accept-keeps basis past client request Stage.Schedule RowState.Pending refl r.valid.entries
    (accepted-schedule (next_entry basis past) (verdict basis past client request Stage.Schedule) entry a.answer_is))
    refl refl
    (added-begun basis past client request RowState.Pending k.begun)
wait-schedule basis past client request (ClaimAnswer.Refused refusal) k r o a =
    by_test (is_keeper_fault refusal) _
    (λ f. wait-asked basis past event (fate_answered (ClaimAnswer.Refused refusal)) (asks basis past client request RowState.Pending) k (r.doubt_off o)
    (accept-keeps basis past client request Stage.Schedule RowState.Pending refl r.valid.entries
    (doubted-schedule (next_entry basis past) (verdict basis past client request Stage.Schedule) refusal a.answer_is f
    (decided-not (case_of basis past client request Stage.Schedule))))
    refl refl
    (subst (λ (rs : List Row). AllBegun rs (live past)) (sym (rows_by-refused (is_keeper_fault refusal) (asks basis past client request RowState.Pending) (rows basis past))) k.begun))
    (λ f. wait-same basis past event k (rows_by-refused (is_keeper_fault refusal) (asks basis past client request RowState.Pending) (rows basis past)) (rw f refl) (λ P h. h))
  where
    event : Event
    event = Event.Schedule client request (ClaimAnswer.Refused refusal)

-- Entries that aren't live.

-- the live entries' rows are begun, so an entry whose row isn't begun isn't live
unlike : (rs : List Row) (entry : ℕ) (state : RowState) (entries : List LiveEntry) → state ≢ RowState.Begun → state_of rs entry ≡ Some state → AllBegun rs entries → AllByRecursion (λ l. (entry == l.entry) ≡ false) entries
unlike rs entry state entries n s b =
    All-map _ _ entries b (λ l h. eqb-other entry l.entry (λ e. n (same_Some state RowState.Begun (sym s ∙ ap (state_of rs) e ∙ h))))

none-live : (entry : ℕ) (entries : List LiveEntry) → not (is_live entries entry) ≡ true → AllByRecursion (λ l. (entry == l.entry) ≡ false) entries
none-live entry [] h = tt
none-live entry (l ∷ ls) h =
    by_test (l.entry == entry) _
    (λ t. let bad : false ≡ true = rw t at h in cc)
    (λ f. let rest : not (is_live ls entry) ≡ true = rw f at h in
    (eqb-other entry l.entry (λ e. let t : (l.entry == entry) ≡ true = eq-eqb l.entry entry (sym e) in cc), none-live entry ls rest))

judged-apart : (past : List Event) (rs : List Row) (entry : ℕ) (state : RowState) → may_judge past state entry ≡ true → state_of rs entry ≡ Some state → AllBegun rs (live past) → AllByRecursion (λ l. (entry == l.entry) ≡ false) (live past)
judged-apart past rs entry RowState.Begun w s b = none-live entry (live past) w
judged-apart past rs entry RowState.NeedsReboot w s b = unlike rs entry RowState.NeedsReboot (live past) (λ e. cc) s b
judged-apart past rs entry _ w s b = cc

judged-done : (shown : List ℕ) (row : Row) → is_unsettled (judge shown row) ≡ false
judged-done shown row = by_test (same_version shown row.version_new) _ (λ t. rw t refl) (λ t. rw t refl)

wait-judge : (basis : Basis) (past : List Event) (client entry : ℕ) (version : List ℕ) (state : RowState) (stored : Stored) (row : Row) (view : DeviceView) → WaitKept basis past → RowsKept basis past → off past ≡ false → JudgeAllowed basis past entry version state stored row view → WaitKept basis (Event.Judge client entry version state stored ∷ past)
wait-judge basis past client entry version state stored row view k r o a =
    let is : state_of (rows basis past) entry ≡ Some row.state = ap (option_map (λ x. x.state)) a.row_is in
    let done : is_unsettled state ≡ false = ap is_unsettled a.state_is ∙ judged-done version row in
    wait-advanced basis past (Event.Judge client entry version state stored) (fate_stored stored) entry state (reason_of (rows basis past) entry) (time_of past) k (r.doubt_off o)
    (λ u. let bad : true ≡ false = sym u ∙ done in cc)
    (judged-apart past (rows basis past) entry row.state a.waits is k.begun)
    refl refl refl

wait-finish : (basis : Basis) (past : List Event) (client entry : ℕ) (state : RowState) (stored : Stored) (l : LiveEntry) (closed : RowState) → WaitKept basis past → RowsKept basis past → off past ≡ false → FinishAllowed basis past client entry state stored l closed → WaitKept basis (Event.Finish client entry state stored ∷ past)
wait-finish basis past client entry state stored l closed k r o a =
    let same : l.entry ≡ entry = eqb-true l.entry entry (find-passes (λ x. x.entry == entry) (live past) l a.live) in
    let at : state_of (rows basis past) l.entry ≡ Some RowState.Begun = All-find (λ x. state_of (rows basis past) x.entry ≡ Some RowState.Begun) (λ x. x.entry == entry) (live past) l k.begun a.live in
    let is : state_of (rows basis past) entry ≡ Some RowState.Begun = ap (state_of (rows basis past)) (sym same) ∙ at in
    wait-asked basis past (Event.Finish client entry state stored) (fate_stored stored) (advance (time_of past) (known basis past) entry state) k (r.doubt_off o)
    (λ u. only-waits 1 (rows basis past) entry RowState.Begun r.valid.entries is refl)
    refl refl
    (All-filter _ _ (λ x. not (x.entry == entry)) (live past) k.begun
    (λ x h n. state-by (fate_stored stored) entry state (reason_of (rows basis past) entry) (time_of past) (rows basis past) x.entry (apart x n) ∙ h))
  where
    apart : (x : LiveEntry) → not (x.entry == entry) ≡ true → (entry == x.entry) ≡ false
    apart x n = eqb-other entry x.entry (λ s. let t : (x.entry == entry) ≡ true = eq-eqb x.entry entry (sym s) in let bad : false ≡ true = rw t at n in cc)

wait-resume : (basis : Basis) (past : List Event) (client entry : ℕ) (fetched : Option FetchNote) (answer : ResumeAnswer) (stored : Stored) (row : Row) → WaitKept basis past → RowsKept basis past → off past ≡ false → ResumeAllowed basis past client entry fetched answer stored row → WaitKept basis (Event.Resume client entry fetched answer stored ∷ past)
wait-resume basis past client entry fetched ResumeAnswer.Begun stored row k r o a =
    wait-asked basis past (Event.Resume client entry fetched ResumeAnswer.Begun stored) (fate_stored stored) (advance (time_of past) (known basis past) entry RowState.Begun) k (r.doubt_off o)
    (λ u. only-waits 1 (rows basis past) entry RowState.Pending r.valid.entries is refl)
    refl refl
    (All-push _ (live past) (record { client = client; entry = entry; blocks = blocks_fetched_if fetched })
    (All-both _ _ _ (live past) k.begun (unlike (rows basis past) entry RowState.Pending (live past) (λ e. cc) is k.begun)
    (λ x h f. state-by (fate_stored stored) entry RowState.Begun (reason_of (rows basis past) entry) (time_of past) (rows basis past) x.entry f ∙ h))
    (subst (λ (s : Stored). state_of (rows_by (fate_stored s) (Some (Change.Advance entry RowState.Begun (reason_of (rows basis past) entry) (time_of past))) (rows basis past)) entry ≡ Some RowState.Begun)
    (sym a.stored_is)
    (state-made entry RowState.Begun (reason_of (rows basis past) entry) (time_of past) (rows basis past) RowState.Pending is)))
  where
    is : state_of (rows basis past) entry ≡ Some RowState.Pending
    is = ap (option_map (λ x. x.state)) a.row_is ∙ ap Some a.pending
wait-resume basis past client entry fetched (ResumeAnswer.Refused refusal) stored row k r o a =
    by_test (is_keeper_fault refusal) _
    (λ t. wait-advanced basis past event (fate_stored stored) entry RowState.Begun (reason_of (rows basis past) entry) (time_of past) k (r.doubt_off o)
    (λ u. only-waits 1 (rows basis past) entry RowState.Pending r.valid.entries is refl)
    apart (rw t refl) (rw t refl) refl)
    (λ t. wait-advanced basis past event (fate_stored stored) entry RowState.Failed (refusal_number refusal) (time_of past) k (r.doubt_off o)
    (λ u. cc)
    apart (rw t refl) (rw t refl) refl)
  where
    event : Event
    event = Event.Resume client entry fetched (ResumeAnswer.Refused refusal) stored

    is : state_of (rows basis past) entry ≡ Some RowState.Pending
    is = ap (option_map (λ x. x.state)) a.row_is ∙ ap Some a.pending

    apart : AllByRecursion (λ l. (entry == l.entry) ≡ false) (live past)
    apart = unlike (rows basis past) entry RowState.Pending (live past) (λ e. cc) is k.begun

wait-back : (basis : Basis) (past : List Event) (client : ℕ) (what : Back) → WaitKept basis past → WaitKept basis (Event.GiveBack client what ∷ past)
wait-back basis past client (Back.Tag tag) k = wait-same basis past (Event.GiveBack client (Back.Tag tag)) k refl refl (λ P h. h)
wait-back basis past client (Back.Pending entry) k = wait-same basis past (Event.GiveBack client (Back.Pending entry)) k refl refl (λ P h. h)
wait-back basis past client (Back.Entry entry) k =
    wait-same basis past (Event.GiveBack client (Back.Entry entry)) k refl refl (λ P h. All-filter P P _ (live past) h (λ x w _. w))

wait-step : (c : Campaign) (past : List Event) (event : Event) → WaitKept c.basis past → RowsKept c.basis past → BootRuns past event → Allowed c past event → WaitKept c.basis (event ∷ past)
wait-step c past (Event.Boot number time limit found boards) k r b a = wait-boot c.basis past number time limit found boards k
wait-step c past (Event.Claim client request fetched answer) k r b a = wait-claim c.basis past client request fetched answer a.0 k r (b.on refl) a.1
wait-step c past (Event.Schedule client request answer) k r b a = wait-schedule c.basis past client request answer k r (b.on refl) a
wait-step c past (Event.Resume client entry fetched answer stored) k r b a = wait-resume c.basis past client entry fetched answer stored a.0 k r (b.on refl) a.1
wait-step c past (Event.Finish client entry state stored) k r b a = wait-finish c.basis past client entry state stored a.0 a.1 k r (b.on refl) a.2
wait-step c past (Event.Judge client entry version state stored) k r b a = wait-judge c.basis past client entry version state stored a.0 a.1 k r (b.on refl) a.2
wait-step c past (Event.GiveBack client what) k r b a = wait-back c.basis past client what k
wait-step c past event k r b a = wait-same c.basis past event k refl refl (λ P h. h)

pub wait-kept-on : (c : Campaign) (past : List Event) → IsHistory c.basis.opening → IsLegalUnlimited c past → WaitKept c.basis past
wait-kept-on c [] valid legal = record { once = waits-once c.basis.opening valid.unsettled; doubt_once = tt; begun = tt }
wait-kept-on c (event ∷ past) valid legal =
    let k = past-kept-on c past valid legal.0 in
    wait-step c past event (wait-kept-on c past valid legal.0) k.rows_kept legal.1 legal.2

-- The same of legal pasts.
pub wait-kept : (c : Campaign) (past : List Event) → IsHistory c.basis.opening → IsLegal c past → WaitKept c.basis past
wait-kept c past valid legal = wait-kept-on c past valid (unlimited c past legal)
