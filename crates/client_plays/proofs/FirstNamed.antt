-- Why the refusal that is decided is the first.
use Rattle.std.proofs.Common.{◌≡◌, ℕ, suc, ◌<◌, ◌≤◌, arith, Bool, true, false, List, [], ◌∷◌, refl, sym, ap, ◌∙◌, subst}
use Rattle.std.proofs.lemmas.Option.{same_Some}
use Rattle.std.specs.Prelude.{Option, Some, None, IfSome, ◌==◌, if◌then◌else◌, is_some, option_map}
use Rattle.history_keeper.specs.declared.row.Row.{Row}
use Rattle.update_log.specs.declared.decision.Decision.{Decision}
use Rattle.update_log.specs.declared.refusal.Refusal.{Refusal}
use Rattle.update_log.specs.Known.{Target}
use Rattle.update_log.specs.Verdicts.{Case, busy, decided, first_refusal, hindered, installed, is_that_release, kept, locked, need, no_room, not_updatable, older, on_found, on_kept, on_present, on_target, out_of_size, present, refused_or, retry, rows_full, unmet, unsettled, vetoed, where_so}
use Rattle.client_plays.specs.FirstRefusal.{IsFirst, found_by, has_release, target_in, test_place}
use Rattle.update_log.proofs.Lists.{eqb-other, eqb-self}

-- A table of tests, each under the place of the refusals that it finds.
abbrev Table : Type 0
Table = List (ℕ × Option Refusal)

abbrev look_up : ℕ → Table → Option Refusal
look_up n [] = None
look_up n ((m, o) ∷ rest) = if n == m then o else look_up n rest

-- Each finds refusals of its place, and the places rise.
abbrev Above : ℕ → Table → Type 0
Above n [] = Unit {0}
Above n ((m, o) ∷ rest) = (n < m) × Above n rest

abbrev Rises : Table → Type 0
Rises [] = Unit {0}
Rises ((m, o) ∷ rest) = IfSome o (λ r. test_place r ≡ m) × Above m rest × Rises rest

abbrev found_in : Table → List (Option Refusal)
found_in [] = []
found_in ((m, o) ∷ rest) = o ∷ found_in rest

-- A place at or below the first isn't there.
look-below : (n m : ℕ) (table : Table) → n ≤ m → Above m table → look_up n table ≡ None
look-below n m [] le a = refl
look-below n m ((k, o) ∷ rest) le a =
    let lt : m < k = a.0 in
    rw (eqb-other n k (λ e. omega (arith, le, lt, e))) (look-below n m rest le a.1)

-- The place of what is found first is above what is below the whole table.
first-above : (m : ℕ) (table : Table) (r : Refusal) → Above m table → Rises table → first_refusal (found_in table) ≡ Some r → m < test_place r
first-above m [] r a s f = cc
first-above m ((k, Some x) ∷ rest) r a s f =
    let same : x ≡ r = same_Some x r f in
    let number : test_place r ≡ k = ap test_place (sym same) ∙ s.0 in
    let lt : m < k = a.0 in
    omega (arith, number, lt)
first-above m ((k, None) ∷ rest) r a s f = first-above m rest r a.1 s.2 f

-- What is found first stands under its place, and nothing under a lower one.
first-stands : (table : Table) (r : Refusal) → Rises table → first_refusal (found_in table) ≡ Some r → look_up (test_place r) table ≡ Some r
first-stands [] r s f = cc
first-stands ((k, Some x) ∷ rest) r s f =
    let same : x ≡ r = same_Some x r f in
    let number : test_place r ≡ k = ap test_place (sym same) ∙ s.0 in
    rw number (rw (eqb-self k) f)
first-stands ((k, None) ∷ rest) r s f =
    let lt : k < test_place r = first-above k rest r s.1 s.2 f in
    rw (eqb-other (test_place r) k (λ e. omega (arith, lt, e))) (first-stands rest r s.2 f)

none-lower : (table : Table) (r : Refusal) (n : ℕ) → Rises table → first_refusal (found_in table) ≡ Some r → n < test_place r → look_up n table ≡ None
none-lower [] r n s f lt = refl
none-lower ((k, Some x) ∷ rest) r n s f lt =
    let same : x ≡ r = same_Some x r f in
    let number : test_place r ≡ k = ap test_place (sym same) ∙ s.0 in
    rw (eqb-other n k (λ e. omega (arith, number, lt, e))) (look-below n k rest (omega (arith, number, lt)) s.1)
none-lower ((k, None) ∷ rest) r n s f lt = by (n == k) refl (none-lower rest r n s.2 f lt)
  where
    by : (b : Bool) → (n == k) ≡ b → look_up n rest ≡ None → look_up n ((k, None) ∷ rest) ≡ None
    by true e h = rw e refl
    by false e h = rw e h

-- The thirteen tests of a case whose device has the release, each under its place.
abbrev tests : Case → Target → Table
tests c t =
    (3, busy c t) ∷ (4, unsettled c t) ∷ (5, retry c t) ∷ (6, not_updatable c t) ∷ (7, locked c t) ∷ (8, hindered c t) ∷ (9, installed c t)
    ∷ (10, older c t) ∷ (11, unmet c t) ∷ (12, vetoed c t) ∷ (13, out_of_size c t) ∷ (14, no_room c t) ∷ (16, rows_full c t) ∷ []

-- What a test finds has its place.
so-number : (b : Bool) (r : Refusal) → IfSome (where_so b r) (λ x. test_place x ≡ test_place r)
so-number true r = refl
so-number false r = tt

map-number : {A : Type 0} (o : Option A) (f : A → Refusal) (n : ℕ) → ((a : A) → test_place (f a) ≡ n) → IfSome (option_map f o) (λ x. test_place x ≡ n)
map-number (Some a) f n h = h a
map-number None f n h = tt

tests-rise : (c : Case) (t : Target) → Rises (tests c t)
tests-rise c t =
    (map-number _ _ 3 (λ _. refl), (omega arith, (omega arith, (omega arith, (omega arith, (omega arith, (omega arith, (omega arith, (omega arith, (omega arith, (omega arith, (omega arith, (omega arith, tt)))))))))))), (map-number _ _ 4 (λ _. refl), (omega arith, (omega arith, (omega arith, (omega arith, (omega arith, (omega arith, (omega arith, (omega arith, (omega arith, (omega arith, (omega arith, tt))))))))))), (map-number _ (λ fault. Refusal.Retry fault) 5 (λ _. refl), (omega arith, (omega arith, (omega arith, (omega arith, (omega arith, (omega arith, (omega arith, (omega arith, (omega arith, (omega arith, tt)))))))))), (so-number _ Refusal.NotUpdatable, (omega arith, (omega arith, (omega arith, (omega arith, (omega arith, (omega arith, (omega arith, (omega arith, (omega arith, tt))))))))), (so-number _ Refusal.Locked, (omega arith, (omega arith, (omega arith, (omega arith, (omega arith, (omega arith, (omega arith, (omega arith, tt)))))))), (map-number _ _ 8 (λ _. refl), (omega arith, (omega arith, (omega arith, (omega arith, (omega arith, (omega arith, (omega arith, tt))))))), (so-number _ Refusal.SameVersion, (omega arith, (omega arith, (omega arith, (omega arith, (omega arith, (omega arith, tt)))))), (so-number _ Refusal.Older, (omega arith, (omega arith, (omega arith, (omega arith, (omega arith, tt))))), (map-number _ _ 11 (λ _. refl), (omega arith, (omega arith, (omega arith, (omega arith, tt)))), (map-number _ _ 12 (λ _. refl), (omega arith, (omega arith, (omega arith, tt))), (so-number _ (Refusal.Size t.chosen.release.size t.view.sheet.size_min t.view.sheet.size_max), (omega arith, (omega arith, tt)), (so-number _ (Refusal.NoRoom (need t) _), (omega arith, tt), (so-number _ Refusal.RowsFull, tt, tt)))))))))))))

-- Where the device is present and has the release, each test is that of its place.
test-numbered : (c : Case) (t : Target) (other : Refusal) → is_some (present c) ≡ true → target_in c ≡ Some t → is_that_release c t.chosen ≡ true → found_by c other ≡ look_up (test_place other) (tests c t)
test-numbered c t Refusal.NoDevice p e s = rw p refl
test-numbered c t Refusal.NoRelease p e s = rw e (rw s refl)
test-numbered c t (Refusal.Payload note) p e s = refl
test-numbered c t Refusal.KeeperFault p e s = refl
test-numbered c t _ p e s = rw e refl

-- Which refusals have the places 0 and 1.
none-below-one : (c : Case) (other : Refusal) → test_place other < 1 → found_by c other ≡ None
none-below-one c other lt = absurd (no other lt)
  where
    no : (other : Refusal) → test_place other < 1 → ⊥
    no Refusal.NoDevice lt = omega (arith, lt)
    no Refusal.NoRelease lt = omega (arith, lt)
    no (Refusal.Busy entry) lt = omega (arith, lt)
    no (Refusal.Unsettled entry) lt = omega (arith, lt)
    no Refusal.NotUpdatable lt = omega (arith, lt)
    no Refusal.Locked lt = omega (arith, lt)
    no (Refusal.Problem problem) lt = omega (arith, lt)
    no Refusal.SameVersion lt = omega (arith, lt)
    no Refusal.Older lt = omega (arith, lt)
    no (Refusal.Unmet requirement) lt = omega (arith, lt)
    no (Refusal.Veto plugin) lt = omega (arith, lt)
    no (Refusal.Size len min max) lt = omega (arith, lt)
    no (Refusal.NoRoom blocks left) lt = omega (arith, lt)
    no (Refusal.Payload note) lt = omega (arith, lt)
    no Refusal.RowsFull lt = omega (arith, lt)
    no Refusal.KeeperFault lt = omega (arith, lt)
    no (Refusal.Retry fault) lt = omega (arith, lt)

-- No number below two is two or more.
none-of-it : {n : ℕ} → suc (suc n) < 2 → ⊥
none-of-it lt = omega (arith, lt)

none-below-two : (c : Case) (other : Refusal) → is_some (present c) ≡ true → test_place other < 2 → found_by c other ≡ None
none-below-two c Refusal.NoDevice p lt = rw p refl
none-below-two c _ p lt = absurd (none-of-it lt)

-- A decision that refuses gives the refusal that was found.
refused-same : (a b : Refusal) → Decision.Refused a ≡ Decision.Refused b → a ≡ b
refused-same a b e = cc e

first-on-target : (c : Case) (t : Target) (r : Refusal) → is_some (present c) ≡ true → target_in c ≡ Some t → is_that_release c t.chosen ≡ true → on_target c t ≡ Decision.Refused r → IsFirst c r
first-on-target c t r p e s d = by (first_refusal (found_in (tests c t))) refl d
  where
    by : (o : Option Refusal) → first_refusal (found_in (tests c t)) ≡ o → refused_or o (Decision.Accept t.place t.chosen.at (need t)) ≡ Decision.Refused r → IsFirst c r
    by None f d = cc
    by (Some x) f d =
        let same : x ≡ r = refused-same x r d in
        let first : first_refusal (found_in (tests c t)) ≡ Some r = f ∙ ap Some same in
        record {
          met = test-numbered c t r p e s ∙ first-stands (tests c t) r (tests-rise c t) first;
          none_before = λ other lt. test-numbered c t other p e s ∙ none-lower (tests c t) r (test_place other) (tests-rise c t) first lt;
        }

-- There is no release.
no-release : (c : Case) (r : Refusal) → is_some (present c) ≡ true → has_release c (target_in c) ≡ false → Decision.Refused Refusal.NoRelease ≡ Decision.Refused r → IsFirst c r
no-release c r p h d =
    subst (IsFirst c) (refused-same Refusal.NoRelease r d) (record { met = rw h refl; none_before = λ other lt. none-below-two c other p lt })

first-on-found : (c : Case) (o : Option Target) (r : Refusal) → is_some (present c) ≡ true → target_in c ≡ o → on_found c o ≡ Decision.Refused r → IsFirst c r
first-on-found c None r p e d = no-release c r p (ap (has_release c) e) d
first-on-found c (Some t) r p e d = by (is_that_release c t.chosen) refl d
  where
    by : (b : Bool) → is_that_release c t.chosen ≡ b → (if b then on_target c t else Decision.Refused Refusal.NoRelease) ≡ Decision.Refused r → IsFirst c r
    by true s d = first-on-target c t r p e s d
    by false s d = no-release c r p (ap (has_release c) e ∙ s) d

first-on-present : (c : Case) (o : Option ℕ) (r : Refusal) → present c ≡ o → on_present c o ≡ Decision.Refused r → IsFirst c r
first-on-present c None r e d =
    subst (IsFirst c) (refused-same Refusal.NoDevice r d) (record { met = rw e refl; none_before = λ other lt. none-below-one c other lt })
first-on-present c (Some at) r e d = first-on-found c (target_in c) r (ap is_some e) refl d

first-on-kept : (c : Case) (o : Option Row) (r : Refusal) → on_kept c o ≡ Decision.Refused r → IsFirst c r
first-on-kept c (Some row) r d = cc
first-on-kept c None r d = first-on-present c (present c) r refl d

pub first-named : (c : Case) (r : Refusal) → decided c ≡ Decision.Refused r → IsFirst c r
first-named c r d = first-on-kept c (kept c) r d
