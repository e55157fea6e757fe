-- One board of each device ID is a device.
use Rattle.std.proofs.Common.{◌≡◌, ◌≢◌, ℕ, zero, suc, Bool, true, false, not, ◌&&◌, ◌||◌, List, [], ◌∷◌, refl, sym, ◌∙◌, subst, ◌<◌, ◌≤◌, ◌+◌, ◌⊎◌, inl, inr, arith, length}
use Rattle.std.specs.Prelude.{Option, Some, None, ◌==◌, nat_lt, is_some, option_map, unwrap_or, filter, find, AllPairs, Contains, slice_index_or}
use Rattle.std.specs.List.{AllByRecursion, list_any}
use Rattle.std.specs.Str.{bytes_eq}
use Rattle.std.proofs.lemmas.Bool.{eqb-true, eq-eqb, ltb-true, ltb-false, and_parts, not-true, or_right, or_left, and_from, or_cases}
use Rattle.fw_facts.specs.declared.sheet.Sheet.{Sheet}
use Rattle.update_log.specs.declared.facts.Facts.{Facts}
use Rattle.update_log.specs.Boards.{Board, boards_from, all_boards, plugin_place, is_served, is_earlier, is_same_place, goes_before, is_beaten, is_device, devices, board_with, OneDevice}
use Rattle.update_log.proofs.Lists.{by_test, All-map, All-filter}
use Rattle.update_log.proofs.Openings.{bytes-self, bytes-same}

-- An element is in a list where each test that it passes finds some.
abbrev pub IsIn : {X : Type 0} → List X → X → Type 0
IsIn {X} xs x = (p : X → Bool) → p x ≡ true → list_any p xs ≡ true

in-more : {X : Type 0} (x : X) (xs : List X) (y : X) → IsIn xs y → IsIn (x ∷ xs) y
in-more x xs y h = λ p t. by_test (p x) _ (λ u. rw u refl) (λ u. rw u (h p t))

pub each-in : {X : Type 0} (xs : List X) → AllByRecursion (IsIn xs) xs
each-in [] = tt
each-in (x ∷ xs) = (λ p t. rw t refl, All-map (IsIn xs) (IsIn (x ∷ xs)) xs (each-in xs) (λ y h. in-more x xs y h))

-- How two boards stand, as numbers: the priority, the plugin's place, the number.
pub record Rank : Type 0 where
  pub priority : ℕ
  pub place : ℕ
  pub number : ℕ

abbrev Above : Rank → Rank → Type 0
Above a b = (b.priority < a.priority) ⊎ ((a.priority ≡ b.priority) × ((a.place < b.place) ⊎ ((a.place ≡ b.place) × (a.number < b.number))))

abbrev rank_of : Facts → Board → Rank
rank_of facts b = record { priority = b.sheet.priority; place = unwrap_or (plugin_place facts b) 0; number = b.number }

lt-true : (a b : ℕ) → a < b → nat_lt a b ≡ true
lt-true a b h = by_test (nat_lt a b) _ (λ t. t) (λ f. absurd (omega (arith, ltb-false a b f, h)))

-- The rank decides, for boards that are served.
before-by : (pa pb : ℕ) (a b : Option ℕ) (na nb : ℕ) → is_some a ≡ true → is_some b ≡ true → Above (record { priority = pa; place = unwrap_or a 0; number = na }) (record { priority = pb; place = unwrap_or b 0; number = nb }) → (nat_lt pb pa || ((pa == pb) && (is_earlier a b || (is_same_place a b && nat_lt na nb)))) ≡ true
before-by pa pb None b na nb s t h = cc
before-by pa pb (Some i) None na nb s t h = cc
before-by pa pb (Some i) (Some j) na nb s t (inl h) = or_left _ _ (lt-true pb pa h)
before-by pa pb (Some i) (Some j) na nb s t (inr (e, inl h)) = or_right (nat_lt pb pa) _ (and_from (pa == pb) _ (eq-eqb pa pb e) (or_left _ _ (lt-true i j h)))
before-by pa pb (Some i) (Some j) na nb s t (inr (e, inr (p, h))) =
    or_right (nat_lt pb pa) _ (and_from (pa == pb) _ (eq-eqb pa pb e) (or_right (nat_lt i j) _ (and_from (i == j) _ (eq-eqb i j p) (lt-true na nb h))))

by-before : (pa pb : ℕ) (a b : Option ℕ) (na nb : ℕ) → (nat_lt pb pa || ((pa == pb) && (is_earlier a b || (is_same_place a b && nat_lt na nb)))) ≡ true → Above (record { priority = pa; place = unwrap_or a 0; number = na }) (record { priority = pb; place = unwrap_or b 0; number = nb })
by-before pa pb a b na nb h = at (or_cases (nat_lt pb pa) _ h)
  where
    places : (a b : Option ℕ) → (is_earlier a b ≡ true) ⊎ ((is_same_place a b && nat_lt na nb) ≡ true) → (unwrap_or a 0 < unwrap_or b 0) ⊎ ((unwrap_or a 0 ≡ unwrap_or b 0) × (na < nb))
    places None b (inl h) = cc
    places None b (inr h) = cc
    places (Some i) None (inl h) = cc
    places (Some i) None (inr h) = cc
    places (Some i) (Some j) (inl h) = inl (ltb-true i j h)
    places (Some i) (Some j) (inr h) = let p = and_parts (i == j) (nat_lt na nb) h in inr (eqb-true i j p.0, ltb-true na nb p.1)

    at : (nat_lt pb pa ≡ true) ⊎ (((pa == pb) && (is_earlier a b || (is_same_place a b && nat_lt na nb))) ≡ true) → Above (record { priority = pa; place = unwrap_or a 0; number = na }) (record { priority = pb; place = unwrap_or b 0; number = nb })
    at (inl t) = inl (ltb-true pb pa t)
    at (inr t) = let p = and_parts (pa == pb) _ t in inr (eqb-true pa pb p.0, places a b (or_cases (is_earlier a b) _ p.1))

-- Of two ranks with different numbers one is above the other; none is above itself; and above is
-- passed on.
compared : (a b : ℕ) → (a < b) ⊎ (a ≡ b) ⊎ (b < a)
compared a b =
    by_test (nat_lt a b) _ (λ t. inl (ltb-true a b t))
    (λ f. by_test (nat_lt b a) _ (λ t. inr (inr (ltb-true b a t))) (λ g. inr (inl (omega (arith, ltb-false a b f, ltb-false b a g)))))

above-one : (a b : Rank) → a.number < b.number → Above a b ⊎ Above b a
above-one a b n = at (compared a.priority b.priority)
  where
    placed : a.priority ≡ b.priority → (a.place < b.place) ⊎ (a.place ≡ b.place) ⊎ (b.place < a.place) → Above a b ⊎ Above b a
    placed e (inl h) = inl (inr (e, inl h))
    placed e (inr (inl h)) = inl (inr (e, inr (h, n)))
    placed e (inr (inr h)) = inr (inr (sym e, inl h))

    at : (a.priority < b.priority) ⊎ (a.priority ≡ b.priority) ⊎ (b.priority < a.priority) → Above a b ⊎ Above b a
    at (inl h) = inr (inl h)
    at (inr (inl e)) = placed e (compared a.place b.place)
    at (inr (inr h)) = inl (inl h)

-- A served board of the ID that goes before another beats it.
beats : (facts : Facts) (a b : Board) → is_served facts a ≡ true → is_served facts b ≡ true → a.sheet.device ≡ b.sheet.device → Above (rank_of facts a) (rank_of facts b) → is_beaten facts b a ≡ true
beats facts a b s t e h =
    and_from (bytes_eq a.sheet.device b.sheet.device && is_served facts a) (goes_before facts a b)
    (and_from (bytes_eq a.sheet.device b.sheet.device) (is_served facts a) (rw e (bytes-self b.sheet.device)) s)
    (before-by a.sheet.priority b.sheet.priority (plugin_place facts a) (plugin_place facts b) a.number b.number s t h)

-- A device is in the list of boards, served and not beaten.
pub record IsOne (facts : Facts) (b : Board) : Type 0 where
  pub inside : IsIn (all_boards facts) b
  pub served : is_served facts b ≡ true
  pub unbeaten : list_any (is_beaten facts b) (all_boards facts) ≡ false

pub one-of : (facts : Facts) (b : Board) → IsIn (all_boards facts) b → is_device facts b ≡ true → IsOne facts b
one-of facts b i d =
    let p = and_parts (is_served facts b) (not (list_any (is_beaten facts b) (all_boards facts))) d in
    record { inside = i; served = p.0; unbeaten = not-true (list_any (is_beaten facts b) (all_boards facts)) p.1 }

pub devices-are : (facts : Facts) → AllByRecursion (IsOne facts) (devices facts)
devices-are facts = All-filter (IsIn (all_boards facts)) (IsOne facts) (is_device facts) (all_boards facts) (each-in (all_boards facts)) (λ b i d. one-of facts b i d)

-- Two devices with different numbers have different IDs.
pub apart : (facts : Facts) (a b : Board) → IsOne facts a → IsOne facts b → a.number < b.number → a.sheet.device ≢ b.sheet.device
apart facts a b x y n e = at (above-one (rank_of facts a) (rank_of facts b) n)
  where
    at : Above (rank_of facts a) (rank_of facts b) ⊎ Above (rank_of facts b) (rank_of facts a) → ⊥
    at (inl h) = let t = x.inside (is_beaten facts b) (beats facts a b x.served y.served e h) in let f : list_any (is_beaten facts b) (all_boards facts) ≡ false = y.unbeaten in let bad : true ≡ false = sym t ∙ f in cc
    at (inr h) = let t = y.inside (is_beaten facts a) (beats facts b a y.served x.served (sym e) h) in let f : list_any (is_beaten facts a) (all_boards facts) ≡ false = x.unbeaten in let bad : true ≡ false = sym t ∙ f in cc

-- The numbers rise, also in a filtered list.
abbrev Rising : List Board → Type 0
Rising [] = Unit {0}
Rising (b ∷ bs) = AllByRecursion (λ c. b.number < c.number) bs × Rising bs

all-from : (n : ℕ) (sheets : List Sheet) → AllByRecursion (λ c. n ≤ c.number) (boards_from n sheets)
all-from n [] = tt
all-from n (s ∷ sheets) = (omega arith, All-map (λ c. n + 1 ≤ c.number) (λ c. n ≤ c.number) (boards_from (n + 1) sheets) (all-from (n + 1) sheets) (λ c h. omega arith))

rising-from : (n : ℕ) (sheets : List Sheet) → Rising (boards_from n sheets)
rising-from n [] = tt
rising-from n (s ∷ sheets) = (All-map (λ c. n + 1 ≤ c.number) (λ c. n < c.number) (boards_from (n + 1) sheets) (all-from (n + 1) sheets) (λ c h. omega arith), rising-from (n + 1) sheets)

rising-filter : (p : Board → Bool) (bs : List Board) → Rising bs → Rising (filter p bs)
rising-filter p [] r = tt
rising-filter p (b ∷ bs) r =
    by_test (p b) _
    (λ t. rw t (All-filter (λ c. b.number < c.number) (λ c. b.number < c.number) p bs r.0 (λ c h _. h), rising-filter p bs r.1))
    (λ t. rw t (rising-filter p bs r.1))

all-at : {X : Type 0} (P : X → Type 0) (xs : List X) (i : ℕ) (d : X) → AllByRecursion P xs → i < length xs → P (slice_index_or xs i d)
all-at P [] i d a l = absurd (omega arith)
all-at P (x ∷ xs) zero d a l = a.0
all-at P (x ∷ xs) (suc i) d a l = all-at P xs i d a.1 (omega arith)

pairs-apart : (facts : Facts) (bs : List Board) (i j : ℕ) (d : Board) → Rising bs → AllByRecursion (IsOne facts) bs → i < j → j < length bs → (slice_index_or bs i d).sheet.device ≢ (slice_index_or bs j d).sheet.device
pairs-apart facts [] i j d r a l m = absurd (omega arith)
pairs-apart facts (b ∷ bs) i zero d r a l m = absurd (omega arith)
pairs-apart facts (b ∷ bs) zero (suc j) d r a l m =
    apart facts b (slice_index_or bs j d) a.0 (all-at (IsOne facts) bs j d a.1 (omega arith)) (all-at (λ c. b.number < c.number) bs j d r.0 (omega arith))
pairs-apart facts (b ∷ bs) (suc i) (suc j) d r a l m = pairs-apart facts bs i j d r.1 a.1 (omega arith) (omega arith)

pub devices-differ : (facts : Facts) → AllPairs (λ a b. a.sheet.device ≢ b.sheet.device) (devices facts)
devices-differ facts = λ i j d l m. pairs-apart facts (devices facts) i j d (rising-filter (is_device facts) (all_boards facts) (rising-from 0 facts.sheets)) (devices-are facts) l m

-- Of the served boards of an ID in a list, one is above all others.
abbrev is_candidate : Facts → List ℕ → Board → Bool
is_candidate facts device b = bytes_eq b.sheet.device device && is_served facts b

pub record IsTop (facts : Facts) (device : List ℕ) (bs : List Board) (top : Board) : Type 0 where
  pub candidate : is_candidate facts device top ≡ true
  pub inside : IsIn bs top
  pub unbeaten : AllByRecursion (λ b. is_candidate facts device b ≡ true → Above (rank_of facts b) (rank_of facts top) → ⊥) bs

above-on : (a b c : Rank) → Above a b → Above b c → Above a c
above-on a b c (inl h) (inl k) = inl (omega arith)
above-on a b c (inl h) (inr (e, k)) = inl (omega arith)
above-on a b c (inr (e, h)) (inl k) = inl (omega arith)
above-on a b c (inr (e, inl h)) (inr (f, inl k)) = inr (e ∙ f, inl (omega arith))
above-on a b c (inr (e, inl h)) (inr (f, inr (p, k))) = inr (e ∙ f, inl (omega arith))
above-on a b c (inr (e, inr (p, h))) (inr (f, inl k)) = inr (e ∙ f, inl (omega arith))
above-on a b c (inr (e, inr (p, h))) (inr (f, inr (q, k))) = inr (e ∙ f, inr (p ∙ q, omega arith))

above-not : (a : Rank) → Above a a → ⊥
above-not a (inl h) = omega arith
above-not a (inr (e, inl h)) = omega arith
above-not a (inr (e, inr (p, h))) = omega arith

-- Whether a rank is above another.
not-lower : (a b : Rank) → a.priority < b.priority → Above a b → ⊥
not-lower a b h (inl k) = omega arith
not-lower a b h (inr (f, k)) = omega arith

not-later : (a b : Rank) → a.priority ≡ b.priority → b.place < a.place → Above a b → ⊥
not-later a b e h (inl k) = omega arith
not-later a b e h (inr (f, inl k)) = omega arith
not-later a b e h (inr (f, inr (q, k))) = omega arith

not-behind : (a b : Rank) → a.priority ≡ b.priority → a.place ≡ b.place → b.number ≤ a.number → Above a b → ⊥
not-behind a b e p h (inl k) = omega arith
not-behind a b e p h (inr (f, inl k)) = omega arith
not-behind a b e p h (inr (f, inr (q, k))) = omega arith

above-test : (a b : Rank) → Above a b ⊎ (Above a b → ⊥)
above-test a b = at (compared a.priority b.priority)
  where
    numbers : a.priority ≡ b.priority → a.place ≡ b.place → (a.number < b.number) ⊎ (a.number ≡ b.number) ⊎ (b.number < a.number) → Above a b ⊎ (Above a b → ⊥)
    numbers e p (inl h) = inl (inr (e, inr (p, h)))
    numbers e p (inr (inl h)) = inr (not-behind a b e p (omega arith))
    numbers e p (inr (inr h)) = inr (not-behind a b e p (omega arith))

    places : a.priority ≡ b.priority → (a.place < b.place) ⊎ (a.place ≡ b.place) ⊎ (b.place < a.place) → Above a b ⊎ (Above a b → ⊥)
    places e (inl h) = inl (inr (e, inl h))
    places e (inr (inl p)) = numbers e p (compared a.number b.number)
    places e (inr (inr h)) = inr (not-later a b e h)

    at : (a.priority < b.priority) ⊎ (a.priority ≡ b.priority) ⊎ (b.priority < a.priority) → Above a b ⊎ (Above a b → ⊥)
    at (inl h) = inr (not-lower a b h)
    at (inr (inl e)) = places e (compared a.place b.place)
    at (inr (inr h)) = inl (inl h)

-- Where there is a candidate, there is a top one.
abbrev HasTop : Facts → List ℕ → List Board → Type 0
HasTop facts device bs = (top : Board) × IsTop facts device bs top

abbrev NoneOf : Facts → List ℕ → List Board → Type 0
NoneOf facts device bs = AllByRecursion (λ b. is_candidate facts device b ≡ false) bs

top-passed : (facts : Facts) (device : List ℕ) (b : Board) (bs : List Board) → is_candidate facts device b ≡ false → HasTop facts device bs ⊎ NoneOf facts device bs → HasTop facts device (b ∷ bs) ⊎ NoneOf facts device (b ∷ bs)
top-passed facts device b bs f (inl (top, w)) =
    inl (top, record { candidate = w.candidate; inside = in-more b bs top w.inside; unbeaten = (λ c h. let bad : true ≡ false = sym c ∙ f in cc, w.unbeaten) })
top-passed facts device b bs f (inr none) = inr (f, none)

top-compared : (facts : Facts) (device : List ℕ) (b : Board) (bs : List Board) (top : Board) → is_candidate facts device b ≡ true → IsTop facts device bs top → Above (rank_of facts b) (rank_of facts top) ⊎ (Above (rank_of facts b) (rank_of facts top) → ⊥) → HasTop facts device (b ∷ bs)
top-compared facts device b bs top t w (inl h) = (
  b,
  record {
    candidate = t;
    inside = λ p u. rw u refl;
    unbeaten = (λ c k. above-not (rank_of facts b) k, All-map _ _ bs w.unbeaten (λ x f c k. f c (above-on (rank_of facts x) (rank_of facts b) (rank_of facts top) k h)));
  },
)
top-compared facts device b bs top t w (inr h) =
    (top, record { candidate = w.candidate; inside = in-more b bs top w.inside; unbeaten = (λ c k. h k, w.unbeaten) })

top-new : (facts : Facts) (device : List ℕ) (b : Board) (bs : List Board) → is_candidate facts device b ≡ true → HasTop facts device bs ⊎ NoneOf facts device bs → HasTop facts device (b ∷ bs)
top-new facts device b bs t (inl (top, w)) = top-compared facts device b bs top t w (above-test (rank_of facts b) (rank_of facts top))
top-new facts device b bs t (inr none) = (
  b,
  record {
    candidate = t;
    inside = λ p u. rw u refl;
    unbeaten = (λ c h. above-not (rank_of facts b) h, All-map _ _ bs none (λ x f c h. let bad : true ≡ false = sym c ∙ f in cc));
  },
)

top-of : (facts : Facts) (device : List ℕ) (bs : List Board) → HasTop facts device bs ⊎ NoneOf facts device bs
top-of facts device [] = inr tt
top-of facts device (b ∷ bs) =
    by_test (is_candidate facts device b) _
    (λ t. inl (top-new facts device b bs t (top-of facts device bs)))
    (λ f. top-passed facts device b bs f (top-of facts device bs))

-- The top one is a device.
none-any : {X : Type 0} (p : X → Bool) (xs : List X) → AllByRecursion (λ x. p x ≡ false) xs → list_any p xs ≡ false
none-any p [] h = refl
none-any p (x ∷ xs) h = let f : p x ≡ false = h.0 in rw f (none-any p xs h.1)

unbeaten-by : (facts : Facts) (device : List ℕ) (top b : Board) → is_candidate facts device top ≡ true → (is_candidate facts device b ≡ true → Above (rank_of facts b) (rank_of facts top) → ⊥) → is_beaten facts top b ≡ false
unbeaten-by facts device top b c h = by_test (is_beaten facts top b) _ (λ t. absurd (clash t)) (λ f. f)
  where
    clash : is_beaten facts top b ≡ true → ⊥
    clash t =
        let p = and_parts (bytes_eq b.sheet.device top.sheet.device && is_served facts b) (goes_before facts b top) t in
        let q = and_parts (bytes_eq b.sheet.device top.sheet.device) (is_served facts b) p.0 in
        let r = and_parts (bytes_eq top.sheet.device device) (is_served facts top) c in
        let same : bytes_eq b.sheet.device device ≡ true = rw (bytes-same b.sheet.device top.sheet.device q.0) r.0 in
        h (and_from (bytes_eq b.sheet.device device) (is_served facts b) same q.1)
        (by-before b.sheet.priority top.sheet.priority (plugin_place facts b) (plugin_place facts top) b.number top.number p.1)

top-is : (facts : Facts) (device : List ℕ) (top : Board) → IsTop facts device (all_boards facts) top → is_device facts top ≡ true
top-is facts device top w =
    let r = and_parts (bytes_eq top.sheet.device device) (is_served facts top) w.candidate in
    let n : list_any (is_beaten facts top) (all_boards facts) ≡ false = none-any (is_beaten facts top) (all_boards facts) (All-map _ _ (all_boards facts) w.unbeaten (λ b h. unbeaten-by facts device top b w.candidate h)) in
    and_from (is_served facts top) (not (list_any (is_beaten facts top) (all_boards facts))) r.1 (rw n refl)

any-filter : {X : Type 0} (p q : X → Bool) (xs : List X) → list_any (λ x. q x && p x) xs ≡ true → list_any p (filter q xs) ≡ true
any-filter p q [] h = cc
any-filter p q (x ∷ xs) h =
    by_test (q x) _
    (λ t. by_test (p x) _ (λ u. rw (t, u) refl) (λ u. rw (t, u) (any-filter p q xs (rw (t, u) at h))))
    (λ t. rw t (any-filter p q xs (rw t at h)))

find-any : {X : Type 0} (p : X → Bool) (xs : List X) → list_any p xs ≡ true → is_some (find p xs) ≡ true
find-any p [] h = cc
find-any p (x ∷ xs) h = by_test (p x) _ (λ t. rw t refl) (λ t. rw t (find-any p xs (rw t at h)))

some-mapped : {X Y : Type 0} (f : X → Y) (o : Option X) → is_some o ≡ true → is_some (option_map f o) ≡ true
some-mapped f None h = cc
some-mapped f (Some x) h = refl

pub device-found : (facts : Facts) (board : Board) → Contains (all_boards facts) board → is_served facts board ≡ true → is_some (board_with facts board.sheet.device) ≡ true
device-found facts board c s = at (top-of facts board.sheet.device (all_boards facts))
  where
    own : is_candidate facts board.sheet.device board ≡ true
    own = and_from (bytes_eq board.sheet.device board.sheet.device) (is_served facts board) (bytes-self board.sheet.device) s

    at : HasTop facts board.sheet.device (all_boards facts) ⊎ NoneOf facts board.sheet.device (all_boards facts) → is_some (board_with facts board.sheet.device) ≡ true
    at (inl (top, w)) =
        let r = and_parts (bytes_eq top.sheet.device board.sheet.device) (is_served facts top) w.candidate in
        let any : list_any (λ b. is_device facts b && bytes_eq b.sheet.device board.sheet.device) (all_boards facts) ≡ true =
        w.inside (λ b. is_device facts b && bytes_eq b.sheet.device board.sheet.device) (and_from (is_device facts top) (bytes_eq top.sheet.device board.sheet.device) (top-is facts board.sheet.device top w) r.0) in
        some-mapped (λ (b : Board). b.number) (find (λ b. bytes_eq b.sheet.device board.sheet.device) (devices facts))
        (find-any (λ b. bytes_eq b.sheet.device board.sheet.device) (devices facts)
        (any-filter (λ b. bytes_eq b.sheet.device board.sheet.device) (is_device facts) (all_boards facts) any))
    at (inr none) =
        let f : is_candidate facts board.sheet.device (slice_index_or (all_boards facts) c.0 board) ≡ false = all-at (λ b. is_candidate facts board.sheet.device b ≡ false) (all_boards facts) c.0 board none c.1 in
        let here : slice_index_or (all_boards facts) c.0 board ≡ board = c.2 in
        let g : is_candidate facts board.sheet.device board ≡ false = subst (λ (b : Board). is_candidate facts board.sheet.device b ≡ false) here f in
        let bad : true ≡ false = sym own ∙ g in cc

pub one-device : (facts : Facts) → OneDevice facts
one-device facts = record { differ = devices-differ facts; found = λ board c s. device-found facts board c s }
