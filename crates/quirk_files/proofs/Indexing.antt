-- An index by group, and walking it from the last place to the first.
use Rattle.std.proofs.Common.{◌≡◌, ℕ, zero, suc, ◌+◌, ◌-◌, ◌<◌, ◌≤◌, Bool, true, false, ◌||◌, cond, List, [], ◌∷◌, ◌++◌, Bor, length, take, map, filter, reverse, get_or, Option, Some, None, ◌⊎◌, inl, inr, refl, sym, ap, subst, ◌∙◌, append_assoc, append-nil, length-append, arith}
use Rattle.std.specs.Prelude.{nat_lt, max}
use Rattle.std.specs.List.{list_any}
use Rattle.std.specs.Str.{bytes_eq}
use Rattle.std.specs.Cmp.Lexicographic.{bytes_decides}
use Rattle.std.proofs.lemmas.List.{take_more, take_all, length-map, get_or-map, reverse-append}
use Rattle.std.proofs.lemmas.List.Elements.{filter_more}
use borrow.Author.Tests.{ltb-true, ltb-false}
use Rattle.quirk_files.specs.declared.quirk.Quirk.{Quirk}
use Rattle.quirk_files.specs.Sheets.{is_for}
use Rattle.quirk_files.specs.Places.{LastBelow, IsIndexed, HeadsAre, later, latest, moved}

by_order : (k i : ℕ) → k < i + 1 → (k < i) ⊎ (k ≡ i)
by_order k i lt = by_test (nat_lt k i) refl where
  by_test : (b : Bool) → nat_lt k i ≡ b → (k < i) ⊎ (k ≡ i)
  by_test true e = inl (ltb-true k i e)
  by_test false e = let ge : i ≤ k = ltb-false k i e in inr (omega arith)

-- a place more: the group that stands there, and another
pub last_more : (groups : List (List ℕ)) (group q : List ℕ) (i : ℕ) (o : Option ℕ) → get_or groups i [] ≡ group
    → LastBelow groups q i o → LastBelow groups q (i + 1) (cond (bytes_eq group q) (Some i) o)
last_more groups group q i o here was = by_test (bytes_eq group q) refl where
  at_it : bytes_eq (get_or groups i []) q ≡ bytes_eq group q
  at_it = ap (λ (g : List ℕ). bytes_eq g q) here

  grown : (o : Option ℕ) → bytes_eq group q ≡ false → LastBelow groups q i o → LastBelow groups q (i + 1) o
  grown None missed h = λ k lt. elim (by_order k i lt) [ inl below ↦ h k below | inr same ↦ ap (λ (n : ℕ). bytes_eq (get_or groups n []) q) same ∙ at_it ∙ missed ]
  grown (Some at) missed h = (omega (arith, h.0), (h.1.0, λ k after lt. elim (by_order k i lt) [ inl below ↦ h.1.1 k after below | inr same ↦ ap (λ (n : ℕ). bytes_eq (get_or groups n []) q) same ∙ at_it ∙ missed ]))

  by_test : (b : Bool) → bytes_eq group q ≡ b → LastBelow groups q (i + 1) (cond b (Some i) o)
  by_test true hit = (omega arith, (at_it ∙ hit, λ k after lt. absurd (omega arith)))
  by_test false missed = grown o missed was

-- the heads below the length
pub heads_begin : (groups guids : List (List ℕ)) (n : ℕ) (last : List ℕ → Option ℕ) → ((q : List ℕ) → LastBelow groups q n (last q)) → HeadsAre groups n guids (map last guids)
heads_begin groups [] n last h = tt
heads_begin groups (g ∷ gs) n last h = (h g, heads_begin groups gs n last h)

-- no head: no group stands below n
pub none_below : (groups guids : List (List ℕ)) (n : ℕ) (heads : List (Option ℕ)) → HeadsAre groups n guids heads → latest heads ≡ None
    → (k : ℕ) → k < n → list_any (λ g. bytes_eq (get_or groups k []) g) guids ≡ false
none_below groups [] n [] h none k lt = refl
none_below groups [] n (x ∷ xs) h none k lt = absurd h
none_below groups (g ∷ gs) n [] h none k lt = absurd h
none_below groups (g ∷ gs) n (None ∷ xs) h none k lt =
    let a : bytes_eq (get_or groups k []) g ≡ false = h.0 k lt in
    let b : list_any (λ x. bytes_eq (get_or groups k []) x) gs ≡ false = none_below groups gs n xs h.1 none k lt in
    rw (a, b) refl
none_below groups (g ∷ gs) n (Some c ∷ xs) h none k lt = absurd (not_none c (latest xs) none) where
  not_none : (c : ℕ) (o : Option ℕ) → later (Some c) o ≡ None → ⊥
  not_none c None e = cc
  not_none c (Some d) e = cc

later_none : (o : Option ℕ) → later o None ≡ o
later_none None = refl
later_none (Some c) = refl

later_both : (a b c : Option ℕ) → later a (later b c) ≡ later (later a b) c
later_both None b c = refl
later_both (Some a) None c = refl
later_both (Some a) (Some b) None = refl
later_both (Some a) (Some b) (Some c) = let e : max a (max b c) ≡ max (max a b) c = omega arith in ap Some e

-- the last of some places and one more
pub latest_more : (heads : List (Option ℕ)) (head : Option ℕ) → latest (heads ++ head ∷ []) ≡ later (latest heads) head
latest_more [] head = later_none head
latest_more (x ∷ xs) head = ap (later x) (latest_more xs head) ∙ later_both x (latest xs) head

pub latest_step : (heads : List (Option ℕ)) (i : ℕ) (d : Option ℕ) (got after : Option ℕ) → i < length heads → got ≡ latest (take i heads)
    → after ≡ later got (get_or heads i d) → after ≡ latest (take (i + 1) heads)
latest_step heads i d got after lt was is =
    is ∙ ap (λ (g : Option ℕ). later g (get_or heads i d)) was ∙ sym (ap latest (take_more heads i d lt) ∙ latest_more (take i heads) (get_or heads i d))

-- no place is past m
abbrev UpTo : ℕ → Option ℕ → Type 0
UpTo m None = Unit {0}
UpTo m (Some c) = c ≤ m

up_to_both : (m : ℕ) (a b : Option ℕ) → UpTo m (later a b) → UpTo m a × UpTo m b
up_to_both m None b h = (tt, h)
up_to_both m (Some a) None h = (h, tt)
up_to_both m (Some a) (Some b) h = let le : max a b ≤ m = h in (omega arith, omega arith)

up_to_is : (m : ℕ) (o : Option ℕ) → o ≡ Some m → UpTo m o
up_to_is m o e = subst (UpTo m) (sym e) (le_same m) where
  le_same : (m : ℕ) → m ≤ m
  le_same m = omega arith

max_is : (a b m : ℕ) → max a b ≡ m → (Some a ≡ Some m) ⊎ (Some b ≡ Some m)
max_is a b m same = by_test (nat_lt a b) refl where
  by_test : (t : Bool) → nat_lt a b ≡ t → (Some a ≡ Some m) ⊎ (Some b ≡ Some m)
  by_test true t = let lt : a < b = ltb-true a b t in let f : b ≡ m = omega (arith, same) in inr (ap Some f)
  by_test false t = let ge : b ≤ a = ltb-false a b t in let f : a ≡ m = omega (arith, same) in inl (ap Some f)

later_one : (a b : Option ℕ) (m : ℕ) → later a b ≡ Some m → (a ≡ Some m) ⊎ (b ≡ Some m)
later_one None b m e = inr e
later_one (Some a) None m e = inl e
later_one (Some a) (Some b) m e = let same : max a b ≡ m = cc in max_is a b m same

or_true : (b : Bool) → (b || true) ≡ true
or_true true = refl
or_true false = refl

first_there : (groups : List (List ℕ)) (g : List ℕ) (gs : List (List ℕ)) (n m : ℕ) (o : Option ℕ) → o ≡ Some m → LastBelow groups g n o
    → (m < n) × ((bytes_eq (get_or groups m []) g || list_any (λ y. bytes_eq (get_or groups m []) y) gs) ≡ true)
first_there groups g gs n m None e l = absurd (cc)
first_there groups g gs n m (Some c) e l =
    let same : c ≡ m = cc in
    let hit : bytes_eq (get_or groups m []) g ≡ true = subst (λ (k : ℕ). bytes_eq (get_or groups k []) g ≡ true) same l.1.0 in
    let less : c < n = l.0 in
    (omega arith, ap (λ (b : Bool). b || list_any (λ y. bytes_eq (get_or groups m []) y) gs) hit)

rest_there : (groups : List (List ℕ)) (g : List ℕ) (gs : List (List ℕ)) (n m : ℕ) → (m < n) × (list_any (λ y. bytes_eq (get_or groups m []) y) gs ≡ true)
    → (m < n) × ((bytes_eq (get_or groups m []) g || list_any (λ y. bytes_eq (get_or groups m []) y) gs) ≡ true)
rest_there groups g gs n m found = (found.0, ap (λ (b : Bool). bytes_eq (get_or groups m []) g || b) found.1 ∙ or_true (bytes_eq (get_or groups m []) g))

-- the last head is a place of one of the groups
head_there : (groups guids : List (List ℕ)) (n m : ℕ) (heads : List (Option ℕ)) → HeadsAre groups n guids heads → latest heads ≡ Some m
    → (m < n) × (list_any (λ g. bytes_eq (get_or groups m []) g) guids ≡ true)
head_there groups [] n m [] h is = absurd (cc)
head_there groups [] n m (x ∷ xs) h is = absurd h
head_there groups (g ∷ gs) n m [] h is = absurd h
head_there groups (g ∷ gs) n m (x ∷ xs) h is =
    elim (later_one x (latest xs) m is) [ inl here ↦ first_there groups g gs n m x here h.0 | inr more ↦ rest_there groups g gs n m (head_there groups gs n m xs h.1 more) ]

-- none of the groups stands behind the last head
none_between : (groups guids : List (List ℕ)) (n m : ℕ) (heads : List (Option ℕ)) → HeadsAre groups n guids heads → UpTo m (latest heads)
    → (k : ℕ) → m < k → k < n → list_any (λ g. bytes_eq (get_or groups k []) g) guids ≡ false
none_between groups [] n m [] h up k after lt = refl
none_between groups [] n m (x ∷ xs) h up k after lt = absurd h
none_between groups (g ∷ gs) n m [] h up k after lt = absurd h
none_between groups (g ∷ gs) n m (x ∷ xs) h up k after lt =
    let both = up_to_both m x (latest xs) up in
    let a : bytes_eq (get_or groups k []) g ≡ false = not_here x h.0 both.0 in
    let b : list_any (λ y. bytes_eq (get_or groups k []) y) gs ≡ false = none_between groups gs n m xs h.1 both.1 k after lt in
    rw (a, b) refl where
      not_here : (o : Option ℕ) → LastBelow groups g n o → UpTo m o → bytes_eq (get_or groups k []) g ≡ false
      not_here None l u = l k lt
      not_here (Some c) l u = let le : c ≤ m = u in l.1.1 k (omega arith) lt

head_moved : (groups : List (List ℕ)) (g : List ℕ) (n m : ℕ) (before o : Option ℕ) → m ≤ n → LastBelow groups (get_or groups m []) m before
    → LastBelow groups g n o → UpTo m o → LastBelow groups g m (moved m before o)
head_moved groups g n m before None le below l up = λ k lt. l k (omega arith)
head_moved groups g n m before (Some c) le below l up = by_test (nat_lt c m) refl where
  by_test : (b : Bool) → nat_lt c m ≡ b → LastBelow groups g m (cond b (Some c) before)
  by_test true t = (ltb-true c m t, (l.1.0, λ k after lt. l.1.1 k after (omega arith)))
  by_test false t =
      let ge : m ≤ c = ltb-false c m t in
      let at_most : c ≤ m = up in
      let same : c ≡ m = omega arith in
      let here : get_or groups m [] ≡ g = ap (λ (k : ℕ). get_or groups k []) (sym same) ∙ (bytes_decides (get_or groups c []) g).0 l.1.0 in
      subst (λ (q : List ℕ). LastBelow groups q m before) here below

heads_moved : (groups guids : List (List ℕ)) (n m : ℕ) (before : Option ℕ) (heads : List (Option ℕ)) → m ≤ n → LastBelow groups (get_or groups m []) m before
    → HeadsAre groups n guids heads → UpTo m (latest heads) → HeadsAre groups m guids (map (moved m before) heads)
heads_moved groups [] n m before [] le below h up = tt
heads_moved groups [] n m before (x ∷ xs) le below h up = absurd h
heads_moved groups (g ∷ gs) n m before [] le below h up = absurd h
heads_moved groups (g ∷ gs) n m before (x ∷ xs) le below h up =
    let both = up_to_both m x (latest xs) up in
    (head_moved groups g n m before x le below h.0 both.0, heads_moved groups gs n m before xs le below h.1 both.1)

-- nothing passes in a stretch of a list
quiet : {X : Type 0} (p : X → Bool) (xs : List X) (a e n : ℕ) (d : X) → n ≡ a + e → n ≤ length xs → ((k : ℕ) → a ≤ k → k < n → p (get_or xs k d) ≡ false)
    → filter p (take n xs) ≡ filter p (take a xs)
quiet p xs a zero n d is le missed = let same : n ≡ a = omega arith in ap (λ (k : ℕ). filter p (take k xs)) same
quiet p xs a (suc e) n d is le missed =
    let last : n ≡ (a + e) + 1 = omega arith in
    let lt : a + e < length xs = omega arith in
    ap (λ (k : ℕ). filter p (take k xs)) last ∙ filter_more p xs (a + e) d lt
    ∙ ap (λ (b : Bool). filter p (take (a + e) xs) ++ cond b (get_or xs (a + e) d ∷ []) []) (missed (a + e) (omega arith) (omega arith))
    ∙ append-nil (filter p (take (a + e) xs)) ∙ quiet p xs a e (a + e) d refl (omega arith) (λ k from to. missed k from (omega arith))

-- one passes, and nothing behind it
pub one_more : {X : Type 0} (p : X → Bool) (xs : List X) (n m : ℕ) (d : X) → m < n → n ≤ length xs → p (get_or xs m d) ≡ true
    → ((k : ℕ) → m < k → k < n → p (get_or xs k d) ≡ false) → filter p (take n xs) ≡ filter p (take m xs) ++ get_or xs m d ∷ []
one_more p xs n m d lt le hit missed =
    quiet p xs (m + 1) (n - (m + 1)) n d (omega arith) le (λ k from to. missed k (omega arith) to)
    ∙ filter_more p xs m d (omega arith) ∙ ap (λ (b : Bool). filter p (take m xs) ++ cond b (get_or xs m d ∷ []) []) hit

-- nothing passes at all
pub none_passes : {X : Type 0} (p : X → Bool) (xs : List X) (n : ℕ) (d : X) → n ≤ length xs → ((k : ℕ) → k < n → p (get_or xs k d) ≡ false) → filter p (take n xs) ≡ []
none_passes p xs n d le missed = quiet p xs 0 n n d (omega arith) le (λ k from to. missed k to)

pub group_here : (quirks : List Quirk) (k : ℕ) (d : Quirk) → k < length quirks → get_or (map (λ (q : Quirk). q.group) quirks) k [] ≡ (get_or quirks k d).group
group_here quirks k d lt = get_or-map (λ (q : Quirk). q.group) quirks k d [] lt

passes : (guids : List (List ℕ)) (quirks : List Quirk) (k : ℕ) (d : Quirk) (b : Bool) → k < length quirks
    → list_any (λ g. bytes_eq (get_or (map (λ (q : Quirk). q.group) quirks) k []) g) guids ≡ b → is_for guids (get_or quirks k d) ≡ b
passes guids quirks k d b lt h = ap (λ (x : List ℕ). list_any (λ g. bytes_eq x g) guids) (sym (group_here quirks k d lt)) ∙ h

-- the step from one place to the one before
pub place_found : (guids : List (List ℕ)) (quirks : List Quirk) (n m : ℕ) (heads : List (Option ℕ)) (x : Quirk) → n ≤ length quirks
    → HeadsAre (map (λ (q : Quirk). q.group) quirks) n guids heads → latest heads ≡ Some m → x ≡ get_or quirks m x
    → filter (is_for guids) (take n quirks) ≡ filter (is_for guids) (take m quirks) ++ x ∷ []
place_found guids quirks n m heads x le h is here =
    let groups : List (List ℕ) = map (λ (q : Quirk). q.group) quirks in
    let there = head_there groups guids n m heads h is in
    let less : m < n = there.0 in
    one_more (is_for guids) quirks n m x less le (passes guids quirks m x true (omega arith) there.1)
    (λ k after lt. passes guids quirks k x false (omega arith) (none_between groups guids n m heads h (up_to_is m (latest heads) is) k after lt))
    ∙ ap (λ (y : Quirk). filter (is_for guids) (take m quirks) ++ y ∷ []) (sym here)

pub place_below : (guids : List (List ℕ)) (quirks : List Quirk) (n m : ℕ) (heads : List (Option ℕ))
    → HeadsAre (map (λ (q : Quirk). q.group) quirks) n guids heads → latest heads ≡ Some m → m < n
place_below guids quirks n m heads h is = (head_there (map (λ (q : Quirk). q.group) quirks) guids n m heads h is).0

pub heads_step : (guids : List (List ℕ)) (quirks : List Quirk) (n m : ℕ) (heads : List (Option ℕ)) (last : List ℕ → Option ℕ) (before : List (Option ℕ)) → n ≤ length quirks
    → IsIndexed (map (λ (q : Quirk). q.group) quirks) last before
    → HeadsAre (map (λ (q : Quirk). q.group) quirks) n guids heads → latest heads ≡ Some m
    → HeadsAre (map (λ (q : Quirk). q.group) quirks) m guids (map (moved m (get_or before m None)) heads)
heads_step guids quirks n m heads last before le index h is =
    let groups : List (List ℕ) = map (λ (q : Quirk). q.group) quirks in
    let long : length groups ≡ length quirks = length-map quirks (λ (q : Quirk). q.group) in
    let less : m < n = (head_there groups guids n m heads h is).0 in
    heads_moved groups guids n m (get_or before m None) heads (omega arith) (index.before_is m (omega arith)) h (up_to_is m (latest heads) is)

pub found_step : (p : Quirk → Bool) (quirks : List Quirk) (n m : ℕ) (found : List (Bor Quirk)) (x : Bor Quirk)
    → filter p quirks ≡ filter p (take n quirks) ++ map (λ (q : Bor Quirk). q.now) (reverse found) → filter p (take n quirks) ≡ filter p (take m quirks) ++ x.now ∷ []
    → filter p quirks ≡ filter p (take m quirks) ++ map (λ (q : Bor Quirk). q.now) (reverse (found ++ x ∷ []))
found_step p quirks n m found x was one =
    was ∙ ap (λ (front : List Quirk). front ++ map (λ (q : Bor Quirk). q.now) (reverse found)) one
    ∙ append_assoc (filter p (take m quirks)) (x.now ∷ []) (map (λ (q : Bor Quirk). q.now) (reverse found))
    ∙ ap (λ (l : List (Bor Quirk)). filter p (take m quirks) ++ map (λ (q : Bor Quirk). q.now) l) (sym (reverse-append found (x ∷ [])))

pub found_all : (guids : List (List ℕ)) (quirks : List Quirk) (n : ℕ) (heads : List (Option ℕ)) (found : List Quirk) → n ≤ length quirks
    → HeadsAre (map (λ (q : Quirk). q.group) quirks) n guids heads → latest heads ≡ None
    → filter (is_for guids) quirks ≡ filter (is_for guids) (take n quirks) ++ found → found ≡ filter (is_for guids) quirks
found_all guids quirks zero heads found le h none was = sym was
found_all guids quirks (suc n) heads found le h none was =
    sym (was ∙ ap (λ (front : List Quirk). front ++ found)
    (none_passes (is_for guids) quirks (suc n) (get_or quirks 0 (some_quirk quirks le)) le
    (λ k lt. passes guids quirks k (get_or quirks 0 (some_quirk quirks le)) false (omega arith) (none_below (map (λ (q : Quirk). q.group) quirks) guids (suc n) heads h none k lt)))) where
      some_quirk : (qs : List Quirk) → suc n ≤ length qs → Quirk
      some_quirk [] l = absurd (omega arith)
      some_quirk (q ∷ qs) l = q

at_push : (before : List (Option ℕ)) (x : Option ℕ) (k : ℕ) → k ≡ length before → get_or (before ++ x ∷ []) k None ≡ x
at_push [] x k is = rw is refl
at_push (b ∷ bs) x zero is = absurd (omega arith)
at_push (b ∷ bs) x (suc k) is = at_push bs x k (omega arith)

before_push : (before : List (Option ℕ)) (x : Option ℕ) (k : ℕ) → k < length before → get_or (before ++ x ∷ []) k None ≡ get_or before k None
before_push [] x k lt = absurd (omega arith)
before_push (b ∷ bs) x zero lt = refl
before_push (b ∷ bs) x (suc k) lt = before_push bs x k (omega arith)

-- the places that are known, and one more
pub record Noted (groups : List (List ℕ)) (i : ℕ) (last : List ℕ → Option ℕ) (before : List (Option ℕ)) : Type 0 where
  pub long : length before ≡ i
  pub last_is : (q : List ℕ) → LastBelow groups q i (last q)
  pub before_is : (k : ℕ) → k < i → LastBelow groups (get_or groups k []) k (get_or before k None)

pub noted_step : (groups : List (List ℕ)) (i : ℕ) (group : List ℕ) (last after : List ℕ → Option ℕ) (before grown : List (Option ℕ))
    → get_or groups i [] ≡ group → length before ≡ i → ((q : List ℕ) → LastBelow groups q i (last q))
    → ((k : ℕ) → k < i → LastBelow groups (get_or groups k []) k (get_or before k None))
    → ((q : List ℕ) → after q ≡ cond (bytes_eq group q) (Some i) (last q)) → grown ≡ before ++ last group ∷ [] → Noted groups (i + 1) after grown
noted_step groups i group last after before grown here long last_is before_is told is = record {
  long = ap length is ∙ length-append before (last group ∷ []) ∙ ap (λ (n : ℕ). n + 1) long;
  last_is = λ q. subst (LastBelow groups q (i + 1)) (sym (told q)) (last_more groups group q i (last q) here (last_is q));
  before_is = λ k lt. elim (by_order k i lt) [
    | inl below ↦ subst (LastBelow groups (get_or groups k []) k) (sym (ap (λ (b : List (Option ℕ)). get_or b k None) is ∙ before_push before (last group) k (omega arith))) (before_is k below)
    | inr same ↦ subst (LastBelow groups (get_or groups k []) k) (sym (ap (λ (b : List (Option ℕ)). get_or b k None) is ∙ at_push before (last group) k (omega arith)))
        (subst (λ (n : ℕ). LastBelow groups (get_or groups n []) n (last group)) (sym same) (subst (λ (g : List ℕ). LastBelow groups g i (last group)) (sym here) (last_is group)))
  ];
}

pub indexed : (groups : List (List ℕ)) (i : ℕ) (last : List ℕ → Option ℕ) (before : List (Option ℕ)) → i ≡ length groups
    → length before ≡ i → ((q : List ℕ) → LastBelow groups q i (last q))
    → ((k : ℕ) → k < i → LastBelow groups (get_or groups k []) k (get_or before k None)) → IsIndexed groups last before
indexed groups i last before end long last_is before_is = record {
  long = long ∙ end;
  last_is = λ q. subst (λ (n : ℕ). LastBelow groups q n (last q)) end (last_is q);
  before_is = λ k lt. before_is k (omega arith);
}

-- the start of the walk
pub heads_first : (guids : List (List ℕ)) (quirks : List Quirk) (last : List ℕ → Option ℕ) (before : List (Option ℕ)) (heads : List (Option ℕ))
    → IsIndexed (map (λ (q : Quirk). q.group) quirks) last before → heads ≡ map last guids → HeadsAre (map (λ (q : Quirk). q.group) quirks) (length quirks) guids heads
heads_first guids quirks last before heads index is =
    let groups : List (List ℕ) = map (λ (q : Quirk). q.group) quirks in
    let long : length groups ≡ length quirks = length-map quirks (λ (q : Quirk). q.group) in
    subst (HeadsAre groups (length quirks) guids) (sym is)
    (heads_begin groups guids (length quirks) last (λ q. subst (λ (n : ℕ). LastBelow groups q n (last q)) long (index.last_is q)))

pub found_none : (p : Quirk → Bool) (quirks : List Quirk) (found : List (Bor Quirk)) → found ≡ []
    → filter p quirks ≡ filter p (take (length quirks) quirks) ++ map (λ (q : Bor Quirk). q.now) (reverse found)
found_none p quirks found is =
    rw is (sym (append-nil (filter p (take (length quirks) quirks)) ∙ ap (filter p) (take_all (length quirks) quirks (le_self (length quirks))))) where
      le_self : (n : ℕ) → n ≤ n
      le_self n = omega arith
