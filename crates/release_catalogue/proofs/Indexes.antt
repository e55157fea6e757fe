-- The index of GUIDs: what is noted in it, and what it says of some GUIDs.
use Rattle.std.proofs.Common.{◌≡◌, ⊎_elim, ℕ, zero, suc, ◌+◌, ◌≤◌, ◌<◌, Bool, true, false, ◌||◌, ◌&&◌, eqb, ltb, List, [], ◌∷◌, ◌++◌, length, set, get_or, replicate, Option, Some, None, refl, sym, ap, ◌∙◌, arith, get_or-set_same, get_or-set_other, true≢false}
use Rattle.std.specs.Prelude.{slice_get}
use Rattle.std.specs.List.{list_any}
use Rattle.std.specs.Option.{option_map_or}
use Rattle.std.specs.Str.{bytes_eq}
use Rattle.std.specs.declared.alloc.Global.{Global}
use Rattle.std.specs.declared.vec.Vec.{Vec}
use Rattle.std.proofs.lemmas.Bool.{cases_lt}
use Rattle.std.proofs.lemmas.Bool.Decides.{nat_tests, eqb_tells}
use Rattle.std.proofs.lemmas.List.Folds.{list_any-append}
use Rattle.std.proofs.lemmas.Option.{slice_get-get_or, slice_get_past, slice_get_within}
use Rattle.std.proofs.lemmas.Slice.Eq.{bytes_eq-Decides}
use Rattle.fw_facts.specs.declared.release.Component.{Component}
use Rattle.release_catalogue.specs.Lookup.{provides}
use Rattle.release_catalogue.specs.Places.{IsIndexOf, is_listed, listed, provides_at}

pub or_false : (b : Bool) → (b || false) ≡ b
or_false true = refl
or_false false = refl

or_true : (b : Bool) → (b || true) ≡ true
or_true true = refl
or_true false = refl

-- ---- noting

noted_here : (own guid : List ℕ) (at place : ℕ) (old new : List (List ℕ × Vec ℕ Global)) → own ≡ guid → listed guid new ≡ listed own old ++ at ∷ []
    → is_listed guid place new ≡ (is_listed guid place old || eqb at place)
noted_here own guid at place old new same h =
    ap (λ (l : List ℕ). list_any (λ n. eqb n place) l) h
    ∙ list_any-append (λ n. eqb n place) (listed own old) (at ∷ [])
    ∙ ap (λ (b : Bool). list_any (λ n. eqb n place) (listed own old) || b) (or_false (eqb at place))
    ∙ ap (λ (g : List ℕ). is_listed g place old || eqb at place) same

and_true : (b : Bool) → (b && true) ≡ b
and_true true = refl
and_true false = refl

and_false : (b : Bool) → (b && false) ≡ false
and_false true = refl
and_false false = refl

pub noted : (own guid : List ℕ) (at place : ℕ) (old new : List (List ℕ × Vec ℕ Global))
    → (bytes_eq own guid ≡ true → listed guid new ≡ listed own old ++ at ∷ [])
    → (bytes_eq own guid ≡ false → listed guid new ≡ listed guid old)
    → is_listed guid place new ≡ (is_listed guid place old || (eqb at place && bytes_eq own guid))
noted own guid at place old new here other = by (bytes_eq own guid) refl
  where
    by : (b : Bool) → bytes_eq own guid ≡ b → is_listed guid place new ≡ (is_listed guid place old || (eqb at place && bytes_eq own guid))
    by true e =
        noted_here own guid at place old new ((bytes_eq-Decides own guid).0 e) (here e)
        ∙ ap (λ (b : Bool). is_listed guid place old || b) (sym (and_true (eqb at place)))
        ∙ ap (λ (b : Bool). is_listed guid place old || (eqb at place && b)) (sym e)
    by false e =
        ap (λ (l : List ℕ). list_any (λ n. eqb n place) l) (other e)
        ∙ sym (or_false (is_listed guid place old))
        ∙ ap (λ (b : Bool). is_listed guid place old || b) (sym (and_false (eqb at place)))
        ∙ ap (λ (b : Bool). is_listed guid place old || (eqb at place && b)) (sym e)

-- ---- the components so far

-- What is noted of one more component.
pub one_more : (place at : ℕ) (all here : Bool) → (at ≡ place → all ≡ here)
    → ((ltb place at && all) || (eqb at place && here)) ≡ (ltb place (at + 1) && all)
one_more place at all here h =
    ⊎_elim
    (λ lt.
    let first : ltb place at ≡ true = grind (arith, nat_tests) in
    let then : ltb place (at + 1) ≡ true = grind (arith, nat_tests) in
    let other : eqb at place ≡ false = grind (arith, nat_tests) in
    rw (first, then, other) (or_false all))
    (λ ge.
    ⊎_elim
    (λ same.
    let first : ltb place at ≡ false = grind (arith, nat_tests) in
    let then : ltb place (at + 1) ≡ true = grind (arith, nat_tests) in
    rw (first, then, same.0) (sym (h same.1)))
    (λ apart.
    let first : ltb place at ≡ false = grind (arith, nat_tests) in
    let then : ltb place (at + 1) ≡ false = grind (arith, nat_tests) in
    rw (first, then, apart.0) refl)
    (eqb_tells at place))
    (cases_lt place at)

pub provides_here : (guids : List (List ℕ)) (components : List Component) (i : ℕ) (component : Component) → i < length components → component ≡ get_or components i component
    → provides_at guids i components ≡ provides guids component
provides_here guids components i component lt is =
    ap (λ (o : Option Component). option_map_or (provides guids) o false) (slice_get-get_or components i component lt)
    ∙ ap (λ (c : Component). provides guids c) (sym is)

pub provides_past : (guids : List (List ℕ)) (components : List Component) (i : ℕ) → length components ≤ i → provides_at guids i components ≡ false
provides_past guids components i le = ap (λ (o : Option Component). option_map_or (provides guids) o false) (slice_get_past components i le)

-- All components are noted.
pub all_noted : (guids : List (List ℕ)) (components : List Component) (place at : ℕ) → length components ≤ at
    → (ltb place at && provides_at guids place components) ≡ provides_at guids place components
all_noted guids components place at le =
    ⊎_elim
    (λ lt. let first : ltb place at ≡ true = grind (arith, nat_tests) in rw first refl)
    (λ ge.
    let first : ltb place at ≡ false = grind (arith, nat_tests) in
    let past : length components ≤ place = omega arith in
    rw (first, provides_past guids components place past) refl)
    (cases_lt place at)

-- ---- what it says of some GUIDs

pub within : (guids : List (List ℕ)) (components : List Component) (place : ℕ) → provides_at guids place components ≡ true → place < length components
within guids components place h = by (slice_get components place) refl
  where
    by : (o : Option Component) → slice_get components place ≡ o → place < length components
    by None e = absurd (true≢false (sym h ∙ ap (λ (o : Option Component). option_map_or (provides guids) o false) e))
    by (Some c) e = slice_get_within components place c e

any_same : {X : Type 0} (p q : X → Bool) (xs : List X) → ((x : X) → p x ≡ q x) → list_any p xs ≡ list_any q xs
any_same p q [] h = refl
any_same p q (x ∷ xs) h = ap (λ (b : Bool). b || list_any p xs) (h x) ∙ ap (λ (b : Bool). q x || b) (any_same p q xs h)

any_false : {X : Type 0} (xs : List X) → list_any (λ _. false) xs ≡ false
any_false [] = refl
any_false (x ∷ xs) = any_false xs

-- Some item passes one of two tests where some passes the one or some the other.
any_or : {X : Type 0} (p q : X → Bool) (xs : List X) → (list_any p xs || list_any q xs) ≡ list_any (λ x. p x || q x) xs
any_or p q [] = refl
any_or p q (x ∷ xs) = four (p x) (q x) (list_any p xs) (list_any q xs) ∙ ap (λ (b : Bool). (p x || q x) || b) (any_or p q xs)
  where
    four : (a b c d : Bool) → ((a || c) || (b || d)) ≡ ((a || b) || (c || d))
    four true b c d = refl
    four false true true d = refl
    four false true false d = refl
    four false false c d = refl

provides_each : (guids : List (List ℕ)) (component : Component) → list_any (λ guid. provides (guid ∷ []) component) guids ≡ provides guids component
provides_each [] component = sym (any_false component.provides)
provides_each (guid ∷ guids) component =
    ap (λ (b : Bool). provides (guid ∷ []) component || b) (provides_each guids component)
    ∙ any_or (λ own. bytes_eq own guid || false) (λ own. list_any (λ guid. bytes_eq own guid) guids) component.provides
    ∙ any_same (λ own. (bytes_eq own guid || false) || list_any (λ guid. bytes_eq own guid) guids) (λ own. bytes_eq own guid || list_any (λ guid. bytes_eq own guid) guids) component.provides
    (λ own. ap (λ (b : Bool). b || list_any (λ guid. bytes_eq own guid) guids) (or_false (bytes_eq own guid)))

each_at : (guids : List (List ℕ)) (o : Option Component) → list_any (λ guid. option_map_or (provides (guid ∷ [])) o false) guids ≡ option_map_or (provides guids) o false
each_at guids None = any_false guids
each_at guids (Some component) = provides_each guids component

-- A component provides one of the GUIDs where it stands under one of them.
pub says_of_all : (entries : List (List ℕ × Vec ℕ Global)) (components : List Component) (guids : List (List ℕ)) (place : ℕ) → IsIndexOf entries components
    → list_any (λ guid. is_listed guid place entries) guids ≡ provides_at guids place components
says_of_all entries components guids place h =
    any_same (λ guid. is_listed guid place entries) (λ guid. provides_at (guid ∷ []) place components) guids (λ guid. h guid place)
    ∙ each_at guids (slice_get components place)

-- ---- marks

pub marked : (marks : List Bool) (at place : ℕ) → at < length marks → get_or (set marks at true) place false ≡ (get_or marks place false || eqb at place)
marked marks at place lt =
    ⊎_elim
    (λ same.
    ap (λ (p : ℕ). get_or (set marks at true) p false) (sym same.1) ∙ get_or-set_same marks at true false lt
    ∙ sym (or_true (get_or marks place false)) ∙ ap (λ (b : Bool). get_or marks place false || b) (sym same.0))
    (λ apart.
    get_or-set_other marks at place true false (λ e. apart.1 (sym e))
    ∙ sym (or_false (get_or marks place false)) ∙ ap (λ (b : Bool). get_or marks place false || b) (sym apart.0))
    (eqb_tells at place)

pub none_marked : (n place : ℕ) → get_or (replicate n false) place false ≡ false
none_marked zero place = refl
none_marked (suc n) zero = refl
none_marked (suc n) (suc place) = none_marked n place

pub or_assoc : (a b c : Bool) → ((a || b) || c) ≡ (a || (b || c))
or_assoc true b c = refl
or_assoc false b c = refl
