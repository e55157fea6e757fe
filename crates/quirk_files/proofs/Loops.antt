-- One more turn of a loop over a list.
use Rattle.std.proofs.Common.{◌≡◌, ℕ, ◌+◌, ◌<◌, ◌≤◌, ◌||◌, Bool, true, false, cond, not, List, [], ◌∷◌, ◌++◌, Bor, length, take, drop, map, filter, get_or, Option, Some, None, refl, sym, ap, ◌∙◌, append_assoc, append-nil, drop-cons, add-one}
use Rattle.std.specs.List.{filter_map, cons_option, flat_map, last_or, list_any}
use Rattle.std.specs.Option.{option_or, option_to_list}
use Rattle.std.specs.Str.{bytes_eq}
use Rattle.std.specs.Cmp.Lexicographic.{bytes_decides}
use Rattle.std.proofs.lemmas.List.{take_more, map_more, take-map, drop_all, map-append}
use Rattle.std.proofs.lemmas.List.Elements.{filter_map-append, filter-append}
use Rattle.std.proofs.lemmas.List.Folds.{list_any-append}
use Rattle.std.proofs.lemmas.Grind.{flat_map-append}
use Rattle.quirk_files.specs.declared.changes.FlagChange.{FlagChange}
use Rattle.quirk_files.specs.Flags.{changed, flags_with}
use Rattle.quirk_files.specs.Sheets.{added}
use Rattle.quirk_files.specs.Texts.{elements_among, is_empty, trimmed}

-- the front of what references point to, one longer
pub mapped_more : {X Y : Type 0} (f : X → Y) (xs : List X) (i : ℕ) (d : X) → i < length xs
    → take (i + 1) (map f xs) ≡ take i (map f xs) ++ f (get_or xs i d) ∷ []
mapped_more f xs i d lt =
    take-map f (i + 1) xs ∙ map_more f xs i d lt ∙ ap (λ front. front ++ f (get_or xs i d) ∷ []) (sym (take-map f i xs))

one_read : {X Y : Type 0} (h : X → Option Y) (x : X) → filter_map h (x ∷ []) ≡ option_to_list (h x)
one_read h x = by_answer (h x) where
  by_answer : {Y : Type 0} (o : Option Y) → cons_option o [] ≡ option_to_list o
  by_answer None = refl
  by_answer (Some y) = refl

-- what is read of a list and one more
pub read_more : {X Y : Type 0} (h : X → Option Y) (front : List X) (x : X)
    → filter_map h (front ++ x ∷ []) ≡ filter_map h front ++ option_to_list (h x)
read_more h front x = filter_map-append h front (x ∷ []) ∙ ap (λ rest. filter_map h front ++ rest) (one_read h x)

last_of : {Y : Type 0} (o : Option Y) (ys : List Y) (y : Y) → last_or o (ys ++ y ∷ []) ≡ Some y
last_of o [] y = refl
last_of o (x ∷ ys) y = last_of (Some x) ys y

-- the last of a list and one more, where there is one
pub last_more : {Y : Type 0} (ys : List Y) (next : Option Y) → last_or None (ys ++ option_to_list next) ≡ option_or next (last_or None ys)
last_more ys None = ap (last_or None) (append-nil ys)
last_more ys (Some y) = last_of None ys y

-- the last that is read of a list and one more
pub last_read_more : {X Y : Type 0} (h : X → Option Y) (front : List X) (x : X)
    → last_or None (filter_map h (front ++ x ∷ [])) ≡ option_or (h x) (last_or None (filter_map h front))
last_read_more h front x = ap (last_or None) (read_more h front x) ∙ last_more (filter_map h front) (h x)

-- the pieces of a list and one more
pub pieces_more : {X Y : Type 0} (f : X → List Y) (front : List X) (x : X) → flat_map f (front ++ x ∷ []) ≡ flat_map f front ++ f x
pieces_more f front x = flat_map-append f front (x ∷ []) ∙ ap (λ rest. flat_map f front ++ rest) (append-nil (f x))

-- the changes that are left, without the first
pub changed_more : (flags : List Bool) (changes : List FlagChange) (i : ℕ) (d : FlagChange) → i < length changes
    → changed flags (drop i changes) ≡ changed (flags_with (get_or changes i d) flags) (drop (i + 1) changes)
unfolding changed
changed_more flags changes i d lt = rw (add-one, drop-cons changes i d lt) refl

-- no change is left
pub changed_none : (flags : List Bool) (changes : List FlagChange) (i : ℕ) → length changes ≤ i → changed flags (drop i changes) ≡ flags
unfolding changed
changed_none flags changes i le = rw (drop_all i changes le) refl

-- what is left to add, without the first
pub added_more : (list more : List (List ℕ)) (i : ℕ) (d : List ℕ) → i < length more
    → added list (drop i more) ≡ added (cond (list_any (bytes_eq (get_or more i d)) list) list (list ++ get_or more i d ∷ [])) (drop (i + 1) more)
unfolding added
added_more list more i d lt = rw (add-one, drop-cons more i d lt) refl

-- nothing is left to add
pub added_none : (list more : List (List ℕ)) (i : ℕ) → length more ≤ i → added list (drop i more) ≡ list
unfolding added
added_none list more i le = rw (drop_all i more le) refl

or_false : (b : Bool) → (b || false) ≡ b
or_false true = refl
or_false false = refl

any_of_two : (list : List (List ℕ)) (x q : List ℕ) → list_any (bytes_eq q) (list ++ x ∷ []) ≡ (list_any (bytes_eq q) list || bytes_eq q x)
any_of_two list x q = list_any-append (bytes_eq q) list (x ∷ []) ∙ ap (λ b. list_any (bytes_eq q) list || b) (or_false (bytes_eq q x))

-- what is in a list after an element was added that may be there
pub any_added : (list : List (List ℕ)) (x q : List ℕ)
    → list_any (bytes_eq q) (cond (list_any (bytes_eq x) list) list (list ++ x ∷ [])) ≡ (list_any (bytes_eq q) list || bytes_eq q x)
any_added list x q = by_test (list_any (bytes_eq x) list) refl where
  same_too : (b : Bool) → bytes_eq q x ≡ b → list_any (bytes_eq x) list ≡ true → list_any (bytes_eq q) list ≡ (list_any (bytes_eq q) list || b)
  same_too true e there =
      let one : q ≡ x = (bytes_decides q x).0 e in
      let yes : list_any (bytes_eq q) list ≡ true = ap (λ (k : List ℕ). list_any (bytes_eq k) list) one ∙ there in
      rw yes refl
  same_too false e there = sym (or_false (list_any (bytes_eq q) list))

  by_test : (b : Bool) → list_any (bytes_eq x) list ≡ b → list_any (bytes_eq q) (cond b list (list ++ x ∷ [])) ≡ (list_any (bytes_eq q) list || bytes_eq q x)
  by_test true there = same_too (bytes_eq q x) refl there
  by_test false there = any_of_two list x q

any_mapped : {X : Type 0} (f : X → List ℕ) (p : List ℕ → Bool) (xs : List X) → list_any p (map f xs) ≡ list_any (λ x. p (f x)) xs
any_mapped f p [] = refl
any_mapped f p (x ∷ xs) = ap (λ b. p (f x) || b) (any_mapped f p xs)

-- whether a text is new to what references point to
pub any_of_references : (q : List ℕ) (keys : List (Bor (List ℕ))) → list_any (λ (key : Bor (List ℕ)). bytes_eq q key.now) keys ≡ list_any (bytes_eq q) (map (λ (key : Bor (List ℕ)). key.now) keys)
any_of_references q keys = sym (any_mapped (λ (key : Bor (List ℕ)). key.now) (bytes_eq q) keys)

mapped_cond : (b : Bool) (keys : List (Bor (List ℕ))) (k : Bor (List ℕ))
    → map (λ (key : Bor (List ℕ)). key.now) (cond b keys (keys ++ k ∷ [])) ≡ cond b (map (λ (key : Bor (List ℕ)). key.now) keys) (map (λ (key : Bor (List ℕ)). key.now) keys ++ k.now ∷ [])
mapped_cond true keys k = refl
mapped_cond false keys k = map-append (λ (key : Bor (List ℕ)). key.now) keys (k ∷ [])

-- the same of what references point to
pub any_added_reference : (keys new : List (Bor (List ℕ))) (k : Bor (List ℕ)) (q : List ℕ)
    → new ≡ cond (list_any (λ (key : Bor (List ℕ)). bytes_eq k.now key.now) keys) keys (keys ++ k ∷ [])
    → list_any (bytes_eq q) (map (λ (key : Bor (List ℕ)). key.now) new) ≡ (list_any (bytes_eq q) (map (λ (key : Bor (List ℕ)). key.now) keys) || bytes_eq q k.now)
any_added_reference keys new k q is =
    let texts : List (List ℕ) = map (λ (key : Bor (List ℕ)). key.now) keys in
    ap (λ (n : List (Bor (List ℕ))). list_any (bytes_eq q) (map (λ (key : Bor (List ℕ)). key.now) n)) is
    ∙ ap (list_any (bytes_eq q)) (mapped_cond (list_any (λ (key : Bor (List ℕ)). bytes_eq k.now key.now) keys) keys k)
    ∙ ap (λ (b : Bool). list_any (bytes_eq q) (cond b texts (texts ++ k.now ∷ []))) (any_of_references k.now keys)
    ∙ any_added texts k.now q

-- what is known goes on to be what is in the list
pub known_step : (known next : List ℕ → Bool) (all after : List (List ℕ)) (x : List ℕ)
    → ((q : List ℕ) → known q ≡ list_any (bytes_eq q) all) → after ≡ cond (known x) all (all ++ x ∷ [])
    → ((q : List ℕ) → next q ≡ (known q || bytes_eq q x)) → (q : List ℕ) → next q ≡ list_any (bytes_eq q) after
known_step known next all after x is grown told q =
    let tested : after ≡ cond (list_any (bytes_eq x) all) all (all ++ x ∷ []) = grown ∙ ap (λ (b : Bool). cond b all (all ++ x ∷ [])) (is x) in
    told q ∙ ap (λ (b : Bool). b || bytes_eq q x) (is q) ∙ sym (ap (list_any (bytes_eq q)) tested ∙ any_added all x q)

-- what is left to add, after one more was
pub added_step : (known : List ℕ → Bool) (all after list more : List (List ℕ)) (i : ℕ) (x : List ℕ) → i < length more
    → ((q : List ℕ) → known q ≡ list_any (bytes_eq q) all) → x ≡ get_or more i x → after ≡ cond (known x) all (all ++ x ∷ [])
    → added all (drop i more) ≡ added list more → added after (drop (i + 1) more) ≡ added list more
added_step known all after list more i x lt is here grown left =
    let tested : after ≡ cond (list_any (bytes_eq x) all) all (all ++ x ∷ []) = grown ∙ ap (λ (b : Bool). cond b all (all ++ x ∷ [])) (is x) in
    ap (λ (l : List (List ℕ)). added l (drop (i + 1) more)) (tested ∙ ap (λ (y : List ℕ). cond (list_any (bytes_eq y) all) all (all ++ y ∷ [])) here)
    ∙ sym (added_more all more i x lt) ∙ left

-- the turns of the loops over references
pub last_step : {X Y Z : Type 0} (h : X → Option Y) (f : Z → X) (xs : List Z) (i : ℕ) (d : Z) (last next after : Option Y) → i < length xs
    → last ≡ last_or None (filter_map h (take i (map f xs))) → d ≡ get_or xs i d → next ≡ h (f d) → after ≡ option_or next last
    → after ≡ last_or None (filter_map h (take (i + 1) (map f xs)))
last_step h f xs i d last next after lt was here read is =
    is ∙ ap (λ o. option_or o last) (read ∙ ap (λ z. h (f z)) here) ∙ ap (option_or (h (f (get_or xs i d)))) was
    ∙ sym (ap (λ front. last_or None (filter_map h front)) (mapped_more f xs i d lt) ∙ last_read_more h (take i (map f xs)) (f (get_or xs i d)))

pub read_step : {X Y Z : Type 0} (h : X → Option Y) (f : Z → X) (xs : List Z) (i : ℕ) (d : Z) (got after : List Y) (next : Option Y) → i < length xs
    → got ≡ filter_map h (take i (map f xs)) → next ≡ h (f (get_or xs i d)) → after ≡ got ++ option_to_list next
    → after ≡ filter_map h (take (i + 1) (map f xs))
read_step h f xs i d got after next lt was read is =
    is ∙ ap (λ o. got ++ option_to_list o) read ∙ ap (λ g. g ++ option_to_list (h (f (get_or xs i d)))) was
    ∙ sym (ap (filter_map h) (mapped_more f xs i d lt) ∙ read_more h (take i (map f xs)) (f (get_or xs i d)))

pub pieces_step : {X Y Z : Type 0} (p : X → List Y) (f : Z → X) (xs : List Z) (i : ℕ) (d : Z) (got after : List Y) → i < length xs
    → got ≡ flat_map p (take i (map f xs)) → d ≡ get_or xs i d → after ≡ got ++ p (f d)
    → after ≡ flat_map p (take (i + 1) (map f xs))
pieces_step p f xs i d got after lt was here is =
    is ∙ ap (λ z. got ++ p (f z)) here ∙ ap (λ g. g ++ p (f (get_or xs i d))) was
    ∙ sym (ap (flat_map p) (mapped_more f xs i d lt) ∙ pieces_more p (take i (map f xs)) (f (get_or xs i d)))

element_alone : (x : List ℕ) → elements_among (x ∷ []) ≡ cond (is_empty (trimmed x)) [] (trimmed x ∷ [])
element_alone x = by_test (is_empty (trimmed x)) (trimmed x) where
  by_test : (b : Bool) (t : List ℕ) → cond (not b) (t ∷ []) [] ≡ cond b [] (t ∷ [])
  by_test true t = refl
  by_test false t = refl

elements_more : (front : List (List ℕ)) (x : List ℕ) → elements_among (front ++ x ∷ []) ≡ elements_among front ++ cond (is_empty (trimmed x)) [] (trimmed x ∷ [])
elements_more front x =
    ap (filter (λ part. not (is_empty part))) (map-append trimmed front (x ∷ []))
    ∙ filter-append (λ part. not (is_empty part)) (map trimmed front) (trimmed x ∷ [])
    ∙ ap (λ rest. elements_among front ++ rest) (element_alone x)

-- what stands for a reference past the end
abbrev pub no_reference : Bor (List ℕ)
no_reference = record { ref_ptr = (0, 0); now = [] }

pub elements_step : (parts : List (Bor (List ℕ))) (i : ℕ) (start got after : List (List ℕ)) (inner : List ℕ) → i < length parts
    → got ≡ start ++ elements_among (take i (map (λ (part : Bor (List ℕ)). part.now) parts)) → inner ≡ trimmed (get_or parts i no_reference).now
    → after ≡ got ++ cond (is_empty inner) [] (inner ∷ [])
    → after ≡ start ++ elements_among (take (i + 1) (map (λ (part : Bor (List ℕ)). part.now) parts))
elements_step parts i start got after inner lt was same is =
    let now : Bor (List ℕ) → List ℕ = λ part. part.now in
    let d : Bor (List ℕ) = no_reference in
    let one : List ℕ → List (List ℕ) = λ t. cond (is_empty (trimmed t)) [] (trimmed t ∷ []) in
    is ∙ ap (λ (t : List ℕ). got ++ cond (is_empty t) [] (t ∷ [])) same
    ∙ ap (λ (g : List (List ℕ)). g ++ one (get_or parts i d).now) was
    ∙ append_assoc start (elements_among (take i (map now parts))) (one (get_or parts i d).now)
    ∙ ap (λ (rest : List (List ℕ)). start ++ rest) (sym (ap elements_among (mapped_more now parts i d lt) ∙ elements_more (take i (map now parts)) (get_or parts i d).now))

-- the quirks of some files and one more
pub files_step : {X : Type 0} (p : X → Bool) (files : List (List X)) (i : ℕ) (file : List X) (start got after : List X) → i < length files
    → got ≡ start ++ filter p (flat_map (λ f. f) (take i files)) → file ≡ get_or files i file → after ≡ got ++ filter p file
    → after ≡ start ++ filter p (flat_map (λ f. f) (take (i + 1) files))
files_step {X} p files i file start got after lt was here is =
    let front : List (List X) = take i files in
    let one : List X = get_or files i file in
    is ∙ ap (λ (f : List X). got ++ filter p f) here ∙ ap (λ (g : List X). g ++ filter p one) was
    ∙ append_assoc start (filter p (flat_map (λ f. f) front)) (filter p one)
    ∙ ap (λ (rest : List X). start ++ rest)
    (sym (ap (λ (fs : List (List X)). filter p (flat_map (λ f. f) fs)) (take_more files i file lt) ∙ ap (filter p) (pieces_more (λ f. f) front one)
    ∙ filter-append p (flat_map (λ f. f) front) one))
