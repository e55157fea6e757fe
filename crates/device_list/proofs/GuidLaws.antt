-- What changes at one GUID of the index, and the first place that shows a GUID.
use Rattle.std.proofs.Common.{◌≡◌, ℕ, ◌+◌, ◌-◌, ◌<◌, Bool, true, false, ◌||◌, cond, List, [], ◌∷◌, ◌++◌, length, slice_get, Option, Some, refl, sym, ap, subst, ◌∙◌, true≢false, append_assoc, append-nil, map, All, get_or, if◌then◌else◌, length-append, arith, ◌==◌}
use Rattle.std.proofs.lemmas.List.Elements.{All-nil, All-cons, All-weaker, All-get_or}
use Rattle.std.proofs.lemmas.Iterator.Adapters.{position_from-zero}
use Rattle.fw_facts.specs.declared.sheet.Sheet.{Sheet}
use Rattle.fw_facts.specs.declared.view.DeviceView.{DeviceView}
use Rattle.fw_facts.specs.declared.seen.Seen.{Seen}
use Rattle.fw_facts.specs.declared.seen.Seen.TheVariants.{Home, Gone, Stranger}
use Rattle.fw_facts.specs.declared.seen.Mode.TheVariants.{Runtime, Bootloader}
use Rattle.fw_facts.specs.Views.{guids_shown}
use Rattle.device_list.specs.Lists.{shows}
use Rattle.std.proofs.lemmas.Bool.Decides.{Decides-eqb}
use Rattle.std.proofs.lemmas.List.{get_or_push}
use Rattle.std.proofs.lemmas.Option.{slice_get-get_or}
use Rattle.std.specs.Prelude.{Vec, position}
use Rattle.std.specs.List.{list_any, position_from, find}
use Rattle.std.specs.Option.{MatchOption, option_map_or}
use Rattle.std.specs.Str.{bytes_eq}
use Rattle.std.specs.declared.alloc.Global.{Global}
use Rattle.std.proofs.lemmas.Slice.Eq.{bytes_eq-Decides}
use Rattle.device_list.specs.Guids.{items_of, with_last, ends_in, has, places_from, places_of, sheets, shows_at}

pub bytes_eq-symm : (a b : List ℕ) → bytes_eq a b ≡ bytes_eq b a
bytes_eq-symm a b = by (bytes_eq a b) refl
  where
    by : (r : Bool) → bytes_eq a b ≡ r → bytes_eq a b ≡ bytes_eq b a
    by true e = e ∙ sym ((bytes_eq-Decides b a).1 (sym ((bytes_eq-Decides a b).0 e)))
    by false e = back (bytes_eq b a) refl
      where
        back : (r : Bool) → bytes_eq b a ≡ r → bytes_eq a b ≡ bytes_eq b a
        back true f = absurd (true≢false (sym ((bytes_eq-Decides a b).1 (sym ((bytes_eq-Decides b a).0 f))) ∙ e))
        back false f = e ∙ sym f

module _ (f : List ℕ → Option (Vec ℕ Global)) (k q : List ℕ) (w : Vec ℕ Global) (y : Option (Vec ℕ Global)) (now : y ≡ cond (bytes_eq k q) (Some w) (f q)) where
  -- another list of the same places at one GUID changes nothing
  pub same_at : w.items ≡ items_of (f k) → items_of y ≡ items_of (f q)
  same_at put = by (bytes_eq k q) refl
    where
      by : (r : Bool) → bytes_eq k q ≡ r → items_of y ≡ items_of (f q)
      by true e = ap items_of (now ∙ ap (λ b. cond b (Some w) (f q)) e) ∙ put ∙ ap (λ g. items_of (f g)) ((bytes_eq-Decides k q).0 e)
      by false e = ap items_of (now ∙ ap (λ b. cond b (Some w) (f q)) e)

  -- a place that is noted at one GUID is noted there and nowhere else
  pub noted_at : (at : ℕ) → w.items ≡ with_last true at (items_of (f k)) → items_of y ≡ with_last (bytes_eq q k) at (items_of (f q))
  noted_at at put = by (bytes_eq k q) refl
    where
      by : (r : Bool) → bytes_eq k q ≡ r → items_of y ≡ with_last (bytes_eq q k) at (items_of (f q))
      by true e = ap items_of (now ∙ ap (λ b. cond b (Some w) (f q)) e) ∙ put ∙ ap (λ g. with_last true at (items_of (f g))) ((bytes_eq-Decides k q).0 e)
          ∙ sym (ap (λ b. with_last b at (items_of (f q))) (bytes_eq-symm q k ∙ e))
      by false e = ap items_of (now ∙ ap (λ b. cond b (Some w) (f q)) e) ∙ sym (ap (λ b. with_last b at (items_of (f q))) (bytes_eq-symm q k ∙ e))

  -- what holds of the new list holds wherever it held before
  pub kept_at : (P : Vec ℕ Global → Type 0) → P w → MatchOption (f q) ⊥ P → MatchOption y ⊥ P
  kept_at P put held = by (bytes_eq k q) refl
    where
      by : (r : Bool) → bytes_eq k q ≡ r → MatchOption y ⊥ P
      by true e = subst (λ o. MatchOption o ⊥ P) (sym (now ∙ ap (λ b. cond b (Some w) (f q)) e)) put
      by false e = subst (λ o. MatchOption o ⊥ P) (sym (now ∙ ap (λ b. cond b (Some w) (f q)) e)) held

  pub kept_from : (P : Vec ℕ Global → Type 0) (v : Vec ℕ Global) → f k ≡ Some v → (P v → P w) → MatchOption (f q) ⊥ P → MatchOption y ⊥ P
  kept_from P v had keeps held = by (bytes_eq k q) refl
    where
      by : (r : Bool) → bytes_eq k q ≡ r → MatchOption y ⊥ P
      by true e = subst (λ o. MatchOption o ⊥ P) (sym (now ∙ ap (λ b. cond b (Some w) (f q)) e)) (keeps (subst (λ o. MatchOption o ⊥ P) (sym (ap f ((bytes_eq-Decides k q).0 e)) ∙ had) held))
      by false e = subst (λ o. MatchOption o ⊥ P) (sym (now ∙ ap (λ b. cond b (Some w) (f q)) e)) held

-- the item behind a list of items
pub slice_get-seam : {X : Type 0} (xs : List X) (y : X) (ys : List X) → slice_get (xs ++ y ∷ ys) (length xs) ≡ Some y
slice_get-seam [] y ys = refl
slice_get-seam (x ∷ xs) y ys = slice_get-seam xs y ys

-- a list ends in the place that was put behind it
pub ends_in-push : (at : ℕ) (places : List ℕ) → ends_in at (places ++ at ∷ []) ≡ true
ends_in-push at places =
    let end : length (places ++ at ∷ []) - 1 ≡ length places = omega (arith, length-append places (at ∷ [])) in
    let within : length places < length (places ++ at ∷ []) = omega (arith, length-append places (at ∷ [])) in
    ap (λ o. option_map_or (λ last. last == at) o false) (ap (slice_get (places ++ at ∷ [])) end ∙ slice_get-get_or (places ++ at ∷ []) (length places) at within ∙ ap Some (get_or_push places at at (length places) refl)) ∙ (Decides-eqb at at).1 refl

-- a place noted twice is noted once
pub with_last-twice : (a b : Bool) (at : ℕ) (places : List ℕ) → with_last b at (with_last a at places) ≡ with_last (a || b) at places
with_last-twice false b at places = refl
with_last-twice true false at places = refl
with_last-twice true true at places = by (ends_in at places) refl
  where
    by : (r : Bool) → ends_in at places ≡ r → with_last true at (with_last true at places) ≡ with_last true at places
    by true e = ap (with_last true at) (ap (λ b. cond b places (places ++ at ∷ [])) e) ∙ refl
    by false e = ap (with_last true at) (ap (λ b. cond b places (places ++ at ∷ [])) e) ∙ ap (λ b. cond b (places ++ at ∷ []) ((places ++ at ∷ []) ++ at ∷ [])) (ends_in-push at places)
        ∙ sym (ap (λ b. cond b places (places ++ at ∷ [])) e)

-- the devices of the sheets are those of the views
pub devices_of-sheets : (views : List DeviceView) → map (λ (sheet : Sheet). sheet.device) (sheets views) ≡ map (λ (view : DeviceView). view.sheet.device) views
devices_of-sheets [] = refl
devices_of-sheets (view ∷ views) = ap (λ ids. view.sheet.device ∷ ids) (devices_of-sheets views)

-- a sheet behind the others has the last place
pub places_from-push : (test : Sheet → Bool) (first : ℕ) (xs : List Sheet) (x : Sheet) → places_from test first (xs ++ x ∷ []) ≡ places_from test first xs ++ (if test x then (first + length xs) ∷ [] else [])
places_from-push test first [] x =
    let same : first ≡ first + length {A = Sheet} [] = omega arith in
    append-nil (if test x then first ∷ [] else []) ∙ ap (λ n. if test x then n ∷ [] else []) same
places_from-push test first (y ∷ ys) x =
    let same : first + 1 + length ys ≡ first + length (y ∷ ys) = omega arith in
    ap (λ rest. (if test y then first ∷ [] else []) ++ rest) (places_from-push test (first + 1) ys x ∙ ap (λ n. places_from test (first + 1) ys ++ (if test x then n ∷ [] else [])) same)
    ∙ sym (append_assoc (if test y then first ∷ [] else []) (places_from test (first + 1) ys) (if test x then (first + length (y ∷ ys)) ∷ [] else []))

-- a board's GUID that it doesn't have in either mode isn't shown
pub not_shown : (guid : List ℕ) (sheet : Sheet) (seen : Seen) → has guid sheet ≡ false → list_any (bytes_eq guid) (guids_shown sheet seen) ≡ false
not_shown guid sheet (Home raw Runtime) none = no_first (list_any (bytes_eq guid) sheet.runtime_guids) (list_any (bytes_eq guid) sheet.loader_guids) none
  where
    no_first : (a b : Bool) → (a || b) ≡ false → a ≡ false
    no_first true b h = h
    no_first false b h = refl
not_shown guid sheet (Home raw Bootloader) none = no_second (list_any (bytes_eq guid) sheet.runtime_guids) (list_any (bytes_eq guid) sheet.loader_guids) none
  where
    no_second : (a b : Bool) → (a || b) ≡ false → b ≡ false
    no_second true b h = absurd (true≢false h)
    no_second false b h = h
not_shown guid sheet Gone none = refl
not_shown guid sheet Stranger none = refl

step : (guid : List ℕ) (before : List DeviceView) (view : DeviceView) (views : List DeviceView) (first : ℕ) → length before ≡ first
    → find (shows_at guid (before ++ view ∷ views)) (places_from (has guid) (first + 1) (sheets views)) ≡ position_from (shows guid) (first + 1) views
    → find (shows_at guid (before ++ view ∷ views)) (places_from (has guid) first (sheets (view ∷ views))) ≡ position_from (shows guid) first (view ∷ views)
step guid before view views first e rest = by (has guid view.sheet) refl
  where
    all : List DeviceView
    all = before ++ view ∷ views

    later : List ℕ
    later = places_from (has guid) (first + 1) (sheets views)

    here : shows_at guid all first ≡ shows guid view
    here = ap (λ o. option_map_or (shows guid) o false) (ap (slice_get all) (sym e) ∙ slice_get-seam before view views)

    by : (r : Bool) → has guid view.sheet ≡ r → find (shows_at guid all) ((if has guid view.sheet then first ∷ [] else []) ++ later) ≡ cond (shows guid view) (Some first) (position_from (shows guid) (first + 1) views)
    by true h = ap (λ b. find (shows_at guid all) ((if b then first ∷ [] else []) ++ later)) h ∙ (λ i. cond (here i) (Some first) (rest i))
    by false h = ap (λ b. find (shows_at guid all) ((if b then first ∷ [] else []) ++ later)) h ∙ rest ∙ sym (ap (λ b. cond b (Some first) (position_from (shows guid) (first + 1) views)) (not_shown guid view.sheet view.seen h))

-- the first noted place that shows the GUID is the first of all
pub find-places_from : (guid : List ℕ) (before views : List DeviceView) (first : ℕ) → length before ≡ first
    → find (shows_at guid (before ++ views)) (places_from (has guid) first (sheets views)) ≡ position_from (shows guid) first views
find-places_from guid before [] first e = refl
find-places_from guid before (view ∷ views) first e =
    step guid before view views first e (subst (λ all. find (shows_at guid all) (places_from (has guid) (first + 1) (sheets views)) ≡ position_from (shows guid) (first + 1) views) (append_assoc before (view ∷ []) views)
    (find-places_from guid (before ++ view ∷ []) views (first + 1) (omega (arith, length-append before (view ∷ []), e))))

-- so is the first of all noted places
pub find-places_of : (guid : List ℕ) (views : List DeviceView) → find (shows_at guid views) (places_of guid (sheets views)) ≡ position (shows guid) views
find-places_of guid views = find-places_from guid [] views 0 refl ∙ sym (position_from-zero (shows guid) views)

-- no place of a list of sheets is the one behind it
pub last_below : (test : Sheet → Bool) (first : ℕ) (xs : List Sheet) → All (λ p. p < first + length xs) (places_from test first xs)
last_below test first [] = All-nil (λ p. p < first + length {A = Sheet} [])
last_below test first (x ∷ xs) =
    at_first (test x) (All-weaker (λ p. p < first + 1 + length xs) (λ p. p < first + length (x ∷ xs)) (λ p h. omega (arith, h)) (places_from test (first + 1) xs) (last_below test (first + 1) xs))
  where
    at_first : (b : Bool) → All (λ p. p < first + length (x ∷ xs)) (places_from test (first + 1) xs) → All (λ p. p < first + length (x ∷ xs)) ((if b then first ∷ [] else []) ++ places_from test (first + 1) xs)
    at_first true rest = All-cons (λ p. p < first + length (x ∷ xs)) first (places_from test (first + 1) xs) (omega arith) rest
    at_first false rest = rest

pub not_last : (at : ℕ) (places : List ℕ) → All (λ p. p < at) places → ends_in at places ≡ false
not_last at [] all = refl
not_last at (p ∷ ps) all =
    let within : length (p ∷ ps) - 1 < length (p ∷ ps) = omega arith in
    let last = slice_get-get_or (p ∷ ps) (length (p ∷ ps) - 1) 0 within in
    let less = All-get_or (λ p. p < at) (p ∷ ps) (length (p ∷ ps) - 1) 0 within all in
    ap (λ o. option_map_or (λ last. last == at) o false) last ∙ apart (get_or (p ∷ ps) (length (p ∷ ps) - 1) 0) less
  where
    apart : (q : ℕ) → q < at → (q == at) ≡ false
    apart q less = grind (arith, less)

-- what is noted of a board behind the others
pub noted_behind : (guid : List ℕ) (xs : List Sheet) (x : Sheet) → with_last (has guid x) (length xs) (places_of guid xs) ≡ places_of guid (xs ++ x ∷ [])
noted_behind guid xs x = by (has guid x) refl ∙ ap (λ n. places_of guid xs ++ (if has guid x then n ∷ [] else [])) start ∙ sym (places_from-push (has guid) 0 xs x)
  where
    start : length xs ≡ 0 + length xs
    start = omega arith

    none : ends_in (length xs) (places_of guid xs) ≡ false
    none = not_last (length xs) (places_of guid xs) (All-weaker (λ p. p < 0 + length xs) (λ p. p < length xs) (λ p h. omega (arith, h)) (places_of guid xs) (last_below (has guid) 0 xs))

    by : (r : Bool) → has guid x ≡ r → with_last (has guid x) (length xs) (places_of guid xs) ≡ places_of guid xs ++ (if has guid x then (length xs) ∷ [] else [])
    by true e = ap (λ b. with_last b (length xs) (places_of guid xs)) e ∙ ap (λ b. cond b (places_of guid xs) (places_of guid xs ++ length xs ∷ [])) none ∙ sym (ap (λ b. places_of guid xs ++ (if b then (length xs) ∷ [] else [])) e)
    by false e = ap (λ b. with_last b (length xs) (places_of guid xs)) e ∙ sym (append-nil (places_of guid xs)) ∙ sym (ap (λ b. places_of guid xs ++ (if b then (length xs) ∷ [] else [])) e)
