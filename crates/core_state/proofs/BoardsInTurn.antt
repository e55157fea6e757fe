-- The boards one by one, as a loop over the sheets meets them.
use Rattle.std.proofs.Common.{◌≡◌, ◌≢◌, ℕ, zero, suc, Bool, true, false, List, [], ◌∷◌, ◌++◌, refl, ap, sym, ◌∙◌, ◌<◌, ◌≤◌, ◌+◌, arith, length, take, get_or, map, add-one, not}
use Rattle.std.specs.Prelude.{Some, None, ◌==◌, nat_lt, filter, cond}
use Rattle.std.specs.List.{AllByRecursion, list_any, position_or_len}
use Rattle.std.proofs.lemmas.Bool.{ltb-true}
use Rattle.std.proofs.lemmas.List.Elements.{filter_more}
use Rattle.fw_facts.specs.declared.sheet.Sheet.{Sheet}
use Rattle.fw_facts.specs.declared.view.DeviceView.{DeviceView}
use Rattle.device_list.specs.declared.selector.Selector.{Selector}
use Rattle.device_list.specs.Lists.{names, place, refused}
use Rattle.update_log.specs.declared.facts.Facts.{Facts}
use Rattle.update_log.specs.Boards.{Board, boards_from, all_boards, is_beaten, is_device, devices}
use Rattle.core_state.specs.CoreBoards.{board, first_view}
use Rattle.std.proofs.lemmas.List.{map-append, length-map, take_all}
use Rattle.update_log.proofs.Lists.{by_test, eqb-other, All-map, All-filter, All-both, any-here, filter-short}
use Rattle.update_log.proofs.Devices.{IsIn, IsOne, apart, each-in, one-of}
use Rattle.update_log.proofs.Openings.{bytes-differ}

pub length-from : (n : ℕ) (sheets : List Sheet) → length (boards_from n sheets) ≡ length sheets
length-from n [] = refl
length-from n (s ∷ sheets) = ap suc (length-from (n + 1) sheets)

-- The board at a place has that number and the sheet at that place.
pub board-from : (n m : ℕ) (sheets : List Sheet) (i : ℕ) (d : Sheet) (e : Board) → m ≡ n + i → i < length sheets → get_or (boards_from n sheets) i e ≡ board m (get_or sheets i d)
board-from n m [] i d e k lt = absurd (omega arith)
board-from n m (s ∷ sheets) zero d e k lt = let same : n ≡ m = omega (arith, k) in ap (λ x. board x s) same
board-from n m (s ∷ sheets) (suc i) d e k lt = board-from (n + 1) m sheets i d e (omega (arith, k)) (omega arith)

-- A test that no board before passes, nor this one.
pub any-next : {X : Type 0} (p : X → Bool) (xs : List X) (i : ℕ) (d : X) → i < length xs → list_any p (take i xs) ≡ false → p (get_or xs i d) ≡ false → list_any p (take (suc i) xs) ≡ false
any-next p [] i d lt h g = absurd (omega arith)
any-next p (x ∷ xs) zero d lt h g = rw g refl
any-next p (x ∷ xs) (suc i) d lt h g =
    by_test (p x) _
    (λ t. let bad : true ≡ false = rw t at h in cc)
    (λ f. rw f (any-next p xs i d (omega arith) (rw f at h) g))

-- The boards before a place have lower numbers.
before-below : (n : ℕ) (sheets : List Sheet) (i : ℕ) → AllByRecursion (λ b. b.number < n + i) (take i (boards_from n sheets))
before-below n [] zero = tt
before-below n [] (suc i) = tt
before-below n (s ∷ sheets) zero = tt
before-below n (s ∷ sheets) (suc i) =
    (omega arith, All-map (λ b. b.number < n + 1 + i) (λ b. b.number < n + suc i) (take i (boards_from (n + 1) sheets)) (before-below (n + 1) sheets i) (λ b h. omega (arith, h)))

all-take : {X : Type 0} (P : X → Type 0) (xs : List X) (i : ℕ) → AllByRecursion P xs → AllByRecursion P (take i xs)
all-take P [] zero a = tt
all-take P [] (suc i) a = tt
all-take P (x ∷ xs) zero a = tt
all-take P (x ∷ xs) (suc i) a = (a.0, all-take P xs i a.1)

-- The devices among them are devices, with lower numbers.
abbrev IsBefore : Facts → ℕ → Board → Type 0
IsBefore facts i b = IsOne facts b × (b.number < i)

devices-before : (facts : Facts) (i : ℕ) → AllByRecursion (IsBefore facts i) (filter (is_device facts) (take i (all_boards facts)))
devices-before facts i =
    All-filter (λ b. IsIn (all_boards facts) b × (b.number < 0 + i)) (IsBefore facts i) (is_device facts) (take i (all_boards facts))
    (All-both (IsIn (all_boards facts)) (λ b. b.number < 0 + i) (λ b. IsIn (all_boards facts) b × (b.number < 0 + i)) (take i (all_boards facts))
    (all-take (IsIn (all_boards facts)) (all_boards facts) i (each-in (all_boards facts))) (before-below 0 facts.sheets i) (λ b x y. (x, y)))
    (λ b h t. (one-of facts b h.0 t, omega (arith, h.1)))

one-longer : (t : Bool) (n m : ℕ) → t ≡ false → n ≡ m → cond (not t) (1 + n) 0 ≡ suc m
one-longer t n m f e = rw (f, e) (omega arith)

none-before : (n m : ℕ) → n ≡ m → cond (nat_lt n m) (Some n) None ≡ None
none-before n m e = by_test (nat_lt n m) _ (λ t. absurd (omega (arith, ltb-true n m t, e))) (λ f. rw f refl)

unnamed-length : (device : List ℕ) (bs : List Board) → AllByRecursion (λ b. b.sheet.device ≢ device) bs
    → position_or_len (names (Selector.Id device)) (map first_view bs) ≡ length (map first_view bs)
unnamed-length device [] a = refl
unnamed-length device (b ∷ bs) a =
    one-longer (names (Selector.Id device) (first_view b)) (position_or_len (names (Selector.Id device)) (map first_view bs)) (length (map first_view bs))
    (bytes-differ device b.sheet.device (λ e. a.0 (sym e))) (unnamed-length device bs a.1)

unnamed : (device : List ℕ) (bs : List Board) → AllByRecursion (λ b. b.sheet.device ≢ device) bs → place (Selector.Id device) (map first_view bs) ≡ None
unnamed device bs a =
    none-before (position_or_len (names (Selector.Id device)) (map first_view bs)) (length (map first_view bs)) (unnamed-length device bs a)

pub few-kept : {X : Type 0} (p : X → Bool) (xs : List X) (i : ℕ) → length (filter p (take i xs)) ≤ i
few-kept p [] zero = omega arith
few-kept p [] (suc i) = omega arith
few-kept p (x ∷ xs) zero = omega arith
few-kept p (x ∷ xs) (suc i) =
    by_test (p x) _
    (λ t. rw t (let h = few-kept p xs i in omega (arith, h)))
    (λ f. rw f (let h = few-kept p xs i in omega (arith, h)))

pub board-here : (facts : Facts) (i : ℕ) (s d : Sheet) → i < length facts.sheets → s ≡ get_or facts.sheets i d → get_or (all_boards facts) i (board i s) ≡ board i s
board-here facts i s d lt e = board-from 0 i facts.sheets i d (board i s) (omega arith) lt ∙ ap (λ x. board i x) (sym e)

pub within-boards : (facts : Facts) (i : ℕ) → i < length facts.sheets → i < length (all_boards facts)
within-boards facts i lt = let n = length-from 0 facts.sheets in omega (arith, n, lt)

-- Where this board is a device, no device before it has its ID, and there is room for one more.
pub free-next : (facts : Facts) (i : ℕ) (s d : Sheet) → length facts.sheets ≤ 256 → i < length facts.sheets → s ≡ get_or facts.sheets i d → is_device facts (board i s) ≡ true
    → refused (map first_view (filter (is_device facts) (take i (all_boards facts)))) s.device ≡ None
free-next facts i s d few lt e t =
    let own : IsOne facts (board i s) = one-of facts (board i s) (λ p u. any-here p (all_boards facts) i (board i s) (within-boards facts i lt) (ap p (board-here facts i s d lt e) ∙ u)) t in
    let other : AllByRecursion (λ b. b.sheet.device ≢ s.device) (filter (is_device facts) (take i (all_boards facts))) =
    All-map (IsBefore facts i) (λ b. b.sheet.device ≢ s.device) _ (devices-before facts i) (λ b h. apart facts b (board i s) h.0 own h.1) in
    let short : length (map first_view (filter (is_device facts) (take i (all_boards facts)))) ≤ i =
    rw (length-map (filter (is_device facts) (take i (all_boards facts))) first_view) (few-kept (is_device facts) (all_boards facts) i) in
    let room : (length (map first_view (filter (is_device facts) (take i (all_boards facts)))) == 256) ≡ false = eqb-other _ 256 (λ k. omega (arith, k, short, few, lt)) in
    rw (unnamed s.device (filter (is_device facts) (take i (all_boards facts))) other, room) refl

-- What is kept of the boards, with this one.
pub kept-next : {Y : Type 0} (f : Board → Y) (facts : Facts) (i : ℕ) (s d : Sheet) (now new : List Y) → i < length facts.sheets → s ≡ get_or facts.sheets i d
    → now ≡ map f (filter (is_device facts) (take i (all_boards facts))) → new ≡ now ++ map f (filter (is_device facts) (board i s ∷ []))
    → new ≡ map f (filter (is_device facts) (take (i + 1) (all_boards facts)))
kept-next f facts i s d now new lt e n c =
    c ∙ ap (λ ys. ys ++ map f (filter (is_device facts) (board i s ∷ []))) n
    ∙ sym (map-append f (filter (is_device facts) (take i (all_boards facts))) (filter (is_device facts) (board i s ∷ [])))
    ∙ ap (λ bs. map f bs) (sym more)
  where
    more : filter (is_device facts) (take (i + 1) (all_boards facts)) ≡ filter (is_device facts) (take i (all_boards facts)) ++ filter (is_device facts) (board i s ∷ [])
    more =
        filter_more (is_device facts) (all_boards facts) i (board i s) (within-boards facts i lt)
        ∙ ap (λ b. filter (is_device facts) (take i (all_boards facts)) ++ filter (is_device facts) (b ∷ [])) (board-here facts i s d lt e)

-- The turns of a loop over the sheets, which are read through a list that is the same.
pub beaten-here : (facts : Facts) (b : Board) (items : List Sheet) (i : ℕ) (s : Sheet) (r : Bool) → items ≡ facts.sheets → i < length items → s ≡ get_or items i s
    → r ≡ is_beaten facts b (board i s) → r ≡ true → true ≡ list_any (is_beaten facts b) (all_boards facts)
beaten-here facts b items i s r n lt e c t =
    sym (any-here (is_beaten facts b) (all_boards facts) i (board i s) (within-boards facts i (rw n at lt))
    (ap (is_beaten facts b) (board-here facts i s s (rw n at lt) (rw n at e)) ∙ sym c ∙ t))

pub beaten-next : (facts : Facts) (b : Board) (items : List Sheet) (i : ℕ) (s : Sheet) (r : Bool) → items ≡ facts.sheets → i < length items → s ≡ get_or items i s
    → r ≡ is_beaten facts b (board i s) → r ≡ false → list_any (is_beaten facts b) (take i (all_boards facts)) ≡ false
    → list_any (is_beaten facts b) (take (i + 1) (all_boards facts)) ≡ false
beaten-next facts b items i s r n lt e c t h =
    rw add-one (any-next (is_beaten facts b) (all_boards facts) i (board i s) (within-boards facts i (rw n at lt)) h
    (ap (is_beaten facts b) (board-here facts i s s (rw n at lt) (rw n at e)) ∙ sym c ∙ t))

whole-boards : (facts : Facts) (items : List Sheet) (i : ℕ) → items ≡ facts.sheets → length items ≤ i → take i (all_boards facts) ≡ all_boards facts
whole-boards facts items i n le =
    take_all i (all_boards facts) (let m = length-from 0 facts.sheets in let k = ap length n in omega (arith, m, k, le))

pub beaten-none : (facts : Facts) (b : Board) (items : List Sheet) (i : ℕ) → items ≡ facts.sheets → length items ≤ i
    → list_any (is_beaten facts b) (take i (all_boards facts)) ≡ false → false ≡ list_any (is_beaten facts b) (all_boards facts)
beaten-none facts b items i n le h = sym h ∙ ap (λ bs. list_any (is_beaten facts b) bs) (whole-boards facts items i n le)

pub free-item : (facts : Facts) (items : List Sheet) (i : ℕ) (s : Sheet) (now : List DeviceView) → items ≡ facts.sheets → length facts.sheets ≤ 256 → i < length items → s ≡ get_or items i s
    → now ≡ map first_view (filter (is_device facts) (take i (all_boards facts))) → is_device facts (board i s) ≡ true → refused now s.device ≡ None
free-item facts items i s now n few lt e h t =
    ap (λ vs. refused vs s.device) h ∙ free-next facts i s s few (rw n at lt) (rw n at e) t

pub kept-item : {Y : Type 0} (f : Board → Y) (facts : Facts) (items : List Sheet) (i : ℕ) (s : Sheet) (now new : List Y) → items ≡ facts.sheets → i < length items → s ≡ get_or items i s
    → now ≡ map f (filter (is_device facts) (take i (all_boards facts))) → new ≡ now ++ map f (filter (is_device facts) (board i s ∷ []))
    → new ≡ map f (filter (is_device facts) (take (i + 1) (all_boards facts)))
kept-item f facts items i s now new n lt e h c = kept-next f facts i s s now new (rw n at lt) (rw n at e) h c

pub kept-whole : {Y : Type 0} (f : Board → Y) (facts : Facts) (items : List Sheet) (i : ℕ) (now : List Y) → items ≡ facts.sheets → length items ≤ i
    → now ≡ map f (filter (is_device facts) (take i (all_boards facts))) → now ≡ map f (devices facts)
kept-whole f facts items i now n le h = h ∙ ap (λ bs. map f (filter (is_device facts) bs)) (whole-boards facts items i n le)

-- There are no more devices than sheets.
pub few-devices : {Y : Type 0} (f : Board → Y) (facts : Facts) (found : List Y) → length facts.sheets ≤ 256 → found ≡ map f (devices facts) → length found ≤ 256
few-devices f facts found few h =
    let m = ap length h in
    let n = length-map (devices facts) f in
    let k = filter-short (is_device facts) (all_boards facts) in
    let l = length-from 0 facts.sheets in
    omega (arith, m, n, k, l, few)

pub as-many : (facts : Facts) (views : List DeviceView) (boards : List ℕ) → views ≡ map first_view (devices facts) → boards ≡ map (λ b. b.number) (devices facts) → length boards ≡ length views
as-many facts views boards v b =
    ap length b ∙ length-map (devices facts) (λ (x : Board). x.number) ∙ sym (length-map (devices facts) first_view) ∙ sym (ap length v)
