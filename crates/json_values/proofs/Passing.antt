-- Going over the items and the members of a tree, one after the other.
use Rattle.std.specs.Prelude.{◌≡◌, ℕ, ◌+◌, ◌<◌, ◌≤◌, List, [], ◌∷◌, drop, get_or, length, Bool, true, false, ◌&&◌}
use Rattle.std.proofs.Common.{Ordering, Less, Equal, Greater, nat_cmp, refl, sym, ap, ◌∙◌, subst}
use Rattle.std.proofs.lemmas.List.{drop_more}
use Rattle.std.proofs.Math.ListN.{drop_of_length-le}
use Rattle.std.specs.Borrow.{Bor}
use Rattle.std.specs.BTreeMap.{insert_entry}
use Rattle.std.specs.Cmp.Lexicographic.{slice_cmp}
use Rattle.std.specs.Ordering.{match_ordering}
use Rattle.json.specs.Tree.{json_tokens, items_tokens, members_tokens}
use Rattle.json.specs.Value.{value_view, items_view as trees_view, members_view as entries_view}
use Rattle.json.proofs.Trees.{item_smaller, member_smaller}
use Rattle.serde_json.specs.Data.{Members, put}
use Rattle.json_values.specs.Trees.{Tree, view, members_of, members_view, is_in_range, are_in_range, members_are_in_range}

abbrev pub Entry : Type 0
Entry = Bor (List ℕ) × Tree

next : {A : Type 0} (xs : List A) (i : ℕ) (x : A) → i < length xs → x ≡ get_or xs i x → drop i xs ≡ x ∷ drop (i + 1) xs
next xs i x lt is = drop_more xs i x lt ∙ ap (λ y. y ∷ drop (i + 1) xs) (sym is)

passed : (b c total : Bool) → b ≡ true → (b && c) ≡ total → c ≡ total
passed true c total within h = h
passed false c total within h = (cc)

stopped : (b c total : Bool) → b ≡ false → (b && c) ≡ total → false ≡ total
stopped true c total beyond h = (cc)
stopped false true total beyond h = h
stopped false false total beyond h = h

-- ---- items

pub item_less : (vs : List Tree) (i : ℕ) (v : Tree) → i < length vs → v ≡ get_or vs i v → length (json_tokens (value_view v)) < length (items_tokens (trees_view vs))
item_less vs i v lt is = subst (λ y. length (json_tokens (value_view y)) < length (items_tokens (trees_view vs))) (sym is) (item_smaller vs i v lt)

here : (vs : List Tree) (i : ℕ) (v : Tree) (total : Bool) → i < length vs → v ≡ get_or vs i v → are_in_range (trees_view (drop i vs)) ≡ total
    → (is_in_range (value_view v) && are_in_range (trees_view (drop (i + 1) vs))) ≡ total
here vs i v total lt is h = sym (ap (λ ys. are_in_range (trees_view ys)) (next vs i v lt is)) ∙ h

pub item_passes : (vs : List Tree) (i : ℕ) (v : Tree) (total : Bool) → i < length vs → v ≡ get_or vs i v → is_in_range (value_view v) ≡ true
    → are_in_range (trees_view (drop i vs)) ≡ total → are_in_range (trees_view (drop (i + 1) vs)) ≡ total
item_passes vs i v total lt is within h = passed (is_in_range (value_view v)) _ total within (here vs i v total lt is h)

pub item_stops : (vs : List Tree) (i : ℕ) (v : Tree) (total : Bool) → i < length vs → v ≡ get_or vs i v → is_in_range (value_view v) ≡ false
    → are_in_range (trees_view (drop i vs)) ≡ total → false ≡ total
item_stops vs i v total lt is beyond h = stopped (is_in_range (value_view v)) _ total beyond (here vs i v total lt is h)

pub items_end : (vs : List Tree) (i : ℕ) (total : Bool) → length vs ≤ i → are_in_range (trees_view (drop i vs)) ≡ total → true ≡ total
items_end vs i total le h = sym (ap (λ ys. are_in_range (trees_view ys)) (drop_of_length-le vs le)) ∙ h

-- ---- members

pub member_less : (es : List Entry) (i : ℕ) (e : Entry) → i < length es → e ≡ get_or es i e → length (json_tokens (value_view e.1)) < length (members_tokens (entries_view es))
member_less es i e lt is = subst (λ y. length (json_tokens (value_view y.1)) < length (members_tokens (entries_view es))) (sym is) (member_smaller es i e lt)

member_here : (es : List Entry) (i : ℕ) (e : Entry) (total : Bool) → i < length es → e ≡ get_or es i e → members_are_in_range (entries_view (drop i es)) ≡ total
    → (is_in_range (value_view e.1) && members_are_in_range (entries_view (drop (i + 1) es))) ≡ total
member_here es i e total lt is h = sym (ap (λ ys. members_are_in_range (entries_view ys)) (next es i e lt is)) ∙ h

pub member_passes : (es : List Entry) (i : ℕ) (e : Entry) (total : Bool) → i < length es → e ≡ get_or es i e → is_in_range (value_view e.1) ≡ true
    → members_are_in_range (entries_view (drop i es)) ≡ total → members_are_in_range (entries_view (drop (i + 1) es)) ≡ total
member_passes es i e total lt is within h = passed (is_in_range (value_view e.1)) _ total within (member_here es i e total lt is h)

pub member_stops : (es : List Entry) (i : ℕ) (e : Entry) (total : Bool) → i < length es → e ≡ get_or es i e → is_in_range (value_view e.1) ≡ false
    → members_are_in_range (entries_view (drop i es)) ≡ total → false ≡ total
member_stops es i e total lt is beyond h = stopped (is_in_range (value_view e.1)) _ total beyond (member_here es i e total lt is h)

pub members_end : (es : List Entry) (i : ℕ) (total : Bool) → length es ≤ i → members_are_in_range (entries_view (drop i es)) ≡ total → true ≡ total
members_end es i total le h = sym (ap (λ ys. members_are_in_range (entries_view ys)) (drop_of_length-le es le)) ∙ h

-- ---- members that are put into a map

abbrev Kept : Type 0
Kept = Bor (List ℕ) × Bor Tree

by_order : (o : Ordering) (a b c : List Kept) → members_view (match_ordering o a b c) ≡ match_ordering o (members_view a) (members_view b) (members_view c)
by_order Less a b c = refl
by_order Equal a b c = refl
by_order Greater a b c = refl

inserted : (es : List Kept) (k : Bor (List ℕ)) (v : Bor Tree) → members_view (insert_entry (λ x y. slice_cmp nat_cmp x.now y.now) es k v) ≡ put k.now (view v.now) (members_view es)
inserted [] k v = refl
inserted (e ∷ es) k v = by_order (slice_cmp nat_cmp k.now e.0.now) ((k, v) ∷ e ∷ es) ((e.0, v) ∷ es) (e ∷ insert_entry (λ x y. slice_cmp nat_cmp x.now y.now) es k v) ∙ rw (inserted es k v) refl

pub put_next : (es : List Entry) (i : ℕ) (e : Entry) (k : Bor (List ℕ)) (v : Bor Tree) (old new : List Kept) (total : Members) → i < length es → e ≡ get_or es i e → k.now ≡ e.0.now → v.now ≡ e.1
    → new ≡ insert_entry (λ x y. slice_cmp nat_cmp x.now y.now) old k v → members_of (entries_view (drop i es)) (members_view old) ≡ total
    → members_of (entries_view (drop (i + 1) es)) (members_view new) ≡ total
put_next es i e k v old new total lt is key value grown h =
    let put_in : members_view new ≡ put e.0.now (view e.1) (members_view old) = ap members_view grown ∙ inserted old k v ∙ rw (key, value) refl in
    let turn : members_of (entries_view (drop i es)) (members_view old) ≡ members_of (entries_view (drop (i + 1) es)) (put e.0.now (view e.1) (members_view old)) =
    ap (λ ys. members_of (entries_view ys) (members_view old)) (next es i e lt is) in
    ap (members_of (entries_view (drop (i + 1) es))) put_in ∙ sym turn ∙ h

pub put_all : (es : List Entry) (i : ℕ) (old : List Kept) (total : Members) → length es ≤ i → members_of (entries_view (drop i es)) (members_view old) ≡ total → members_view old ≡ total
put_all es i old total le h = sym (ap (λ ys. members_of (entries_view ys) (members_view old)) (drop_of_length-le es le)) ∙ h
