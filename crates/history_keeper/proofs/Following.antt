-- A row that goes on with a history clashes with none of its rows.
use Rattle.std.proofs.Common.{◌≡◌, ℕ, Bool, true, false, ◌&&◌, ◌||◌, ◌+◌, cond, List, [], ◌∷◌, ◌++◌, length, map, filter, Any, refl, sym, ap, ◌∙◌, inl, inr, MatchBool}
use Rattle.std.specs.Bool.{OnTrue}
use Rattle.std.specs.Prelude.{Option, Some, None, nat_eq, option_map, unwrap_or}
use Rattle.std.specs.Option.{option_to_list}
use Rattle.std.specs.List.{list_any}
use Rattle.std.specs.Str.{bytes_eq}
use Rattle.std.specs.Cmp.Lexicographic.{bytes_decides}
use Rattle.std.proofs.lemmas.Bool.{eqb-true, eq-eqb, and_parts, not-true, and_from, not-false}
use Rattle.std.proofs.lemmas.List.Elements.{filter_map-append}
use Rattle.std.proofs.lemmas.List.Folds.{Any-from_list_any, list_any-from_Any}
use Rattle.history_keeper.specs.declared.row.Row.{Row}
use Rattle.history_keeper.specs.Histories.{is_unsettled, is_untried, Clashes, Follows, GoesOn, IsFailure, IsLinked, Links, retried_of, tags_of, waiting_of}

pub list_any-map : {X Y : Type 0} (f : X → Y) (p : Y → Bool) (xs : List X) → list_any p (map f xs) ≡ list_any (λ x. p (f x)) xs
list_any-map f p [] = refl
list_any-map f p (x ∷ xs) = ap (λ b. p (f x) || b) (list_any-map f p xs)

pub list_any-filter : {X : Type 0} (keep p : X → Bool) (xs : List X) → list_any p (filter keep xs) ≡ list_any (λ x. keep x && p x) xs
list_any-filter keep p [] = refl
list_any-filter {X} keep p (x ∷ xs) =
    elim (keep x) as (λ b. list_any p (cond b (x ∷ filter keep xs) (filter keep xs)) ≡ ((b && p x) || list_any (λ (y : X). keep y && p y) xs)) [
      | true ↦ ap (λ b. p x || b) (list_any-filter keep p xs)
      | false ↦ list_any-filter keep p xs
    ]

-- A row with the same tag, or of the same waiting device.
pub has_tag : (rows : List Row) (row : Row) → list_any (bytes_eq row.tag) (tags_of rows) ≡ list_any (λ (r : Row). bytes_eq row.tag r.tag) rows
has_tag rows row = list_any-map (λ (r : Row). r.tag) (bytes_eq row.tag) rows

pub has_device : (rows : List Row) (row : Row) → list_any (bytes_eq row.device) (waiting_of rows) ≡ list_any (λ (r : Row). is_unsettled r.state && bytes_eq row.device r.device) rows
has_device rows row = list_any-map (λ (r : Row). r.device) (bytes_eq row.device) (filter (λ (r : Row). is_unsettled r.state) rows) ∙ list_any-filter (λ (r : Row). is_unsettled r.state) (λ (r : Row). bytes_eq row.device r.device) rows

-- The row tries again what the test passes.
abbrev pub is_tried : (ℕ → Bool) → Row → Bool
is_tried p r = unwrap_or (option_map p r.retry_of) false

-- A row that tries an entry again.
pub has_entry : (p : ℕ → Bool) (rows : List Row) → list_any p (retried_of rows) ≡ list_any (is_tried p) rows
has_entry p [] = refl
has_entry p (r ∷ rows) = at r.retry_of (has_entry p rows) refl
  where
    at : (o : Option ℕ) → list_any p (retried_of rows) ≡ list_any (is_tried p) rows → r.retry_of ≡ o → list_any p (retried_of (r ∷ rows)) ≡ list_any (is_tried p) (r ∷ rows)
    at None rest e = rw e rest
    at (Some n) rest e = rw e (ap (λ b. p n || b) rest)

tried-by : (p : ℕ → Bool) (r : Row) (e : ℕ) → r.retry_of ≡ Some e → p e ≡ true → is_tried p r ≡ true
tried-by p r e is t = rw is t

-- Which entry a row tries again that passes the test.
tried-of : (entry : ℕ) (o : Option ℕ) → unwrap_or (option_map (nat_eq entry) o) false ≡ true → o ≡ Some entry
tried-of entry None h = cc
tried-of entry (Some n) h = ap Some (sym (eqb-true entry n h))

-- A row that goes on clashes with none.
pub free : (rows : List Row) (row : Row) → GoesOn rows (tags_of rows) (waiting_of rows) (retried_of rows) row → Clashes rows row → ⊥
free rows row g (k, x, within, here, inl same) =
    let f = g.follows in
    let yes : list_any (λ (r : Row). bytes_eq row.tag r.tag) rows ≡ true = list_any-from_Any (λ (r : Row). bytes_eq row.tag r.tag) rows (k, x, within, here, (bytes_decides row.tag x.tag).1 (sym same)) in
    let no : list_any (λ (r : Row). bytes_eq row.tag r.tag) rows ≡ false = sym (has_tag rows row) ∙ f.tag in
    cc
free rows row g (k, x, within, here, inr (inl both)) =
    let f = g.follows in
    let yes : list_any (λ (r : Row). is_unsettled r.state && bytes_eq row.device r.device) rows ≡ true = list_any-from_Any (λ (r : Row). is_unsettled r.state && bytes_eq row.device r.device) rows (k, x, within, here, and_from _ _ both.1 ((bytes_decides row.device x.device).1 (sym both.0))) in
    let no : (is_unsettled row.state && list_any (λ (r : Row). is_unsettled r.state && bytes_eq row.device r.device) rows) ≡ false = ap (λ b. is_unsettled row.state && b) (sym (has_device rows row)) ∙ f.device in
    let true_too : (is_unsettled row.state && list_any (λ (r : Row). is_unsettled r.state && bytes_eq row.device r.device) rows) ≡ true = and_from _ _ both.2 yes in
    cc
free rows row g (k, x, within, here, inr (inr (entry, a, b))) =
    let l = g.links in
    let yes : list_any (is_tried (nat_eq entry)) rows ≡ true = list_any-from_Any (is_tried (nat_eq entry)) rows (k, x, within, here, tried-by (nat_eq entry) x entry a (eq-eqb entry entry refl)) in
    let untried : is_untried (retried_of rows) (Some entry) ≡ true = ap (is_untried (retried_of rows)) (sym b) ∙ l.untried in
    let no : list_any (is_tried (nat_eq entry)) rows ≡ false = sym (has_entry (nat_eq entry) rows) ∙ not-true (list_any (nat_eq entry) (retried_of rows)) untried in
    cc

-- The entry that a row tries again is tried by a row before it.
retry_clash : (rows : List Row) (row : Row) (o : Option ℕ) → row.retry_of ≡ o → is_untried (retried_of rows) o ≡ false → Clashes rows row
retry_clash rows row None e h = cc
retry_clash rows row (Some entry) e h =
    let some : Any (λ (r : Row). is_tried (nat_eq entry) r ≡ true) rows = Any-from_list_any (is_tried (nat_eq entry)) rows (sym (has_entry (nat_eq entry) rows) ∙ not-false (list_any (nat_eq entry) (retried_of rows)) h) in
    (some.0, some.1, some.2, some.3, inr (inr (entry, tried-of entry some.1.retry_of some.4, e)))

-- A row with the next entry, linked to the rows, that doesn't go on clashes with one.
pub clash : (rows : List Row) (row : Row) → (GoesOn rows (tags_of rows) (waiting_of rows) (retried_of rows) row → ⊥) → row.entry ≡ length rows + 1 → IsLinked rows row → Clashes rows row
clash rows row odds entry link =
    by_tag (list_any (bytes_eq row.tag) (tags_of rows)) (is_unsettled row.state && list_any (bytes_eq row.device) (waiting_of rows)) (is_untried (retried_of rows) row.retry_of) refl refl refl
  where
    by_tag : (t d u : Bool) → list_any (bytes_eq row.tag) (tags_of rows) ≡ t → (is_unsettled row.state && list_any (bytes_eq row.device) (waiting_of rows)) ≡ d → is_untried (retried_of rows) row.retry_of ≡ u → Clashes rows row
    by_tag true d u h k l =
        let some : Any (λ (r : Row). bytes_eq row.tag r.tag ≡ true) rows = Any-from_list_any (λ (r : Row). bytes_eq row.tag r.tag) rows (sym (has_tag rows row) ∙ h) in
        (some.0, some.1, some.2, some.3, inl (sym ((bytes_decides row.tag some.1.tag).0 some.4)))
    by_tag false true u h k l =
        let parts : (is_unsettled row.state ≡ true) × (list_any (bytes_eq row.device) (waiting_of rows) ≡ true) = and_parts _ _ k in
        let some : Any (λ (r : Row). is_unsettled r.state && bytes_eq row.device r.device ≡ true) rows = Any-from_list_any (λ (r : Row). is_unsettled r.state && bytes_eq row.device r.device) rows (sym (has_device rows row) ∙ parts.1) in
        let two : (is_unsettled some.1.state ≡ true) × (bytes_eq row.device some.1.device ≡ true) = and_parts _ _ some.4 in
        (some.0, some.1, some.2, some.3, inr (inl (sym ((bytes_decides row.device some.1.device).0 two.1), two.0, parts.0)))
    by_tag false false false h k l = retry_clash rows row row.retry_of refl l
    by_tag false false true h k l =
        absurd (odds (record { follows = record { entry = entry; tag = h; device = k }; links = record { linked = link; untried = l } }))

-- A row that follows goes on where it links, and one that is linked links where no other one tries the same again.
pub goes-with : (before : List Row) (tags waiting : List (List ℕ)) (retried : List ℕ) (row : Row) → Follows tags waiting (length before + 1) row → (b : Bool) → MatchBool b (Links before retried row) (Links before retried row → ⊥) → MatchBool b (GoesOn before tags waiting retried row) (GoesOn before tags waiting retried row → ⊥)
goes-with before tags waiting retried row f true l = record { follows = f; links = l }
goes-with before tags waiting retried row f false l = λ g. l g.links

pub links-with : (before : List Row) (retried : List ℕ) (row : Row) → IsLinked before row → (b : Bool) → b ≡ is_untried retried row.retry_of → MatchBool b (Links before retried row) (Links before retried row → ⊥)
links-with before retried row linked true e = record { linked = linked; untried = sym e }
links-with before retried row linked false e = λ l.
    let bad : false ≡ true = e ∙ l.untried in cc

-- Where a row tries none again, it is linked; where it tries one, that is looked for.
pub linked-none : (before : List Row) (row : Row) (o : Option ℕ) → row.retry_of ≡ o → o ≡ None → IsLinked before row
linked-none before row None e n = rw e tt
linked-none before row (Some entry) e n = cc

pub linked-some : (before : List Row) (row : Row) (entry : ℕ) (b : Bool) → row.retry_of ≡ Some entry → MatchBool b (Any (IsFailure entry row.device) before) (Any (IsFailure entry row.device) before → ⊥) → MatchBool b (IsLinked before row) (IsLinked before row → ⊥)
linked-some before row entry b e h = rw e h

-- What is known of the lists as they were noted is known of the rows.
pub moved : (rows : List Row) (t t' w w' : List (List ℕ)) (s s' : List ℕ) (r r' : Row) → t ≡ t' → w ≡ w' → s ≡ s' → r ≡ r' → GoesOn rows t w s r → GoesOn rows t' w' s' r'
moved rows t t' w w' s s' r r' e f g i h = rw (← e, ← f, ← g, ← i) h

pub yes_from : (b : Bool) (P : Type 0) → MatchBool b P (P → ⊥) → b ≡ true → P
yes_from true P h e = h
yes_from false P h e = cc

pub no_from : (b : Bool) (P : Type 0) → MatchBool b P (P → ⊥) → b ≡ false → P → ⊥
no_from true P h e = cc
no_from false P h e = h

pub on_true : (b : Bool) (P : Type 0) → OnTrue b P → b ≡ true → P
on_true true P h e = h
on_true false P h e = cc

-- The devices that wait, with one row more.
pub waiting_more : (rows : List Row) (row : Row) → waiting_of (rows ++ row ∷ []) ≡ cond (is_unsettled row.state) (waiting_of rows ++ row.device ∷ []) (waiting_of rows)
waiting_more [] row =
    elim (is_unsettled row.state) as (λ b. map (λ (r : Row). r.device) (cond b (row ∷ []) []) ≡ cond b (row.device ∷ []) []) [ true ↦ refl | false ↦ refl ]
waiting_more (first ∷ rows) row =
    let rest : waiting_of (rows ++ row ∷ []) ≡ cond (is_unsettled row.state) (waiting_of rows ++ row.device ∷ []) (waiting_of rows) = waiting_more rows row in
    elim (is_unsettled first.state) as (λ b. map (λ (r : Row). r.device) (cond b (first ∷ filter (λ (r : Row). is_unsettled r.state) (rows ++ row ∷ [])) (filter (λ (r : Row). is_unsettled r.state) (rows ++ row ∷ []))) ≡ cond (is_unsettled row.state) (map (λ (r : Row). r.device) (cond b (first ∷ filter (λ (r : Row). is_unsettled r.state) rows) (filter (λ (r : Row). is_unsettled r.state) rows)) ++ row.device ∷ []) (map (λ (r : Row). r.device) (cond b (first ∷ filter (λ (r : Row). is_unsettled r.state) rows) (filter (λ (r : Row). is_unsettled r.state) rows)))) [
      | true ↦ ap (λ (ds : List (List ℕ)). first.device ∷ ds) rest ∙ pulled (is_unsettled row.state)
      | false ↦ rest
    ]
  where
    pulled : (b : Bool) → first.device ∷ cond b (waiting_of rows ++ row.device ∷ []) (waiting_of rows) ≡ cond b (first.device ∷ waiting_of rows ++ row.device ∷ []) (first.device ∷ waiting_of rows)
    pulled true = refl
    pulled false = refl

-- The entries that are tried again, with one row more.
pub retried_more : (rows : List Row) (row : Row) → retried_of (rows ++ row ∷ []) ≡ retried_of rows ++ option_to_list row.retry_of
retried_more rows row = filter_map-append (λ (r : Row). r.retry_of) rows (row ∷ []) ∙ ap (λ (es : List ℕ). retried_of rows ++ es) (alone row.retry_of refl)
  where
    alone : (o : Option ℕ) → row.retry_of ≡ o → retried_of (row ∷ []) ≡ option_to_list row.retry_of
    alone None e = rw e refl
    alone (Some n) e = rw e refl
