-- An index with one row more, and with another state of a row.
use Rattle.std.proofs.Common.{◌≡◌, ℕ, suc, Bool, true, false, ◌&&◌, List, [], ◌∷◌, ◌++◌, length, map, refl, ap, sym, ◌∙◌, ◌+◌, ◌⊎◌, inl, inr, subst}
use Rattle.std.proofs.lemmas.Option.{slice_get-map, same_Some}
use Rattle.std.proofs.lemmas.Bool.{and_parts, and_from}
use Rattle.std.specs.Prelude.{Result, Ok, Err, IsOk, OnOk, IfSome, Option, Some, None, ◌==◌, if◌then◌else◌, option_map, slice_get}
use Rattle.std.specs.Cmp.Lexicographic.{bytes_decides}
use Rattle.std.specs.List.{list_any}
use Rattle.std.specs.Str.{bytes_eq}
use Rattle.indexmap.specs.IndexMap.{IndexMap, get}
use Rattle.history_keeper.specs.declared.row.Row.{Row}
use Rattle.history_keeper.specs.declared.row.RowState.{RowState}
use Rattle.history_keeper.specs.Changes.{with_state}
use Rattle.history_keeper.specs.Histories.{is_unsettled}
use Rattle.row_index.specs.Rows.{has_tag, waits_on}
use Rattle.history_keeper.proofs.Numbered.{by_test, get-push, numbered-push}
use Rattle.row_index.specs.Indexes.{IsIndexOf, WaitsFromBefore, or_noted, place_of, row_at}
use Rattle.row_index.proofs.Places.{place-push}

bytes-symm : (a b : List ℕ) → bytes_eq a b ≡ true → bytes_eq b a ≡ true
bytes-symm a b h = (bytes_decides b a).1 (sym ((bytes_decides a b).0 h))

pub bytes-turned : (a b : List ℕ) → bytes_eq a b ≡ bytes_eq b a
bytes-turned a b =
    by_test (bytes_eq a b) _
    (λ t. t ∙ sym (bytes-symm a b t))
    (λ f. by_test (bytes_eq b a) _ (λ t. let bad : true ≡ false = sym (bytes-symm b a t) ∙ f in cc) (λ g. f ∙ sym g))

pub and-given : (a b : Bool) → a ≡ true → (a && b) ≡ b
and-given a b h = rw h refl

pub ok-then : {T E P : Type 0} (r : Result T E) → IsOk r → OnOk r P → P
ok-then (Ok x) h p = p
ok-then (Err e) h p = cc

pub some-at : {X : Type 0} (P : X → Type 0) (o : Option X) (x : X) → o ≡ Some x → IfSome o P → P x
some-at P None x e h = cc
some-at P (Some y) x e h = subst P (same_Some y x e) h

pub some-if : {X : Type 0} (P : X → Type 0) (o : Option X) → ((x : X) → o ≡ Some x → P x) → IfSome o P
some-if P None h = tt
some-if P (Some x) h = h x refl

-- the row at the place that is noted for its device
noted-waits : (rows : List Row) (device : List ℕ) (at : ℕ) (r : Row) (o : Option ℕ) → o ≡ Some at → slice_get rows at ≡ Some r → waits_on device r ≡ true → list_any (waits_on device) (row_at rows o) ≡ true
noted-waits rows device at r o e g w = rw (e, g, w) refl

map-place : (test : Row → Bool) (f : Row → Row) (rows : List Row) → ((r : Row) → test (f r) ≡ test r) → place_of test rows ≡ place_of test (map f rows)
map-place test f [] h = refl
map-place test f (r ∷ rows) h =
    let rest : place_of test rows ≡ place_of test (map f rows) = map-place test f rows h in
    by_test (test r) _
    (λ t. let u : test (f r) ≡ true = h r ∙ t in rw (t, u) refl)
    (λ t. let u : test (f r) ≡ false = h r ∙ t in rw (t, u) (ap (option_map suc) rest))

mapped : (f : Row → Row) (o : Option Row) (r : Row) → option_map f o ≡ Some r → (x : Row) × (o ≡ Some x) × (f x ≡ r)
mapped f None r h = cc
mapped f (Some x) r h = (x, refl, same_Some (f x) r h)

stated-same : (e : ℕ) (state : RowState) (reason time : ℕ) (r : Row) → ((with_state e state reason time r).entry ≡ r.entry) × ((with_state e state reason time r).tag ≡ r.tag) × ((with_state e state reason time r).device ≡ r.device)
stated-same e state reason time r = by_test (r.entry == e) _ (λ t. rw t (refl, refl, refl)) (λ t. rw t (refl, refl, refl))

module _ {S : Type 0} where
  pub one-more : (rows : List Row) (row : Row) (tags waiting tags' waiting' : IndexMap (List ℕ) ℕ S)
      → IsIndexOf rows tags waiting
      → row.entry ≡ length rows + 1
      → (is_unsettled row.state && list_any (waits_on row.device) (row_at rows (get bytes_eq waiting row.device))) ≡ false
      → ((other : List ℕ) → get bytes_eq tags' other ≡ or_noted (get bytes_eq tags other) (bytes_eq other row.tag) (length rows))
      → ((device : List ℕ) → get bytes_eq waiting' device ≡ (if is_unsettled row.state && bytes_eq device row.device then Some (length rows) else get bytes_eq waiting device))
      → IsIndexOf (rows ++ row ∷ []) tags' waiting'
  one-more rows row tags waiting tags' waiting' i next free t w =
      record {
        numbered = numbered-push rows row i.numbered next;
        of_tags = λ tag. t tag ∙ ap (λ o. or_noted o (bytes_eq tag row.tag) (length rows)) (i.of_tags tag) ∙ place-push (has_tag tag) rows row;
        of_devices = λ device at r g u. device-at device at r u (get-push rows row r at g);
      }
    where
      device-at : (device : List ℕ) (at : ℕ) (r : Row) → waits_on device r ≡ true → (slice_get rows at ≡ Some r) ⊎ ((at ≡ length rows) × (row ≡ r)) → get bytes_eq waiting' device ≡ Some at
      device-at device at r u (inr g) =
          let here : waits_on device row ≡ true = ap (waits_on device) g.1 ∙ u in
          let two = and_parts (bytes_eq row.device device) (is_unsettled row.state) here in
          let test : (is_unsettled row.state && bytes_eq device row.device) ≡ true = and_from _ _ two.1 (bytes-symm row.device device two.0) in
          w device ∙ rw test (ap Some (sym g.0))
      device-at device at r u (inl g) =
          let before : get bytes_eq waiting device ≡ Some at = i.of_devices device at r g u in
          by_test (is_unsettled row.state && bytes_eq device row.device) _
          (λ test. let two = and_parts (is_unsettled row.state) (bytes_eq device row.device) test in
          let same : device ≡ row.device = (bytes_decides device row.device).0 two.1 in
          let clash : list_any (waits_on row.device) (row_at rows (get bytes_eq waiting row.device)) ≡ true =
          subst (λ (d : List ℕ). list_any (waits_on d) (row_at rows (get bytes_eq waiting d)) ≡ true) same (noted-waits rows device at r (get bytes_eq waiting device) before g u) in
          let bad : (is_unsettled row.state && list_any (waits_on row.device) (row_at rows (get bytes_eq waiting row.device))) ≡ true = and_from _ _ two.0 clash in
          let worse : true ≡ false = sym bad ∙ free in cc)
          (λ test. w device ∙ rw test before)

  pub stated : (e : ℕ) (state : RowState) (reason time : ℕ) (rows : List Row) (tags waiting : IndexMap (List ℕ) ℕ S)
      → WaitsFromBefore (with_state e state reason time) rows
      → IsIndexOf rows tags waiting
      → IsIndexOf (map (with_state e state reason time) rows) tags waiting
  stated e state reason time rows tags waiting b i =
      let f : Row → Row = with_state e state reason time in
      record {
        numbered = λ at r g.
            let m = mapped (with_state e state reason time) (slice_get rows at) r (sym (slice_get-map (with_state e state reason time) rows at) ∙ g) in
            ap (λ (x : Row). x.entry) (sym m.2) ∙ (stated-same e state reason time m.0).0 ∙ i.numbered at m.0 m.1;
        of_tags = λ tag. i.of_tags tag ∙ map-place (has_tag tag) (with_state e state reason time) rows (λ r. ap (bytes_eq tag) (stated-same e state reason time r).1);
        of_devices = λ device at r g u.
            let m = mapped (with_state e state reason time) (slice_get rows at) r (sym (slice_get-map (with_state e state reason time) rows at) ∙ g) in
            let new : waits_on device (with_state e state reason time m.0) ≡ true = ap (waits_on device) m.2 ∙ u in
            let two = and_parts (bytes_eq (with_state e state reason time m.0).device device) (is_unsettled (with_state e state reason time m.0).state) new in
            let old : waits_on device m.0 ≡ true = and_from (bytes_eq m.0.device device) (is_unsettled m.0.state)
            (ap (λ d. bytes_eq d device) (sym (stated-same e state reason time m.0).2) ∙ two.0)
            (b at m.0 m.1 two.1) in
            i.of_devices device at m.0 m.1 old;
      }
