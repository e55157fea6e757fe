-- Seats are sorted as their plugins are.
use Rattle.std.proofs.Common.{◌≡◌, ℕ, ◌+◌, ◌<◌, ◌≤◌, inl, inr, false, List, [], ◌∷◌, ◌++◌, length, map, get_or, slice_index, All, IsPermutation, refl, sym, ap, ◌∙◌, subst, arith}
use Rattle.std.specs.declared.cmp.Ordering.{Ordering}
use Rattle.std.specs.declared.cmp.Ordering.TheVariants.{Less, Equal}
use Rattle.std.specs.Ordering.{nat_cmp, ordering_then, is_lt}
use Rattle.std.specs.Cmp.Lexicographic.{slice_cmp}
use Rattle.std.specs.List.{range_with_len}
use Rattle.std.proofs.lemmas.List.{map-append, length-map, get_or-map}
use Rattle.std.proofs.lemmas.List.FromFn.{map-range_with_len_more, length-range_with_len, get_or-range_with_len}
use Rattle.std.proofs.lemmas.List.Sorted.{IsPermutation-map, All-permutation}
use Rattle.std.proofs.lemmas.Option.{slice_get_cases}
use Rattle.plugin_order.specs.declared.seats.Seat.{Seat}
use Rattle.plugin_order.specs.declared.sheet.PluginSheet.{PluginSheet}
use Rattle.plugin_order.specs.Sheets.{name_at}
use Rattle.plugin_order.specs.Arranged.{by_place, IsInOrder}

-- a seat has the place and the name of its plugin
pub record SeatFits (sheets : List PluginSheet) (places : List ℕ) (s : Seat) : Type 0 where
  pub place : s.place ≡ slice_index places s.plugin
  pub name : s.name.now ≡ name_at sheets s.plugin

-- one more number of a range
range_more : (a n : ℕ) → range_with_len a (n + 1) ≡ range_with_len a n ++ (a + n) ∷ []
range_more a n = sym (map_same (range_with_len a (n + 1))) ∙ map-range_with_len_more (λ k. k) a n (a + n) refl
    ∙ ap (λ (xs : List ℕ). xs ++ (a + n) ∷ []) (map_same (range_with_len a n))
  where
    map_same : (xs : List ℕ) → map (λ k. k) xs ≡ xs
    map_same [] = refl
    map_same (x ∷ xs) = ap (λ (ys : List ℕ). x ∷ ys) (map_same xs)

pub numbers_more : (seats : List Seat) (s : Seat) (p : ℕ) → map (λ (s : Seat). s.plugin) seats ≡ range_with_len 0 p → s.plugin ≡ p
    → map (λ (s : Seat). s.plugin) (seats ++ s ∷ []) ≡ range_with_len 0 (p + 1)
numbers_more seats s p h e =
    map-append (λ (s : Seat). s.plugin) seats (s ∷ [])
    ∙ ap (λ (xs : List ℕ). xs ++ s.plugin ∷ []) h
    ∙ ap (λ (n : ℕ). range_with_len 0 p ++ n ∷ []) (let z : s.plugin ≡ 0 + p = omega arith in z)
    ∙ sym (range_more 0 p)

shorter : (a b c : Ordering) → is_lt (ordering_then a (ordering_then b c)) ≡ false → is_lt (ordering_then a b) ≡ false
shorter Less b c h = h
shorter Equal Less c h = h
shorter _ _ c h = refl

by_fits : (sheets : List PluginSheet) (places : List ℕ) (s t : Seat) → SeatFits sheets places s → SeatFits sheets places t
    → is_lt (ordering_then (nat_cmp s.place t.place) (ordering_then (slice_cmp nat_cmp s.name.now t.name.now) (nat_cmp s.plugin t.plugin))) ≡ false
    → is_lt (by_place sheets places s.plugin t.plugin) ≡ false
by_fits sheets places s t fs ft h =
    let P : ℕ → ℕ → List ℕ → List ℕ → Type 0 = λ a b c d. is_lt (ordering_then (nat_cmp a b) (slice_cmp nat_cmp c d)) ≡ false in
    let here : P s.place t.place s.name.now t.name.now = shorter (nat_cmp s.place t.place) _ _ h in
    subst (λ (d : List ℕ). P (slice_index places s.plugin) (slice_index places t.plugin) (name_at sheets s.plugin) d) ft.name
    (subst (λ (c : List ℕ). P (slice_index places s.plugin) (slice_index places t.plugin) c t.name.now) fs.name
    (subst (λ (b : ℕ). P (slice_index places s.plugin) b s.name.now t.name.now) ft.place
    (subst (λ (a : ℕ). P a t.place s.name.now t.name.now) fs.place here)))

abbrev pub seat_cmp : Seat → Seat → Ordering
seat_cmp s t = ordering_then (nat_cmp s.place t.place) (ordering_then (slice_cmp nat_cmp s.name.now t.name.now) (nat_cmp s.plugin t.plugin))

-- the plugins of the sorted seats are in order
pub seats_in_order : (sheets : List PluginSheet) (places : List ℕ) (seats sorted : List Seat)
    → map (λ (s : Seat). s.plugin) seats ≡ range_with_len 0 (length sheets) → All (SeatFits sheets places) seats
    → IsPermutation seats sorted
    → ((k : ℕ) (d : Seat) → 0 ≤ k → k + 1 < length sorted → is_lt (seat_cmp (get_or sorted (k + 1) d) (get_or sorted k d)) ≡ false)
    → IsInOrder sheets places (map (λ (s : Seat). s.plugin) sorted)
seats_in_order sheets places seats sorted numbers fit moved up = record {
  once = (let P : List ℕ → Type 0 = λ xs. IsPermutation xs (map (λ (s : Seat). s.plugin) sorted) in
      subst P numbers (IsPermutation-map (λ (s : Seat). s.plugin) seats sorted moved));
  sorted = λ k d low high. (
      let lt : k + 1 < length sorted = simp length-map at high in
      let all : All (SeatFits sheets places) sorted = All-permutation (SeatFits sheets places) seats sorted moved fit in
      elim (slice_get_cases sorted k).1 [
        | inl w ↦ (
            let here : k < length sorted = omega arith in
            let f : ℕ → Seat = λ i. get_or sorted i w.0 in
            let e1 : get_or (map (λ (s : Seat). s.plugin) sorted) (k + 1) d ≡ (f (k + 1)).plugin = get_or-map (λ (s : Seat). s.plugin) sorted (k + 1) w.0 d lt in
            let e0 : get_or (map (λ (s : Seat). s.plugin) sorted) k d ≡ (f k).plugin = get_or-map (λ (s : Seat). s.plugin) sorted k w.0 d here in
            let b : is_lt (by_place sheets places (f (k + 1)).plugin (f k).plugin) ≡ false =
            by_fits sheets places (f (k + 1)) (f k) (all (k + 1) w.0 lt) (all k w.0 here) (up k w.0 low lt) in
            let P : ℕ → ℕ → Type 0 = λ a b. is_lt (by_place sheets places a b) ≡ false in
            subst (λ (a : ℕ). P a (get_or (map (λ (s : Seat). s.plugin) sorted) k d)) (sym e1)
            (subst (λ (b : ℕ). P (f (k + 1)).plugin b) (sym e0) b))
        | inr w ↦ absurd (let g : length sorted ≤ k = w.0 in omega arith)
      ]);
}

-- each plugin of an order has a sheet
pub order_within : (sheets : List PluginSheet) (places order : List ℕ) → IsInOrder sheets places order → All (λ p. p < length sheets) order
order_within sheets places order o =
    All-permutation (λ p. p < length sheets) (range_with_len 0 (length sheets)) order o.once
    (λ k d lt.
    let short : length (range_with_len 0 (length sheets)) ≡ length sheets = length-range_with_len 0 (length sheets) in
    let below : k < length sheets = omega arith in
    let e : get_or (range_with_len 0 (length sheets)) k d ≡ 0 + k = get_or-range_with_len 0 (length sheets) k d below in
    omega arith)
