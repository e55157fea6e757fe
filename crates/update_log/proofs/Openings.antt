-- Valid histories, and tags that differ, in the form that an induction takes.
use Rattle.std.proofs.Common.{◌≡◌, ◌≢◌, ℕ, zero, suc, true, false, List, [], ◌∷◌, map, refl, ◌<◌, ◌+◌, arith, length}
use Rattle.std.specs.Prelude.{AllPairs, EachIndex, slice_index, slice_index_or}
use Rattle.std.specs.List.{AllByRecursion, IsDistinct}
use Rattle.std.specs.Str.{bytes_eq}
use Rattle.std.specs.Cmp.Lexicographic.{bytes_decides}
use Rattle.history_keeper.specs.Histories.{IsHistory}
use Rattle.history_keeper.specs.declared.row.Row.{Row}
use Rattle.update_log.proofs.Lists.{by_test}

-- The entries count from a number.
abbrev pub EntriesFrom : ℕ → List Row → Type 0
EntriesFrom n [] = Unit {0}
EntriesFrom n (row ∷ rows) = (row.entry ≡ n) × EntriesFrom (n + 1) rows

pub entries-from : (n : ℕ) (rows : List Row) → EachIndex rows (λ k. slice_index (map (λ row. row.entry) rows) k ≡ k + n) → EntriesFrom n rows
entries-from n [] h = tt
entries-from n (r ∷ rows) h = (
  let first : r.entry ≡ 0 + n = h 0 (omega arith) in omega arith,
  entries-from (n + 1) rows (λ k l. let next : slice_index (map (λ row. row.entry) rows) k ≡ suc k + n = h (suc k) (omega arith) in omega arith),
)

-- Two lists of bytes that pass the test are one.
pub bytes-same : (a b : List ℕ) → bytes_eq a b ≡ true → a ≡ b
bytes-same a b h = (bytes_decides a b).0 h

pub bytes-self : (a : List ℕ) → bytes_eq a a ≡ true
bytes-self a = (bytes_decides a a).1 refl

pub bytes-differ : (a b : List ℕ) → a ≢ b → bytes_eq a b ≡ false
bytes-differ a b h = by_test (bytes_eq a b) _ (λ t. absurd (h (bytes-same a b t))) (λ t. t)

differs-from : (tag : List ℕ) (rows : List Row) → ((j : ℕ) (d : Row) → j < length rows → tag ≢ (slice_index_or rows j d).tag) → AllByRecursion (λ other. bytes_eq tag other ≡ false) (map (λ r. r.tag) rows)
differs-from tag [] h = tt
differs-from tag (r ∷ rows) h =
    (bytes-differ tag r.tag (h 0 r (omega arith)), differs-from tag rows (λ j d l. h (suc j) d (omega arith)))

pub distinct-tags : (rows : List Row) → AllPairs (λ a b. a.tag ≢ b.tag) rows → IsDistinct bytes_eq (map (λ r. r.tag) rows)
unfolding IsDistinct
distinct-tags [] h = tt
distinct-tags (r ∷ rows) h = (
  differs-from r.tag rows (λ j d l. h 0 (suc j) d (omega arith) (omega arith)),
  distinct-tags rows (λ i j d l m. h (suc i) (suc j) d (omega arith) (omega arith)),
)

differs-at : (tag : List ℕ) (rows : List Row) (j : ℕ) (d : Row) → AllByRecursion (λ other. bytes_eq tag other ≡ false) (map (λ r. r.tag) rows) → j < length rows → bytes_eq tag (slice_index_or rows j d).tag ≡ false
differs-at tag [] j d a l = absurd (omega arith)
differs-at tag (r ∷ rows) zero d a l = a.0
differs-at tag (r ∷ rows) (suc j) d a l = differs-at tag rows j d a.1 (omega arith)

not-one : (a b : List ℕ) → bytes_eq a b ≡ false → a ≢ b
not-one a b h e = let t : bytes_eq a b ≡ true = (bytes_decides a b).1 e in cc

differ-at : (rows : List Row) (i j : ℕ) (d : Row) → IsDistinct bytes_eq (map (λ r. r.tag) rows) → i < j → j < length rows → (slice_index_or rows i d).tag ≢ (slice_index_or rows j d).tag
unfolding IsDistinct
differ-at [] i j d h l m = absurd (omega arith)
differ-at (r ∷ rows) i zero d h l m = absurd (omega arith)
differ-at (r ∷ rows) zero (suc j) d h l m = not-one r.tag (slice_index_or rows j d).tag (differs-at r.tag rows j d h.0 (omega arith))
differ-at (r ∷ rows) (suc i) (suc j) d h l m = differ-at rows i j d h.1 (omega arith) (omega arith)

pub tags-differ : (rows : List Row) → IsDistinct bytes_eq (map (λ r. r.tag) rows) → AllPairs (λ a b. a.tag ≢ b.tag) rows
tags-differ rows h = λ i j d l m. differ-at rows i j d h l m

pub no-history : IsHistory []
no-history =
    record {
      entries = λ k lt. absurd (omega arith);
      tags = λ i j d l m. absurd (omega arith);
      unsettled = λ i j d l m. absurd (omega arith);
      linked = λ at row there. cc;
      retried = λ i j d l m. absurd (omega arith);
    }
