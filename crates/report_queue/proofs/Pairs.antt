-- Relations between the elements of lists that are joined, mapped or cut.
use Rattle.std.proofs.Common.{suc, arith, List, [], ◌∷◌, ◌++◌, map}
use Rattle.std.specs.Prelude.{All, AllPairs}
use Rattle.std.proofs.lemmas.List.Elements.{All-append, All-map, All-head, All-tail}
use Rattle.std.proofs.lemmas.List.Kept.{AllPairs-cons}

module _ {X : Type 0} (R : X → X → Type 0) where
  pub pairs_none : AllPairs R []
  pairs_none i j d before within = absurd (omega arith)

  pub pairs_head : (x : X) (xs : List X) → AllPairs R (x ∷ xs) → All (R x) xs
  pairs_head x xs h k d within = h 0 (suc k) d (omega arith) (omega arith)

  pub pairs_tail : (x : X) (xs : List X) → AllPairs R (x ∷ xs) → AllPairs R xs
  pairs_tail x xs h i j d before within = h (suc i) (suc j) d (omega arith) (omega arith)

  pub pairs_append : (xs ys : List X) → AllPairs R xs → AllPairs R ys → All (λ x. All (R x) ys) xs → AllPairs R (xs ++ ys)
  pairs_append [] ys a b cross = b
  pairs_append (x ∷ xs) ys a b cross =
      AllPairs-cons R x (xs ++ ys)
      (All-append (R x) xs ys (pairs_head x xs a) (All-head (λ (y : X). All (R y) ys) x xs cross))
      (pairs_append xs ys (pairs_tail x xs a) b (All-tail (λ (y : X). All (R y) ys) x xs cross))

  pub pairs_map : {Y : Type 0} (f : Y → X) (ys : List Y) → AllPairs (λ a b. R (f a) (f b)) ys → AllPairs R (map f ys)
  pairs_map f [] h = pairs_none
  pairs_map {Y} f (y ∷ ys) h =
      AllPairs-cons R (f y) (map f ys)
      (All-map (R (f y)) f ys (λ k d within. h 0 (suc k) d (omega arith) (omega arith)))
      (pairs_map f ys (λ i j d before within. h (suc i) (suc j) d (omega arith) (omega arith)))
