-- How many plugins are left.
use Rattle.std.proofs.Common.{◌≡◌, ℕ, ◌+◌, ◌<◌, cond, Option, Some, None, is_none, List, length, get_or, set, count_by, arith}
use Rattle.std.proofs.lemmas.List.Sums.{sum_by-set}

-- one fewer is left once a place is filled
pub count_none-set : (hs : List (Option ℕ)) (i x : ℕ) → i < length hs → get_or hs i None ≡ None
    → count_by is_none (set hs i (Some x)) + 1 ≡ count_by is_none hs
count_none-set hs i x h n =
    let s = rw n at (sum_by-set (λ (o : Option ℕ). cond (is_none o) 1 0) hs i (Some x) None h) in omega (arith, s)
