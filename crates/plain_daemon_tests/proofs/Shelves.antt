-- How many clients the shelves of a campaign serve.
use Rattle.std.proofs.Common.{◌≡◌, ◌≤◌, List, All, length, map, sym, ◌∙◌, subst, arith}
use Rattle.std.proofs.lemmas.List.{length-map}

-- One shelf is enough for scripts of one client each.
pub one-serves : {S T I : Type 0} (told : S → T) (shelves : List S) (now scripts : List (List I)) → now ≡ scripts → length shelves ≡ 1 → All (λ of_boot. length of_boot ≡ 1) scripts → All (λ of_boot. length of_boot ≤ length (map told shelves)) now
one-serves told shelves now scripts e one all =
    subst (λ (xs : List (List _)). All (λ of_boot. length of_boot ≤ length (map told shelves)) xs) (sym e)
    (λ k d h. let n : length (map told shelves) ≡ 1 = length-map shelves told ∙ one in let m = all k d h in omega (arith, n, m))
