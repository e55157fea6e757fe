-- The first 64 of a list.
use Rattle.std.proofs.Common.{◌≡◌, ℕ, ◌==◌, false, ◌-◌, ◌<◌, ◌≤◌, arith, List, ◌++◌, length, reverse, take, ◌⊎◌, inl, inr, sym, ap, ◌∙◌, append_assoc}
use Rattle.std.specs.Prelude.{min}
use Rattle.std.specs.List.{flat_map}
use Rattle.std.proofs.lemmas.List.{length-reverse, take_all}
use Rattle.client_scripts.specs.Replies.{at_most_64, left_out}

few-or-many : (n : ℕ) → (n ≤ 64) ⊎ (64 < n)
few-or-many n = grind arith

cut-64 : {X : Type 0} (line : X → List ℕ) (xs : List X) (n : ℕ) → n ≡ min (length xs) 64
    → flat_map line (take n xs) ++ left_out (length xs - n) ≡ flat_map line (take 64 xs) ++ left_out (length xs - 64)
cut-64 {X} line xs n e = elim (few-or-many (length xs)) [
  | inl few ↦
      let all : take n xs ≡ xs = take_all n xs (omega arith) in
      let same : take 64 xs ≡ xs = take_all 64 xs few in
      let left : length xs - n ≡ length xs - 64 = omega arith in
      ap (λ (ys : List X). flat_map line ys ++ left_out (length xs - n)) (all ∙ sym same) ∙ ap (λ (m : ℕ). flat_map line (take 64 xs) ++ left_out m) left
  | inr many ↦
      let is : n ≡ 64 = omega arith in
      ap (λ (m : ℕ). flat_map line (take m xs) ++ left_out (length xs - m)) is
]

pub listed-64 : {X : Type 0} (line : X → List ℕ) (xs : List X) (n : ℕ) (old one two : List ℕ) → (length xs == 0) ≡ false → n ≡ min (length xs) 64
    → one ≡ old ++ flat_map line (take n xs) → two ≡ one ++ left_out (length xs - n) → two ≡ old ++ at_most_64 line xs
listed-64 line xs n old one two some e h k =
    let all : two ≡ old ++ (flat_map line (take 64 xs) ++ left_out (length xs - 64)) =
    k ∙ ap (λ (t : List ℕ). t ++ left_out (length xs - n)) h ∙ append_assoc old (flat_map line (take n xs)) (left_out (length xs - n)) ∙ ap (λ (t : List ℕ). old ++ t) (cut-64 line xs n e) in
    rw some all

-- The same of a list from its end.
pub newest-64 : {X : Type 0} (line : X → List ℕ) (xs : List X) (n : ℕ) (old one two : List ℕ) → (length xs == 0) ≡ false → n ≡ min (length xs) 64
    → one ≡ old ++ flat_map line (take n (reverse xs)) → two ≡ one ++ left_out (length xs - n) → two ≡ old ++ at_most_64 line (reverse xs)
newest-64 line xs n old one two some e h k =
    let same : length (reverse xs) ≡ length xs = length-reverse xs in
    listed-64 line (reverse xs) n old one two
    (ap (λ (m : ℕ). m == 0) same ∙ some) (e ∙ ap (λ (m : ℕ). min m 64) (sym same)) h (k ∙ ap (λ (m : ℕ). one ++ left_out (m - n)) (sym same))
