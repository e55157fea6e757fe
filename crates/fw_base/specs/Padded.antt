-- Short texts kept in an array, with zeros behind them.
use Rattle.std.specs.Prelude.{◌≡◌, ℕ, ◌+◌, ◌-◌, ◌≤◌, min, List, ◌++◌, length, take, replicate, Result, Ok}
use Rattle.std.proofs.Common.{◌∙◌, sym, ap, arith, length-append}
use Rattle.std.proofs.lemmas.List.{length-take, length-replicate}

-- a text, and zeros up to the width
abbrev pub padded : ℕ → List ℕ → List ℕ
padded width text = text ++ replicate (width - length text) 0

-- the array is its first len bytes, and zeros
pub record IsPadded (width : ℕ) (bytes : List ℕ) (len : ℕ) : Type 0 where
  pub short : len ≤ width
  pub is : bytes ≡ padded width (take len bytes)

-- the array keeps a text that a reader takes, and gives back
pub record Keeps {F : Type 0} (read : List ℕ → Result (List ℕ) F) (width : ℕ) (bytes : List ℕ) (len : ℕ) : Type 0 where
  pub padded : IsPadded width bytes len
  pub accepted : read (take len bytes) ≡ Ok (take len bytes)

-- the text has the length that was kept
pub length_kept : (width : ℕ) (bytes : List ℕ) (len : ℕ) → IsPadded width bytes len → length (take len bytes) ≡ len
length_kept width bytes len h =
    let whole : length bytes ≡ length (take len bytes) + (width - length (take len bytes)) =
    ap length h.is ∙ length-append (take len bytes) (replicate (width - length (take len bytes)) 0)
    ∙ ap (λ n. length (take len bytes) + n) (length-replicate (width - length (take len bytes)) 0) in
    let front : length (take len bytes) ≡ min len (length bytes) = length-take len bytes in
    let short : len ≤ width = h.short in
    omega arith

-- an array and a length are given back by the text that they keep
pub kept_again : {X : Type 0} (make : List ℕ → ℕ → X) (width : ℕ) (bytes : List ℕ) (len : ℕ)
    → IsPadded width bytes len → make (padded width (take len bytes)) (length (take len bytes)) ≡ make bytes len
kept_again make width bytes len h =
    ap (λ (b : List ℕ). make b (length (take len bytes))) (sym h.is) ∙ ap (λ (n : ℕ). make bytes n) (length_kept width bytes len h)
