-- What came from a source, in pieces one behind the other.
use Rattle.std.proofs.Common.{◌≡◌, ℕ, ◌+◌, ◌≤◌, ◌<◌, arith, List, ◌++◌, length, take, drop, length-append, length-take, Option, Some, None, refl, sym, ap, ◌∙◌, append_assoc}
use Rattle.std.proofs.lemmas.List.{take-append-drop, drop-drop}
use Rattle.outer_traits.specs.Sources.{Came, SomeCame, MoreCame}

-- One piece, and then another.
pub came_more : (one two : List ℕ) (a b c : Option (List ℕ)) → Came one a b → Came two b c → Came (one ++ two) a c
came_more one two a b (Some rest) h k = rw (h, k) (ap Some (sym (append_assoc one two rest)))
came_more one two a b None h k = rw (h, k) refl

-- More bytes came than the limit, in two pieces.
pub more_came : (limit n : ℕ) (one two : List ℕ) (a b c : Option (List ℕ)) → Came one a b → Came (take n two) b c → n ≤ length two → limit < length one + n → MoreCame limit a c
more_came limit n one two a b c h k fits over = record {
  bytes = one ++ take n two;
  more = omega (arith, length-append one (take n two), length-take n two);
  came = came_more one (take n two) a b c h k;
}

pub some_came : (one two : List ℕ) (a b c : Option (List ℕ)) → Came one a b → Came two b c → SomeCame a c
some_came one two a b c h k = record { bytes = one ++ two; came = came_more one two a b c h k }

-- The same, from a place on.
pub left_from : (bytes : List ℕ) (at n : ℕ) → drop at bytes ≡ take n (drop at bytes) ++ drop (at + n) bytes
left_from bytes at n = sym (take-append-drop n (drop at bytes)) ∙ ap (λ (x : List ℕ). take n (drop at bytes) ++ x) (drop-drop n at bytes)
