-- What an index of references finds, told of the texts that they point to.
use Rattle.std.proofs.Common.{◌≡◌, ℕ, ◌+◌, ◌||◌, Bool, false, cond, not, List, [], ◌∷◌, ◌++◌, Bor, length, map, nat_lt, Some, None, refl, sym, ap, ◌∙◌}
use Rattle.std.specs.List.{list_any, position_or_len}
use Rattle.std.specs.Prelude.{position}
use Rattle.std.specs.Str.{bytes_eq}
use Rattle.std.proofs.lemmas.List.{length-map, map-append}

abbrev texts_of : List (Bor (List ℕ)) → List (List ℕ)
texts_of keys = map (λ (key : Bor (List ℕ)). key.now) keys

first_place : (q : List ℕ) (keys : List (Bor (List ℕ)))
    → position_or_len (λ (key : Bor (List ℕ)). bytes_eq q key.now) keys ≡ position_or_len (bytes_eq q) (map (λ (key : Bor (List ℕ)). key.now) keys)
first_place q [] = refl
first_place q (k ∷ keys) = ap (λ (n : ℕ). cond (not (bytes_eq q k.now)) (1 + n) 0) (first_place q keys)

-- the place of a text
pub place_of_text : (q : List ℕ) (keys : List (Bor (List ℕ)))
    → position (λ (key : Bor (List ℕ)). bytes_eq q key.now) keys ≡ position (bytes_eq q) (map (λ (key : Bor (List ℕ)). key.now) keys)
place_of_text q keys =
    let n : ℕ = position_or_len (bytes_eq q) (texts_of keys) in
    ap (λ (m : ℕ). cond (nat_lt m (length keys)) (Some m) None) (first_place q keys)
    ∙ ap (λ (m : ℕ). cond (nat_lt n m) (Some n) None) (sym (length-map keys (λ (key : Bor (List ℕ)). key.now)))

-- whether a text is there
pub any_text : (q : List ℕ) (keys : List (Bor (List ℕ)))
    → list_any (λ (key : Bor (List ℕ)). bytes_eq q key.now) keys ≡ list_any (bytes_eq q) (map (λ (key : Bor (List ℕ)). key.now) keys)
any_text q [] = refl
any_text q (k ∷ keys) = ap (λ (b : Bool). bytes_eq q k.now || b) (any_text q keys)

-- a text that isn't there comes last
pub added_text : (keys new : List (Bor (List ℕ))) (k : Bor (List ℕ)) → list_any (bytes_eq k.now) (map (λ (key : Bor (List ℕ)). key.now) keys) ≡ false
    → new ≡ cond (list_any (λ (key : Bor (List ℕ)). bytes_eq k.now key.now) keys) keys (keys ++ k ∷ [])
    → map (λ (key : Bor (List ℕ)). key.now) new ≡ map (λ (key : Bor (List ℕ)). key.now) keys ++ k.now ∷ []
added_text keys new k free is =
    let none : list_any (λ (key : Bor (List ℕ)). bytes_eq k.now key.now) keys ≡ false = any_text k.now keys ∙ free in
    ap texts_of (is ∙ ap (λ (b : Bool). cond b keys (keys ++ k ∷ [])) none) ∙ map-append (λ (key : Bor (List ℕ)). key.now) keys (k ∷ [])
