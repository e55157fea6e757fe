-- The least name, so far.
use Rattle.std.proofs.Common.{◌≡◌, ℕ, ◌+◌, ◌<◌, true, false, List, refl, below_more}
use Rattle.std.specs.declared.cmp.Ordering.{Ordering}
use Rattle.std.specs.declared.cmp.Ordering.TheVariants.{Less, Equal, Greater}
use Rattle.std.specs.Ordering.{nat_cmp, is_lt}
use Rattle.std.specs.Cmp.Lexicographic.{slice_cmp}
use Rattle.std.proofs.lemmas.Cmp.{nat_list_cmp_total, tied_itself}

is_less : (o : Ordering) → is_lt o ≡ true → o ≡ Less
is_less Less h = refl
is_less Equal h = cc
is_less Greater h = cc

not_less : (o : Ordering) → (o ≡ Less → ⊥) → is_lt o ≡ false
not_less Less h = absurd (h refl)
not_less Equal h = refl
not_less Greater h = refl

both : (o : Ordering) → o ≡ Less → is_lt o ≡ false → ⊥
both Less e h = true_false h
  where
    true_false : true ≡ false → ⊥
    true_false h = absurd (cc)
both Equal e h = absurd (cc)
both Greater e h = absurd (cc)

itself : (x : List ℕ) → is_lt (slice_cmp nat_cmp x x) ≡ false
itself x = rw (tied_itself nat_list_cmp_total x) refl

-- what is less than the least so far is the least then
pub least_more : (f : ℕ → List ℕ) (i at : ℕ) → is_lt (slice_cmp nat_cmp (f i) (f at)) ≡ true
    → ((k : ℕ) → k < i → is_lt (slice_cmp nat_cmp (f k) (f at)) ≡ false)
    → (k : ℕ) → k < i + 1 → is_lt (slice_cmp nat_cmp (f k) (f i)) ≡ false
least_more f i at less old = below_more (λ k. is_lt (slice_cmp nat_cmp (f k) (f i)) ≡ false) i
    (λ k h. not_less (slice_cmp nat_cmp (f k) (f i)) (λ l.
    both (slice_cmp nat_cmp (f k) (f at)) (nat_list_cmp_total.trans (f k) (f i) (f at) l (is_less _ less)) (old k h)))
    (itself (f i))

pub least_same : (f : ℕ → List ℕ) (i at : ℕ) → is_lt (slice_cmp nat_cmp (f i) (f at)) ≡ false
    → ((k : ℕ) → k < i → is_lt (slice_cmp nat_cmp (f k) (f at)) ≡ false)
    → (k : ℕ) → k < i + 1 → is_lt (slice_cmp nat_cmp (f k) (f at)) ≡ false
least_same f i at here old = below_more (λ k. is_lt (slice_cmp nat_cmp (f k) (f at)) ≡ false) i old here
