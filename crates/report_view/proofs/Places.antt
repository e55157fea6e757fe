-- Places in lists, and the words of a line.
use Rattle.std.proofs.Common.{◌≡◌, ℕ, suc, ◌+◌, ◌-◌, ◌<◌, ◌≤◌, Bool, true, false, cond, not, nat_lt, List, length, Option, Some, None, Result, Ok, refl, sym, ap, subst, ◌∙◌, arith}
use Rattle.std.specs.Prelude.{position, unwrap_or, IfOk}
use Rattle.std.specs.List.{position_or_len, after_first}
use Rattle.std.proofs.lemmas.List.Sums.{prefix_len-le-length}
use Rattle.std.proofs.lemmas.Bool.Decides.{nat_tests}
use Rattle.report_view.specs.Words.{is_blank, word}

-- the place of the first that passes, or behind all
pub unwrap_position : {X : Type 0} (p : X → Bool) (xs : List X) (o : Option ℕ) (n : ℕ) → o ≡ position p xs → n ≡ unwrap_or o (length xs) → n ≡ position_or_len p xs
unwrap_position p xs o n is unwrapped =
    unwrapped ∙ ap (λ (place : Option ℕ). unwrap_or place (length xs)) is
    ∙ by_test (position_or_len p xs) (length xs) (nat_lt (position_or_len p xs) (length xs)) refl (prefix_len-le-length (λ x. not (p x)) xs) where
      by_test : (n m : ℕ) (b : Bool) → nat_lt n m ≡ b → n ≤ m → unwrap_or (cond b (Some n) None) m ≡ n
      by_test n m true e h = refl
      by_test n m false e h = grind (arith, nat_tests)

-- a word is that of what stands behind the first blank, one place further to the front
pub word_step : (at passed : ℕ) (rest behind line : List ℕ) → passed < at → behind ≡ after_first is_blank rest
    → word (at - passed) rest ≡ word at line → word (at - (passed + 1)) behind ≡ word at line
unfolding word
word_step at passed rest behind line lt is so_far =
    ap (word (at - (passed + 1))) is ∙ by_left (at - passed) (at - (passed + 1)) (omega arith) so_far where
      by_left : (m n : ℕ) → m ≡ suc n → word m rest ≡ word at line → word n (after_first is_blank rest) ≡ word at line
      by_left m n e h = sym (ap (λ (k : ℕ). word k rest) e) ∙ h

pub word_here : (at passed : ℕ) (rest line : List ℕ) → at ≤ passed → word (at - passed) rest ≡ word at line → word 0 rest ≡ word at line
word_here at passed rest line le h =
    let none : at - passed ≡ 0 = omega arith in
    sym (ap (λ (k : ℕ). word k rest) none) ∙ h

-- what holds of an `Ok` holds of what is in it
pub of_ok : {T E : Type 0} (P : T → Type 0) (r : Result T E) (x : T) → r ≡ Ok x → IfOk r P → P x
of_ok {T} {E} P r x is h = subst (λ (s : Result T E). IfOk s P) is h
