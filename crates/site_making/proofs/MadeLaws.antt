-- A generated site can be settled.
use Rattle.std.proofs.Common.{◌≡◌, ℕ, zero, suc, ◌+◌, ◌<◌, ◌≤◌, ◌%◌, ◌⊎◌, inl, inr, Bool, true, false, if◌then◌else◌, List, [], ◌∷◌, length, map, get_or, sym, ◌∙◌, subst, arith}
use Rattle.std.specs.Prelude.{◌==◌}
use Rattle.std.specs.List.{range_with_len}
use Rattle.std.proofs.Math.Nat.{mod_self, mod-eq_of_lt}
use Rattle.std.proofs.lemmas.Bool.{eqb-true}
use Rattle.std.proofs.lemmas.Bool.Decides.{leb_tells}
use Rattle.std.proofs.lemmas.List.Elements.{All-map}
use Rattle.emulated_boards.specs.Plans.{IsPlan}
use Rattle.emulated_boards.specs.declared.fault.BoardFault.TheVariants.{Failed}
use Rattle.site_types.specs.Limits.{CanBeSettled}
use Rattle.site_making.specs.Made.{NoneShared, made_board}

abbrev one : List ℕ
one = 0 ∷ 1 ∷ []

first_call : (k : ℕ) → k + 1 < length one → get_or one k 0 < get_or one (k + 1) 0
first_call zero lt = omega arith
first_call (suc k) lt = absurd (omega arith)

planned : (b : Bool) → IsPlan (if b then record { call = 1; fault = Failed } ∷ [] else [])
planned true = first_call
planned false = λ k lt. absurd (omega arith)

pub can_be_settled : (boards : ℕ) → CanBeSettled (map made_board (range_with_len 1 boards))
can_be_settled boards = record {
  priorities = All-map (λ board. board.sheet.priority ≤ 1000) made_board (range_with_len 1 boards) (λ k d lt. omega arith);
  plans = All-map (λ board. IsPlan board.faults) made_board (range_with_len 1 boards) (λ k d lt. planned (get_or (range_with_len 1 boards) k d % 5 == 0));
}

-- the number of a client is what its boards leave, or nothing of the last one's
left_over : (clients c : ℕ) → c ≤ clients → ((c < clients) × (c % clients ≡ c)) ⊎ ((c ≡ clients) × (c % clients ≡ 0))
left_over clients c high = elim (leb_tells clients c) [
  | inl last ↦ inr (let e : c ≡ clients = omega (arith, last.1) in (e, subst (λ (n : ℕ). n % clients ≡ 0) (sym e) (mod_self clients)))
  | inr below ↦ inl (below.1, mod-eq_of_lt below.1)
]

pub none_shared : (clients : ℕ) → NoneShared clients
none_shared clients c d i c1 c2 d1 d2 hc hd =
    let e : c % clients ≡ d % clients = sym (eqb-true (i % clients) (c % clients) hc) ∙ eqb-true (i % clients) (d % clients) hd in
    elim (left_over clients c c2) [
      | inl a ↦ elim (left_over clients d d2) [
        | inl b ↦ sym a.1 ∙ e ∙ b.1
        | inr b ↦ absurd (let z : c ≡ 0 = sym a.1 ∙ e ∙ b.1 in omega arith)
      ]
      | inr a ↦ elim (left_over clients d d2) [
        | inl b ↦ absurd (let z : 0 ≡ d = sym a.1 ∙ e ∙ b.1 in omega arith)
        | inr b ↦ a.0 ∙ sym b.0
      ]
    ]
