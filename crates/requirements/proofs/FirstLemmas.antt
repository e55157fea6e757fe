-- The first requirement that doesn't hold, by its place and its cause.
use Rattle.std.proofs.Common.{◌≡◌, ◌<◌, ◌≤◌, ℕ, zero, suc, Bool, true, false, if◌then◌else◌, List, [], ◌∷◌, length, get_or, Option, Some, None, refl, sym, ap, arith}
use Rattle.std.proofs.lemmas.Bool.{true≢false, ltb-true, ltb-false}
use Rattle.std.proofs.lemmas.List.Sums.{fails_before_first, passes_at_first}
use Rattle.std.specs.List.{position_or_len}
use Rattle.std.specs.Option.{is_some, option_and_then, option_map}
use Rattle.std.specs.Prelude.{MatchOption, nat_lt, position, slice_get}
use Rattle.fw_facts.specs.declared.requirement.Requirement.{Requirement}
use Rattle.requirements.specs.Requirements.{AllHold, IsFirstUnmet, cause_at, unmet_at}
use Rattle.requirements.specs.declared.unmet.UnmetCause.{UnmetCause}

pub unmet_at-first : (why : Requirement → Option UnmetCause) (list : List Requirement) (at : ℕ) (r : Requirement) (c : UnmetCause)
    → position (λ requirement. is_some (why requirement)) list ≡ Some at → slice_get list at ≡ Some r → why r ≡ Some c
    → Some (record { index = at; cause = c }) ≡ option_and_then (unmet_at why list) (position (λ requirement. is_some (why requirement)) list)
unmet_at-first why list at r c first here is = rw (first, here, is) refl

-- ---- the first, by places

none-from : (c : Option UnmetCause) → is_some c ≡ false → c ≡ None
none-from None h = refl
none-from (Some c) h = absurd (true≢false h)

some-from : (c : Option UnmetCause) → is_some c ≡ true → c ≡ None → ⊥
some-from None h is = true≢false (sym h)
some-from (Some c) h is = true≢false (ap is_some is)

module _ (why : Requirement → Option UnmetCause) where
  abbrev fails : Requirement → Bool
  fails requirement = is_some (why requirement)

  -- a requirement that doesn't fail has no cause
  cause_at-none : (list : List Requirement) (at : ℕ) → ((d : Requirement) → at < length list → fails (get_or list at d) ≡ false)
      → cause_at why list at ≡ None
  cause_at-none [] at h = refl
  cause_at-none (r ∷ list) zero h = none-from (why r) (h r (omega arith))
  cause_at-none (r ∷ list) (suc at) h = cause_at-none list at (λ d lt. h d (omega arith))

  -- one that fails has a cause
  cause_at-some : (list : List Requirement) (at : ℕ) → at < length list → ((d : Requirement) → fails (get_or list at d) ≡ true)
      → cause_at why list at ≡ None → ⊥
  cause_at-some [] at lt h is = omega (arith, lt)
  cause_at-some (r ∷ list) zero lt h is = some-from (why r) (h r) is
  cause_at-some (r ∷ list) (suc at) lt h is = cause_at-some list at (omega arith) h is

  module _ (list : List Requirement) where
    abbrev first : ℕ
    first = position_or_len fails list

    first-named : (c : Option UnmetCause) → cause_at why list first ≡ c → first < length list
        → MatchOption (option_map (λ cause. record { index = first; cause = cause }) c) (AllHold why list) (IsFirstUnmet why list)
    first-named None is lt = absurd (cause_at-some list first lt (λ d. passes_at_first fails list d lt) is)
    first-named (Some c) is lt = record {
      named = is;
      before = λ at h. cause_at-none list at (λ d in_list. fails_before_first fails list at d h);
    }

    first-by : (in_list : Bool) → nat_lt first (length list) ≡ in_list
        → MatchOption (option_and_then (unmet_at why list) (if in_list then Some first else None)) (AllHold why list) (IsFirstUnmet why list)
    first-by true is = first-named (cause_at why list first) refl (ltb-true first (length list) is)
    first-by false is = λ at. cause_at-none list at (λ d in_list.
        let past : length list ≤ first = ltb-false first (length list) is in
        fails_before_first fails list at d (omega arith))

    pub first-is : MatchOption (option_and_then (unmet_at why list) (position fails list)) (AllHold why list) (IsFirstUnmet why list)
    first-is = first-by (nat_lt first (length list)) refl
