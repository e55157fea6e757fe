-- Members of a class that were read, in front of those that are left.
use Rattle.std.proofs.Common.{◌≡◌, ℕ, ◌+◌, ◌<◌, ◌≤◌, List, [], ◌∷◌, ◌++◌, length, drop, get_or, Result, Ok, Err, refl, ap, append_assoc}
use Rattle.std.proofs.lemmas.List.{drop_more, drop_all}
use Rattle.fw_patterns.specs.Reading.{in_front, last_ranges, member_step, members, with_range}
use Rattle.fw_patterns.specs.declared.classes.ClassEnd.{ClassEnd}
use Rattle.fw_patterns.specs.declared.classes.Front.{Front}
use Rattle.fw_patterns.specs.declared.classes.MemberStep.TheVariants.{Wait, Add, NoMember}
use Rattle.fw_patterns.specs.declared.fault.PatternFault.{PatternFault}
use Rattle.fw_patterns.specs.declared.signs.Sign.{Sign}
use Rattle.fw_patterns.specs.declared.syntax.ByteRange.{ByteRange}

pub in_front-push : (ranges : List ByteRange) (r : ByteRange) (rest : Result (List ByteRange) PatternFault)
    → in_front (ranges ++ r ∷ []) rest ≡ in_front ranges (with_range r rest)
in_front-push ranges r (Ok behind) = ap Ok (append_assoc ranges (r ∷ []) behind)
in_front-push ranges r (Err fault) = refl

module _ (bracket : ℕ) (end : ClassEnd) (front : Front) (at : ℕ) (signs : List Sign) (d : Sign) (h : at < length signs) where
  pub members-wait : (next : Front) → member_step front (get_or signs at d) ≡ Wait next
      → members bracket end front (drop at signs) ≡ members bracket end next (drop (at + 1) signs)
  unfolding members
  members-wait next step = rw (drop_more signs at d h, step) refl

  pub members-add : (r : ByteRange) (next : Front) → member_step front (get_or signs at d) ≡ Add r next
      → members bracket end front (drop at signs) ≡ with_range r (members bracket end next (drop (at + 1) signs))
  unfolding members
  members-add r next step = rw (drop_more signs at d h, step) refl

  pub members-no : (fault : PatternFault) → member_step front (get_or signs at d) ≡ NoMember fault
      → members bracket end front (drop at signs) ≡ Err fault
  unfolding members
  members-no fault step = rw (drop_more signs at d h, step) refl

pub members-end : (bracket : ℕ) (end : ClassEnd) (front : Front) (at : ℕ) (signs : List Sign) → length signs ≤ at
    → members bracket end front (drop at signs) ≡ last_ranges bracket end front
unfolding members
members-end bracket end front at signs h = rw (drop_all at signs h) refl
