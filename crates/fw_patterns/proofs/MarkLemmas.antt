-- Marks that were read, in front of those that are left, and their order.
use Rattle.std.proofs.Common.{◌≡◌, ℕ, ◌+◌, ◌-◌, ◌<◌, ◌≤◌, Bool, List, length, take, drop, get_or, Option, Some, Ok, Err, refl}
use Rattle.std.proofs.lemmas.List.{drop_more, drop_all, take_rest}
use Rattle.fw_patterns.specs.Reading.{ahead, first_fault, last_fault, mark_step, marks, step, stop}
use Rattle.fw_patterns.specs.declared.fault.PatternFault.{PatternFault}
use Rattle.fw_patterns.specs.declared.marks.MarkStep.TheVariants.{Skipped, Marked, Stopped}
use Rattle.fw_patterns.specs.declared.marks.Placed.{Placed}
use Rattle.fw_patterns.specs.declared.order.Before.{Before}
use Rattle.fw_patterns.specs.declared.signs.Sign.{Sign}

-- ---- one sign more

-- the signs behind a place, as a slice has them
abbrev pub signs_behind : ℕ → List Sign → List Sign
signs_behind at signs = take (length signs - (at + 1)) (drop (at + 1) signs)

module _ (inside : Bool) (end : Option PatternFault) (at : ℕ) (signs : List Sign) (d : Sign) (h : at < length signs) where
  pub marks-skipped : (next : Bool) → mark_step inside end (get_or signs at d) (signs_behind at signs) ≡ Skipped next
      → marks inside end (drop at signs) ≡ marks next end (drop (at + 1) signs)
  unfolding marks
  marks-skipped next is =
      let told : mark_step inside end (get_or signs at d) (drop (at + 1) signs) ≡ Skipped next = rw (take_rest signs (at + 1)) at is in
      rw (drop_more signs at d h, told) refl

  pub marks-marked : (p : Placed) (next : Bool) → mark_step inside end (get_or signs at d) (signs_behind at signs) ≡ Marked p next
      → marks inside end (drop at signs) ≡ ahead p (marks next end (drop (at + 1) signs))
  unfolding marks
  marks-marked p next is =
      let told : mark_step inside end (get_or signs at d) (drop (at + 1) signs) ≡ Marked p next = rw (take_rest signs (at + 1)) at is in
      rw (drop_more signs at d h, told) refl

  pub marks-stopped : (fault : PatternFault) → mark_step inside end (get_or signs at d) (signs_behind at signs) ≡ Stopped fault
      → marks inside end (drop at signs) ≡ stop (Some fault)
  unfolding marks
  marks-stopped fault is =
      let told : mark_step inside end (get_or signs at d) (drop (at + 1) signs) ≡ Stopped fault = rw (take_rest signs (at + 1)) at is in
      rw (drop_more signs at d h, told) refl

pub marks-end : (inside : Bool) (end : Option PatternFault) (at : ℕ) (signs : List Sign) → length signs ≤ at
    → marks inside end (drop at signs) ≡ stop end
unfolding marks
marks-end inside end at signs h = rw (drop_all at signs h) refl

-- ---- one mark more

module _ (before : Before) (end : Option PatternFault) (at : ℕ) (marks : List Placed) (p : Placed) (h : at < length marks) (is : p ≡ get_or marks at p) where
  pub first_fault-next : (next : Before) → step before p.at p.mark ≡ Ok next
      → first_fault before end (drop at marks) ≡ first_fault next end (drop (at + 1) marks)
  unfolding first_fault
  first_fault-next next told = rw (drop_more marks at p h, ← is, told) refl

  pub first_fault-here : (fault : PatternFault) → step before p.at p.mark ≡ Err fault
      → first_fault before end (drop at marks) ≡ Some fault
  unfolding first_fault
  first_fault-here fault told = rw (drop_more marks at p h, ← is, told) refl

pub first_fault-end : (before : Before) (end : Option PatternFault) (at : ℕ) (marks : List Placed) → length marks ≤ at
    → first_fault before end (drop at marks) ≡ last_fault before end
unfolding first_fault
first_fault-end before end at marks h = rw (drop_all at marks h) refl
