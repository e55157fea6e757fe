-- Two calls over what one keeper told.
use Rattle.std.proofs.Common.{◌≡◌, ℕ, List, sym, ap, subst, ◌∙◌, inl, inr}
use Rattle.std.specs.Prelude.{Option, Some, None, option_map, IfSome}
use Rattle.report_queue.specs.Calls.{Marks}
use Rattle.report_queue.specs.Laws.{CallsFollow}
use Rattle.report_queue.specs.Marking.{with_doubt}

-- What a call left is told behind it.
marks_left : (entries marks : List ℕ) (o n : Option (List ℕ)) → n ≡ option_map (λ (_ : List ℕ). entries) o → n ≡ Some marks → entries ≡ marks
marks_left entries marks None n e q = (let bad : None ≡ Some marks = sym e ∙ q in cc)
marks_left entries marks (Some before) n e q = (let same : Some entries ≡ Some marks = sym e ∙ q in cc)

-- What is told before a call stands before it.
marks_begun : (before : Marks) (doubt : Option ℕ) (found : List ℕ) (o : Option (List ℕ)) → IfSome o (λ entries. before ≡ record { entries = entries; doubt = doubt }) → o ≡ Some found → before.entries ≡ found
marks_begun before doubt found o h q =
    let P : Option (List ℕ) → Type 0 = λ x. IfSome x (λ entries. before ≡ record { entries = entries; doubt = doubt }) in
    ap (λ (m : Marks). m.entries) (subst P q h)

pub calls-follow : CallsFollow
calls-follow rows later max most answer reply old left begun new marks found one next l b either =
    let here : next.call.before.entries ≡ found = marks_begun next.call.before begun.doubt found begun.marks next.before b in
    let there : marks ≡ one.call.after.entries = sym (marks_left one.call.after.entries marks old.marks left.marks one.after l) in
    elim either [
      | inl same ↦ inl (here ∙ same ∙ there)
      | inr made ↦ inr (here ∙ made ∙ ap (λ (doubt : Option ℕ). with_doubt doubt marks) one.doubt ∙ ap (with_doubt one.call.after.doubt) there)
    ]
