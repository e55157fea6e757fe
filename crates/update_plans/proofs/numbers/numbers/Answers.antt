use Rattle.std.proofs.Common.{◌≡◌, ℕ, List, ◌∷◌, ◌++◌, [], sym, ap, ◌∙◌, subst}
use Rattle.update_plans.proofs.Options.{not_none, same_some}
use Rattle.update_plans.proofs.Reading.{IsLeft, next-last, next-more, next-of}
use Rattle.update_plans.proofs.numbers.numbers.Goals as goal

pub returns-in_err-number_of : goal.returns-in_err-number_of
returns-in_err-number_of c =
    λ given h.
    let next = next-of given c.sections.numbers.items c.args.version.now c.sections.text.now c.first_section.result.0.now _ h (c.sections.invariant given h) c.first_section.ensures.first in
    let read = c.number_of.ensures next.0 next.1.small next.1.alone in
    absurd (not_none read c.in_err-number_of.was)

pub sections-preserved : goal.sections-preserved
sections-preserved c =
    λ given h.
    let first = rw c.in-Some.is at c.first_section.ensures.first in
    let next = next-more given c.sections.numbers.items c.args.version.now c.sections.text.now c.first_section.result.0.now c.in-Some.behind.now h (c.sections.invariant given h) first in
    let read = c.number_of.ensures next.0 next.1.small next.1.alone in
    let number : c.in_ok-number_of.field-0 ≡ next.0 = same_some c.in_ok-number_of.was read in
    let pushed : c.push.new.numbers.items ≡ c.sections.numbers.items ++ next.0 ∷ [] =
    c.if-not-push.ensures.pushed ∙ ap (λ (n : ℕ). c.sections.numbers.items ++ n ∷ []) number in
    subst (λ (items : List ℕ). IsLeft given items c.in-Some.behind.now) (sym pushed) next.2

pub returns-in-None : goal.returns-in-None
returns-in-None c =
    λ given h.
    let first = rw c.in-None.is at c.first_section.ensures.first in
    let next = next-last given c.sections.numbers.items c.args.version.now c.sections.text.now c.first_section.result.0.now h (c.sections.invariant given h) first in
    let read = c.number_of.ensures next.0 next.1.small next.1.alone in
    let number : c.in_ok-number_of.field-0 ≡ next.0 = same_some c.in_ok-number_of.was read in
    c.if-not-push.ensures.pushed ∙ ap (λ (n : ℕ). c.sections.numbers.items ++ n ∷ []) number ∙ sym next.2
