use Rattle.std.proofs.Common.{◌≡◌, ◌∙◌, sym, ap, decimal, List, ℕ, ◌++◌, append-nil, arith, eqb, false}
use Rattle.arrayvec.specs.ArrayVec.{ArrayVec}
use Rattle.std.proofs.lemmas.Bool.{ne_eqb}
use Rattle.version_formats.proofs.rendering.push_number.Goals as goal
use Rattle.version_formats.proofs.rendering.push_number.Goals.{then-place-gt0, else-place-gt0}

pub returns-clause-items : goal.returns-clause-items
returns-clause-items c =
    let text = c.args.text.now.items in
    let digits = decimal c.args.number in
    let onto = λ (t : ArrayVec ℕ). t.items ++ digits in
    elim c.if-place-gt0.branch [
      | then-place-gt0 w ↦
          let later : eqb c.args.place 0 ≡ false = ne_eqb c.args.place 0 (λ e. absurd (omega arith)) in
          rw later (c.push_decimal.ensures.items ∙ ap onto w.text-is ∙ ap (λ (t : List ℕ). t ++ digits) w.push.ensures.items)
      | else-place-gt0 w ↦
          let first : c.args.place ≡ 0 = omega arith in
          rw first (c.push_decimal.ensures.items ∙ ap onto w.text-is ∙ ap (λ (t : List ℕ). t ++ digits) (sym (append-nil text)))
    ]
