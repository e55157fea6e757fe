use Rattle.std.proofs.Common.{◌∙◌, ap, sym, decimal, get_or, length, List, ℕ, ◌++◌, arith}
use Rattle.std.proofs.lemmas.List.{take_all}
use Rattle.version_formats.specs.Formats.{dotted}
use Rattle.version_formats.proofs.Accepted.{dotted-accepted}
use Rattle.version_formats.proofs.FormatLemmas.{dotted_more, separator}
use Rattle.version_formats.proofs.rendering.dotted.Goals as goal

pub loop-place-preserved : goal.loop-place-preserved
loop-place-preserved c =
    let place = c.loop-place.place in (
      c.push_number.ensures.items
          ∙ ap (λ (text : List ℕ). text ++ separator place ++ decimal (get_or c.args.numbers.now place 0)) c.loop-place.invariant.0
          ∙ sym (dotted_more c.args.numbers.now place c.loop-place-test.true),
      omega (arith, c.push_number.ensures.len, c.loop-place.invariant.1),
    )

pub keep-requires-clause-accepted : goal.keep-requires-clause-accepted
keep-requires-clause-accepted c =
    let items = c.loop-place.invariant.0 ∙ ap dotted (take_all c.loop-place.place c.args.numbers.now c.loop-place-test.false) in
    let whole = c.as_slice.ensures.value ∙ items in
    dotted-accepted _ c.args.numbers.now whole (omega (arith, ap length c.as_slice.ensures.value, c.loop-place.invariant.1)) c.requires.some
    (λ k h. omega (arith, (c.type_inv.numbers k).fits))

pub returns : goal.returns
returns c =
    c.keep.ensures ∙ c.as_slice.ensures.value ∙ c.loop-place.invariant.0
    ∙ ap dotted (take_all c.loop-place.place c.args.numbers.now c.loop-place-test.false)
