use Rattle.std.proofs.Common.{Bor, List, ℕ, map}
use Rattle.quirk_files.proofs.Loops.{elements_step}
use Rattle.quirk_files.proofs.texts.push_elements.Goals as goal

pub loop-part-preserved : goal.loop-part-preserved
loop-part-preserved c =
    elements_step c.args.parts.now c.loop-part.part-index (map (λ (element : Bor (List ℕ)). element.now) c.args.elements.now.items)
    (map (λ (element : Bor (List ℕ)). element.now) c.loop-part.elements.items) (map (λ (element : Bor (List ℕ)). element.now) c.push_element.new.elements.items)
    c.trimmed.result.now c.loop-part-test.true c.loop-part.invariant c.trimmed.ensures c.in_ok-push_element.ensures
