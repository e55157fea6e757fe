use Rattle.std.proofs.Common.{Bor, List, ℕ, map}
use Rattle.quirk_files.specs.declared.quirk.Quirk.{Quirk}
use Rattle.quirk_files.specs.Sheets.{elements_in}
use Rattle.quirk_files.proofs.Loops.{pieces_step}
use Rattle.quirk_files.proofs.sheets.elements.Goals as goal

pub loop-quirk-preserved : goal.loop-quirk-preserved
loop-quirk-preserved c =
    pieces_step (elements_in c.args.key) (λ (quirk : Bor Quirk). quirk.now) c.args.quirks.now c.loop-quirk.quirk-index c.quirk-item.result
    (map (λ (element : Bor (List ℕ)). element.now) c.loop-quirk.elements.items) (map (λ (element : Bor (List ℕ)). element.now) c.push_elements_in.new.elements.items)
    c.loop-quirk-test.true c.loop-quirk.invariant c.quirk-item.is c.in_ok-push_elements_in.ensures
