use Rattle.std.proofs.Common.{rules, ℕ}
use Rattle.std.specs.Prelude.{◌==◌}
use borrow.Author.Tests.{tests}
use Rattle.std.proofs.lemmas.Iterator.Consumers.{map_from_collect}
use Rattle.std.proofs.lemmas.Iterator.Splits.{YieldsList-from_slice_split}
use Rattle.quirk_files.proofs.Readings.{of_ok}
use Rattle.quirk_files.proofs.texts.parts.Goals as goal

pub returns : goal.returns
returns c =
    of_ok _ c.collect.result c.in_ok-parts.parts c.in_ok-parts.was
    (map_from_collect _ c.collect.ensures.ran
    (YieldsList-from_slice_split _ (λ (b : ℕ). b == c.args.separator) c.args.text.now c.split.ensures.rest c.split.ensures.done c.split.ensures.closure (λ x b q k. search (rules, tests))))
