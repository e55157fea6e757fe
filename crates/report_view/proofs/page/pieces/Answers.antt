use Rattle.std.proofs.Common.{rules, ℕ}
use Rattle.std.specs.Prelude.{◌==◌}
use borrow.Author.Tests.{tests}
use Rattle.std.proofs.lemmas.Iterator.Consumers.{map_from_collect}
use Rattle.std.proofs.lemmas.Iterator.Splits.{YieldsList-from_slice_split}
use Rattle.report_view.specs.Events.{pieces_of}
use Rattle.report_view.proofs.Places.{of_ok}
use Rattle.report_view.proofs.page.pieces.Goals as goal

pub returns : goal.returns
unfolding pieces_of
returns c =
    of_ok _ c.collect.result c.in_ok-pieces.pieces c.in_ok-pieces.was
    (map_from_collect _ c.collect.ensures.ran
    (YieldsList-from_slice_split _ (λ (b : ℕ). b == 10) c.args.text.now c.split.ensures.rest c.split.ensures.done c.split.ensures.closure (λ x b q k. search (rules, tests))))
