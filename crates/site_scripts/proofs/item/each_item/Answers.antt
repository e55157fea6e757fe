use Rattle.std.proofs.Common.{◌+◌, List, Result, drop, subst, sym, ◌∙◌}
use Rattle.client_scripts.specs.declared.item.Item.{Item}
use Rattle.release_catalogue.specs.declared.spot.Fault.{Fault}
use Rattle.release_catalogue.specs.Reading.{Fails}
use Rattle.json_values.specs.Trees.{items_view}
use Rattle.site_scripts.proofs.Loop.{drop_at}
use Rattle.site_scripts.proofs.item.each_item.Goals as goal

pub loop-value-preserved : goal.loop-value-preserved
loop-value-preserved c =
    let next = drop_at c.args.values.now c.loop-value.value-index c.value-item.result c.loop-value-test.true c.value-item.is in
    let before = rw next at c.loop-value.invariant.rest in
    record {
      rest = sym (c.in-Ok.ensures.read (items_view (drop (c.loop-value.value-index + 1) c.args.values.now))) ∙ before;
      few = c.in-Ok.ensures.within;
    }

pub returns-in-Err-clause-read : goal.returns-in-Err-clause-read
returns-in-Err-clause-read c =
    let next = drop_at c.args.values.now c.loop-value.value-index c.value-item.result c.loop-value-test.true c.value-item.is in
    let before = rw next at c.loop-value.invariant.rest in
    subst (λ (reading : Result (List Item) Fault). Fails c.in-Err.stop reading) before
    (c.in-Err.ensures.fault (items_view (drop (c.loop-value.value-index + 1) c.args.values.now)))
