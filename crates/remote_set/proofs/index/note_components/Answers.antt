use Rattle.remote_set.specs.Indexes.{is_offered_before}
use Rattle.remote_set.specs.Merged.{comes_before}
use Rattle.remote_set.proofs.Noting.{component_noted}
use Rattle.remote_set.proofs.index.note_components.Goals as goal

pub loop-component-preserved : goal.loop-component-preserved
loop-component-preserved c = λ rank id version.
    component_noted c.args.components.now c.loop-component.component-index c.component-item.result c.items.result.now id version
    (is_offered_before c.args.index.now.entries rank id version) (is_offered_before c.loop-component.index.entries rank id version) (is_offered_before c.note_releases.new.index.entries rank id version)
    (comes_before c.args.own rank) c.loop-component-test.true c.component-item.is c.items.ensures
    (c.loop-component.invariant rank id version) (c.in_ok-note_releases.ensures rank id version)
