use Rattle.remote_set.specs.Indexes.{is_offered_before}
use Rattle.remote_set.specs.Merged.{is_hidden}
use Rattle.remote_set.proofs.Noting.{one_less}
use Rattle.remote_set.proofs.index.index_of.Goals as goal

pub loop-place-preserved : goal.loop-place-preserved
loop-place-preserved c = λ rank id version.
    one_less c.args.remotes.now c.loop-place.place c.index-remotes-place.result rank id version
    (is_offered_before c.loop-place.index.entries rank id version) (is_offered_before c.note_remote.new.index.entries rank id version) (is_hidden c.args.remotes.now rank id version)
    c.loop-place-test.true c.index-remotes-place.is (c.in_ok-note_remote.ensures rank id version) (c.loop-place.invariant rank id version)
