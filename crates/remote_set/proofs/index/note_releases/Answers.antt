use Rattle.std.specs.Str.{bytes_eq}
use Rattle.remote_set.specs.Indexes.{is_offered_before}
use Rattle.remote_set.specs.Merged.{comes_before}
use Rattle.remote_set.proofs.Noting.{release_noted}
use Rattle.remote_set.proofs.index.note_releases.Goals as goal

pub loop-release-preserved : goal.loop-release-preserved
loop-release-preserved c = λ rank id version.
    release_noted c.args.releases.now c.loop-release.release-index c.release-item.result version
    (is_offered_before c.args.index.now.entries rank id version) (is_offered_before c.loop-release.index.entries rank id version) (is_offered_before c.note.new.index.entries rank id version)
    (comes_before c.args.own rank) (bytes_eq c.args.of.now id) c.loop-release-test.true c.release-item.is
    (c.loop-release.invariant rank id version) (c.in_ok-note.ensures rank id version)
