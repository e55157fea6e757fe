use Rattle.version_formats.proofs.VersionLaws.{sections-same}
use Rattle.version_formats.proofs.RenderLaws.{render-same}
use Rattle.version_formats.proofs.laws.equal_texts.Goals as goal

pub returns : goal.returns
returns c = render-same c.args.format c.args.left c.args.right c.ranges.left.fits c.ranges.right.fits (sections-same _ _ c.requires)
