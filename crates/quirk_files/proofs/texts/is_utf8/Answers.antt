use Rattle.std.proofs.Common.{◌∙◌}
use Rattle.quirk_files.proofs.Readings.{utf8_read}
use Rattle.quirk_files.proofs.texts.is_utf8.Goals as goal

pub returns : goal.returns
returns c = c.is_ok.ensures.value ∙ utf8_read c.args.line.now c.from_utf8.result _ _ c.from_utf8.ensures.cases
