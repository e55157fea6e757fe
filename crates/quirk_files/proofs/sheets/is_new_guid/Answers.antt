use Rattle.std.proofs.Common.{◌∙◌, ap}
use Rattle.std.specs.List.{list_any}
use Rattle.std.specs.Str.{bytes_eq}
use Rattle.quirk_files.proofs.Loops.{any_added}
use Rattle.quirk_files.proofs.sheets.is_new_guid.Goals as goal

pub returns-clause-there : goal.returns-clause-there
returns-clause-there c = λ q. ap (list_any (bytes_eq q)) c.in_ok-fresh.ensures.keys ∙ any_added c.args.there.now.keys c.args.guid q
