use Rattle.std.proofs.Common.{Err, ap}
use Rattle.json_values.specs.Trees.{view}
use Rattle.site_files.proofs.JsonTexts.{json_found, json_missing}
use Rattle.site_files.proofs.text.json.Goals as goal

pub returns-in-Ok : goal.returns-in-Ok
returns-in-Ok c = json_found c.args.bytes.now (view c.in-Ok.value) c.in-Ok.ensures.found.0 c.in-Ok.ensures.found.1

pub returns-in-Err-NotJson : goal.returns-in-Err-NotJson
returns-in-Err-NotJson c = rw (c.fault_at.ensures, c.whole_spot.ensures) (json_missing c.args.bytes.now (c.in-Err-NotJson.ensures.refused (ap Err c.in-Err-NotJson.field-0-is)))
