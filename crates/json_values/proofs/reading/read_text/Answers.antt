use Rattle.std.specs.Prelude.{◌≡◌, [], Some}
use Rattle.json.specs.Json.{value}
use Rattle.json.specs.Lex.{tokens}
use Rattle.json.specs.Reads.{token_of}
use Rattle.json.specs.Value.{value_view}
use Rattle.json_values.specs.declared.reading.JsonFault.TheVariants.{NotJson}
use Rattle.json_values.proofs.Whole.{at_end, found_whole, refused_whole, whole_value}
use Rattle.json_values.proofs.reading.read_text.Goals as goal

pub returns-clause-found : goal.returns-clause-found
returns-clause-found c =
    let nothing_more : c.read.new.reader ≡ [] = at_end token_of c.next.result c.read.new.reader c.next.new.self (cc) c.next.ensures.value in
    let whole : value 127 (tokens c.args.text.now) ≡ Some (value_view c.in-Ok-read.value, []) =
    whole_value c.args.text.now c.in-Ok-read.value c.in-Ok.reader c.read.new.reader c.in-Ok.ensures.ok c.in-Ok-read.ensures.ok nothing_more in
    found_whole c.args.text.now c.in-Ok-read.value c.within_range.result whole c.within_range.ensures.found

pub returns-clause-refused : goal.returns-clause-refused
returns-clause-refused c =
    let nothing_more : c.read.new.reader ≡ [] = at_end token_of c.next.result c.read.new.reader c.next.new.self (cc) c.next.ensures.value in
    let whole : value 127 (tokens c.args.text.now) ≡ Some (value_view c.in-Ok-read.value, []) =
    whole_value c.args.text.now c.in-Ok-read.value c.in-Ok.reader c.read.new.reader c.in-Ok.ensures.ok c.in-Ok-read.ensures.ok nothing_more in
    refused_whole c.args.text.now c.in-Ok-read.value c.within_range.result NotJson whole c.within_range.ensures.refused
