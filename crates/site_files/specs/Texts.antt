-- The text of the document, as a JSON value.
use Rattle.std.specs.Prelude.{ℕ, List, None, Result, if◌then◌else◌}
use Rattle.std.specs.Str.{is_utf8}
use Rattle.serde_json.specs.Data.{Data}
use Rattle.serde_json.specs.Read.{read}
use Rattle.release_catalogue.specs.declared.reason.Reason.TheVariants.{NotJson}
use Rattle.release_catalogue.specs.declared.spot.Fault.{Fault}
use Rattle.release_catalogue.specs.Reading.{or_fault}
use Rattle.site_scripts.specs.Places.{whole_spot}

-- The value of a text. What isn't UTF-8 has none.
abbrev pub json_at : List ℕ → Result Data Fault
json_at bytes = or_fault whole_spot NotJson (if is_utf8 bytes then read bytes else None)
