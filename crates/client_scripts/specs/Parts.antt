-- Parts of lines, in replies and reports.
use Rattle.std.specs.Prelude.{ℕ, List, [], ◌++◌, codes, Option, Some, None}
use Rattle.std.specs.Fmt.{decimal}
use Rattle.hex.specs.Hex.{encode_lower}
use Rattle.guid_ids.specs.Identifiers.{guid_text}
use Rattle.version_formats.specs.Formats.{render}
use Rattle.fw_facts.specs.declared.seen.Seen.{Seen}
use Rattle.fw_facts.specs.declared.seen.Seen.TheVariants as seen
use Rattle.fw_facts.specs.declared.sheet.Sheet.{Sheet}
use Rattle.device_list.specs.declared.selector.Selector.{Selector}
use Rattle.device_list.specs.declared.selector.Selector.TheVariants as selectors
use Rattle.update_log.specs.declared.refusal.Refusal.{Refusal}
use Rattle.update_log.specs.Known.{refusal_number}
use Rattle.client_scripts.specs.Words.{mode_word, refusal_word}

-- A version, by the format of the board's sheet; a board without one shows `-`.
abbrev pub version_text : Option Sheet → ℕ → List ℕ
version_text (Some sheet) raw = render sheet.format raw
version_text None raw = codes "-"

-- What a port shows.
abbrev pub seen_text : Option Sheet → Seen → List ℕ
seen_text sheet (seen.Home raw mode) = version_text sheet raw ++ codes " " ++ mode_word mode
seen_text sheet seen.Gone = codes "gone"
seen_text sheet seen.Stranger = codes "stranger"

-- The port of a board.
abbrev pub port_text : Option Sheet → List ℕ
port_text (Some sheet) = sheet.port
port_text None = codes "-"

-- The entry of the row that a request or a row tries again, where it tries one.
abbrev pub retry_text : Option ℕ → List ℕ
retry_text None = []
retry_text (Some entry) = codes " retry-of " ++ decimal entry

-- A device as its client named it.
abbrev pub selector_text : Selector → List ℕ
selector_text (selectors.Id device) = encode_lower device
selector_text (selectors.Guid guid) = guid_text guid
selector_text (selectors.Port port) = port

-- That a request is refused, with the number of the refusal and its word.
abbrev pub refused_as : Refusal → List ℕ
refused_as refusal = codes "refused " ++ decimal (refusal_number refusal) ++ codes " " ++ refusal_word refusal
