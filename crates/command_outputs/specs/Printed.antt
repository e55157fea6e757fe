-- What is printed.
use Rattle.std.specs.Prelude.{ℕ, Bool, if◌then◌else◌, List, ◌++◌, codes}
use Rattle.std.specs.Fmt.{decimal}
use Rattle.std.specs.List.{flat_map}
use Rattle.guid_ids.specs.Identifiers.{guid, guid_text}
use Rattle.site_remotes.specs.declared.told.SiteRemote.{SiteRemote}
use Rattle.command_outputs.specs.declared.check.Sections.{Sections}

-- how many entries each section of the document has
unfoldable pub check_output : Sections → List ℕ
check_output sections =
    codes "ok boards " ++ decimal sections.boards ++ codes " components " ++ decimal sections.components
    ++ codes " clients " ++ decimal sections.clients ++ codes " boots " ++ decimal sections.boots ++ codes "\n"

-- whether a remote is enabled
unfoldable pub switch_word : Bool → List ℕ
switch_word enabled = if enabled then codes " enabled" else codes " disabled"

-- which remote it is
unfoldable pub remote_head : SiteRemote → List ℕ
remote_head remote = codes "remote " ++ remote.name ++ codes " order " ++ decimal remote.order ++ switch_word remote.enabled

-- what it has, and how many of its releases stay
unfoldable pub counts_text : ℕ → ℕ → ℕ → List ℕ
counts_text components releases kept =
    codes " components " ++ decimal components ++ codes " releases " ++ decimal releases ++ codes " kept " ++ decimal kept ++ codes "\n"

unfoldable pub remote_line : SiteRemote → List ℕ
remote_line remote = remote_head remote ++ counts_text remote.components remote.releases remote.kept

-- how many releases are merged
unfoldable pub merged_line : ℕ → List ℕ
merged_line releases = codes "releases " ++ decimal releases ++ codes "\n"

-- a line for each remote, in the order of the document, and the merged releases behind them
abbrev pub remotes_output : List SiteRemote → ℕ → List ℕ
remotes_output remotes releases = flat_map remote_line remotes ++ merged_line releases

-- a text and its GUID
unfoldable pub id_line : List ℕ → List ℕ
id_line text = text ++ codes " " ++ guid_text (guid text) ++ codes "\n"

-- a line for each text, in order
abbrev pub ids_output : List (List ℕ) → List ℕ
ids_output texts = flat_map id_line texts
