-- What a client is told: the lines of each reply.
--
-- A reply rests on the facts, on the devices as they stand, and on the rows, and on nothing else.
use Rattle.std.specs.Prelude.{ℕ, Bool, ◌==◌, ◌&&◌, ◌-◌, if◌then◌else◌, List, [], ◌∷◌, ◌++◌, codes, length, take, reverse, map, filter, find, flat_map, Option, Some, None, option_map}
use Rattle.std.specs.Ordering.{is_gt}
use Rattle.std.specs.Str.{bytes_eq}
use Rattle.std.specs.Fmt.{decimal}
use Rattle.hex.specs.Hex.{encode_lower}
use Rattle.guid_ids.specs.Identifiers.{guid_text}
use Rattle.version_formats.specs.VersionOrder.{version_cmp}
use Rattle.fw_facts.specs.declared.machine.MachineFacts.{MachineFacts}
use Rattle.fw_facts.specs.declared.problem.Problem.{Problem}
use Rattle.fw_facts.specs.declared.problem.Problem.TheVariants as problems
use Rattle.fw_facts.specs.declared.release.Component.{Component}
use Rattle.fw_facts.specs.declared.release.Release.{Release}
use Rattle.fw_facts.specs.declared.view.DeviceView.{DeviceView}
use Rattle.fw_facts.specs.Flags.{all_flags, flag_word, has_flag}
use Rattle.fw_facts.specs.Problems.{has_problem}
use Rattle.fw_facts.specs.Views.{flags_of, guids_of, is_home, version_of}
use Rattle.release_catalogue.specs.Lookup.{Chosen, matching}
use Rattle.device_list.specs.declared.selector.Selector.{Selector}
use Rattle.device_list.specs.Lists.{names}
use Rattle.history_keeper.specs.declared.row.Row.{Row}
use Rattle.history_keeper.specs.Histories.{is_unsettled}
use Rattle.update_log.specs.declared.event.Query.{Query}
use Rattle.update_log.specs.declared.event.Query.TheVariants as queries
use Rattle.update_log.specs.declared.facts.Facts.{Facts}
use Rattle.update_log.specs.declared.refusal.Refusal.TheVariants as refusals
use Rattle.update_log.specs.Once.{is_pending}
use Rattle.client_scripts.specs.Parts.{refused_as, retry_text, seen_text}
use Rattle.client_scripts.specs.Words.{order_word, problem_word, state_word}

-- ---- lines

-- A line of a reply stands behind two blanks.
abbrev pub reply_line : List ℕ → List ℕ
reply_line text = codes "  " ++ text ++ codes "\n"

-- The device isn't found, or it isn't present where it has to be.
abbrev pub no_device : List ℕ
no_device = reply_line (refused_as refusals.NoDevice)

-- There is nothing to list.
abbrev pub none_listed : List ℕ
none_listed = reply_line (codes "none")

-- How many are left out of a list.
abbrev pub left_out : ℕ → List ℕ
left_out more = if more == 0 then [] else reply_line (codes "more " ++ decimal more)

-- The first 64 of a list, each in its line, and how many are left out.
abbrev pub at_most_64 : {X : Type 0} → (X → List ℕ) → List X → List ℕ
at_most_64 line xs = if length xs == 0 then none_listed else flat_map line (take 64 xs) ++ left_out (length xs - 64)

-- Words with commas between them, and `-` where there are none.
abbrev pub with_commas : List (List ℕ) → List ℕ
with_commas [] = codes "-"
with_commas (word ∷ words) = word ++ flat_map (λ next. codes "," ++ next) words

-- The first device that a selector names.
abbrev pub device_named : List DeviceView → Selector → Option DeviceView
device_named views selector = find (names selector) views

-- ---- devices

-- The words of a set of flags, in the order of the flags.
abbrev pub flag_words : List Bool → List (List ℕ)
flag_words flags = map flag_word (filter (λ flag. has_flag flag flags) all_flags)

-- The problems, in their order.
abbrev pub all_problems : List Problem
all_problems =
    problems.SystemPowerTooLow ∷ problems.Unreachable ∷ problems.PowerTooLow ∷ problems.UpdatePending
    ∷ problems.RequireAcPower ∷ problems.LidIsClosed ∷ problems.UpdateInProgress ∷ []

-- The entry of the device's newest row that waits for the next boot.
abbrev pub waiting : List Row → List ℕ → Option ℕ
waiting rows device =
    option_map (λ row. row.entry) (find (λ row. is_pending row.state && bytes_eq row.device device) (reverse rows))

-- The words of the problems of a device that has this entry waiting for the next boot, or none.
abbrev pub problem_words : MachineFacts → DeviceView → Option ℕ → List (List ℕ)
problem_words machine view waits = map problem_word (filter (has_problem machine view waits) all_problems)

-- The name of a device behind a blank, where it has one.
abbrev pub name_text : List ℕ → List ℕ
name_text name = if length name == 0 then [] else codes " " ++ name

-- The front of a device's line: its port, what the port shows, and its flags.
unfoldable pub shown_text : DeviceView → List ℕ
shown_text view =
    view.sheet.port ++ codes " " ++ seen_text (Some view.sheet) view.seen ++ codes " flags " ++ with_commas (flag_words (flags_of view))

-- A device that has this entry waiting for the next boot, or none: that front, then its problems, its GUIDs and its name.
unfoldable pub told_text : MachineFacts → DeviceView → Option ℕ → List ℕ
told_text machine view waits =
    shown_text view
    ++ codes " problems " ++ with_commas (problem_words machine view waits)
    ++ codes " guids " ++ with_commas (map guid_text (guids_of view))
    ++ codes " name" ++ name_text view.sheet.name

abbrev pub device_line : MachineFacts → List Row → DeviceView → List ℕ
device_line machine rows view = reply_line (told_text machine view (waiting rows view.sheet.device))

-- ---- releases

-- A word that a component may have, behind what it is.
abbrev pub stated : List ℕ → Option (List ℕ) → List ℕ
stated what None = []
stated what (Some word) = what ++ word

-- The front of a release's line, which doesn't rest on what a device shows.
unfoldable pub known_text : Component → Release → List ℕ
known_text component release =
    component.id ++ codes " " ++ release.version ++ codes " urgency " ++ release.urgency ++ codes " size " ++ decimal release.size

-- A release of a component, for a device that shows this version.
unfoldable pub release_text : List ℕ → Component → Release → List ℕ
release_text shown component release =
    known_text component release ++ codes " " ++ order_word (version_cmp release.version shown)
    ++ stated (codes " format ") component.format ++ stated (codes " protocol ") component.protocol

abbrev pub release_line : List ℕ → Chosen → List ℕ
release_line shown chosen = reply_line (release_text shown chosen.component chosen.release)

-- The release is newer than what the device shows.
abbrev pub is_newer : List ℕ → Chosen → Bool
is_newer shown chosen = is_gt (version_cmp chosen.release.version shown)

-- The releases that match a device which shows a version, and of them the newer ones.
abbrev pub releases_shown : List Component → DeviceView → Option (List ℕ) → List ℕ
releases_shown components view None = no_device
releases_shown components view (Some shown) = at_most_64 (release_line shown) (matching components (guids_of view))

abbrev pub upgrades_shown : List Component → DeviceView → Option (List ℕ) → List ℕ
upgrades_shown components view None = no_device
upgrades_shown components view (Some shown) =
    at_most_64 (release_line shown) (filter (is_newer shown) (matching components (guids_of view)))

abbrev pub releases_reply : Facts → Option DeviceView → List ℕ
releases_reply facts None = no_device
releases_reply facts (Some view) = releases_shown facts.catalogue view (version_of view)

abbrev pub upgrades_reply : Facts → Option DeviceView → List ℕ
upgrades_reply facts None = no_device
upgrades_reply facts (Some view) = upgrades_shown facts.catalogue view (version_of view)

-- ---- rows

-- A row's device: the port of the device with that ID, or else the ID.
abbrev pub port_or_id : List ℕ → Option DeviceView → List ℕ
port_or_id device None = encode_lower device
port_or_id device (Some view) = view.sheet.port

abbrev pub device_text : List DeviceView → List ℕ → List ℕ
device_text views device = port_or_id device (find (λ view. bytes_eq device view.sheet.device) views)

-- The front of a row's line: its entry, tag and device, and the version shown before.
unfoldable pub asked_text : List DeviceView → Row → List ℕ
asked_text views row =
    decimal row.entry ++ codes " " ++ row.tag ++ codes " " ++ device_text views row.device ++ codes " " ++ row.version_old

-- A protocol, and a dash where there is none.
abbrev pub protocol_text : Option (List ℕ) → List ℕ
protocol_text None = codes "-"
protocol_text (Some protocol) = protocol

-- The end of a row's line: how long an install takes, its protocol, and the row that it tries again, if any.
unfoldable pub terms_text : Row → List ℕ
terms_text row = codes " " ++ decimal row.duration ++ codes " " ++ protocol_text row.protocol ++ retry_text row.retry_of

-- A row: that front, the version of the release, its state and its reason, and that end.
unfoldable pub row_text : List DeviceView → Row → List ℕ
row_text views row =
    asked_text views row ++ codes " " ++ row.version_new ++ codes " " ++ state_word row.state ++ codes " " ++ decimal row.reason ++ terms_text row

abbrev pub row_line : List DeviceView → Row → List ℕ
row_line views row = reply_line (row_text views row)

-- The rows, the newest first.
abbrev pub history_reply : List DeviceView → List Row → List ℕ
history_reply views rows = at_most_64 (row_line views) (reverse rows)

-- The newest row of a device.
abbrev pub newest_of : List Row → List ℕ → Option Row
newest_of rows device = find (λ row. bytes_eq device row.device) (reverse rows)

abbrev pub row_or_none : List DeviceView → Option Row → List ℕ
row_or_none views None = none_listed
row_or_none views (Some row) = row_line views row

abbrev pub results_reply : List DeviceView → List Row → Option DeviceView → List ℕ
results_reply views rows None = no_device
results_reply views rows (Some view) = row_or_none views (newest_of rows view.sheet.device)

-- The device's row that waits for its end.
abbrev pub unsettled_of : List Row → List ℕ → Option Row
unsettled_of rows device = find (λ row. bytes_eq row.device device && is_unsettled row.state) rows

-- What a client is told that would have a row judged, where there is none to judge.
abbrev pub waits_or_nothing : Option Row → List ℕ
waits_or_nothing None = reply_line (codes "nothing")
waits_or_nothing (Some row) = reply_line (codes "waits " ++ decimal row.entry)

abbrev pub settle_reply : List Row → Option DeviceView → List ℕ
settle_reply rows None = no_device
settle_reply rows (Some view) = if is_home view.seen then waits_or_nothing (unsettled_of rows view.sheet.device) else no_device

-- ---- replies

-- What a client is told.
abbrev pub reply : Facts → List DeviceView → List Row → Query → List ℕ
reply facts views rows queries.Devices = flat_map (device_line facts.machine rows) views
reply facts views rows (queries.Releases device) = releases_reply facts (device_named views device)
reply facts views rows (queries.Upgrades device) = upgrades_reply facts (device_named views device)
reply facts views rows queries.History = history_reply views rows
reply facts views rows (queries.Results device) = results_reply views rows (device_named views device)
reply facts views rows (queries.Settle device) = settle_reply rows (device_named views device)
