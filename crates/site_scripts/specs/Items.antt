-- The items of scripts. The lines of a `do` are the fields in their order: word, kind, default.
use Rattle.std.specs.Prelude.{ℕ, nat_le, true, false, List, [], ◌∷◌, codes, find, Option, None, Some, Result, Ok}
use Rattle.std.specs.Str.{bytes_eq}
use Rattle.guid_ids.specs.Identifiers.{named_device, named_guid}
use Rattle.device_list.specs.declared.selector.Selector.{Selector}
use Rattle.device_list.specs.declared.selector.Selector.TheVariants as selectors
use Rattle.update_log.specs.declared.event.Query.TheVariants as queries
use Rattle.update_log.specs.declared.request.InstallFlags.{InstallFlags}
use Rattle.client_scripts.specs.declared.item.Item.{Item}
use Rattle.client_scripts.specs.declared.item.Item.TheVariants as «items»
use Rattle.serde_json.specs.Data.{Data, Items, no_items, item}
use Rattle.release_catalogue.specs.declared.word.Word.TheVariants as words
use Rattle.release_catalogue.specs.declared.reason.Reason.TheVariants.{WrongKind, TooMany}
use Rattle.release_catalogue.specs.declared.spot.Spot.{Spot}
use Rattle.release_catalogue.specs.declared.spot.Fault.{Fault}
use Rattle.release_catalogue.specs.Reading.{◌>>=◌, field_of, maybe, optional, or_fault, refuse_if, the}
use Rattle.release_catalogue.specs.Kinds.{items_at, name_at, number_at, object_at, text_at, version_at}
use Rattle.site_scripts.specs.declared.verb.Verb.{Verb}
use Rattle.site_scripts.specs.declared.verb.Verb.TheVariants as verbs
use Rattle.site_scripts.specs.declared.flags.FlagWord.{FlagWord}
use Rattle.site_scripts.specs.declared.flags.FlagWord.TheVariants as flag_words

-- The words of what an item does.
abbrev pub verb_word : Verb → List ℕ
verb_word verbs.GetDevices = codes "get-devices"
verb_word verbs.GetReleases = codes "get-releases"
verb_word verbs.GetUpgrades = codes "get-upgrades"
verb_word verbs.Install = codes "install"
verb_word verbs.GetHistory = codes "get-history"
verb_word verbs.GetResults = codes "get-results"
verb_word verbs.Settle = codes "settle"
verb_word verbs.Unplug = codes "unplug"
verb_word verbs.Plug = codes "plug"

abbrev pub all_verbs : List Verb
all_verbs =
    verbs.GetDevices ∷ verbs.GetReleases ∷ verbs.GetUpgrades ∷ verbs.Install ∷ verbs.GetHistory ∷ verbs.GetResults
    ∷ verbs.Settle ∷ verbs.Unplug ∷ verbs.Plug ∷ []

-- What an item does, by its word.
abbrev pub verb_at : Spot → Data → Result Verb Fault
verb_at spot d = do
  text ← text_at spot d
  or_fault spot WrongKind (find (λ verb. bytes_eq (verb_word verb) text) all_verbs)

-- A device that a name names: by its ID, by a GUID, or else by a port.
abbrev pub selected : List ℕ → Option (List ℕ) → Option (List ℕ) → Selector
selected name (Some device) guid = selectors.Id device
selected name None (Some guid) = selectors.Guid guid
selected name None None = selectors.Port name

abbrev pub selector_at : Spot → Data → Result Selector Fault
selector_at spot d = do
  name ← name_at spot d
  Ok (selected name (named_device name) (named_guid name))

-- The words of the flags of an install.
abbrev pub flag_word : FlagWord → List ℕ
flag_word flag_words.Offline = codes "offline"
flag_word flag_words.AllowReinstall = codes "allow-reinstall"
flag_word flag_words.AllowOlder = codes "allow-older"

abbrev pub all_flag_words : List FlagWord
all_flag_words = flag_words.Offline ∷ flag_words.AllowReinstall ∷ flag_words.AllowOlder ∷ []

abbrev pub flag_word_at : Spot → Data → Result FlagWord Fault
flag_word_at spot d = do
  text ← text_at spot d
  or_fault spot WrongKind (find (λ word. bytes_eq (flag_word word) text) all_flag_words)

-- The flags with one more.
abbrev pub with_flag : FlagWord → InstallFlags → InstallFlags
with_flag flag_words.Offline flags = record flags { offline = true }
with_flag flag_words.AllowReinstall flags = record flags { allow_reinstall = true }
with_flag flag_words.AllowOlder flags = record flags { allow_older = true }

abbrev pub no_install_flags : InstallFlags
no_install_flags = record { offline = false; allow_reinstall = false; allow_older = false }

-- The flags of a list, beside those before.
abbrev pub each_install_flag : Spot → InstallFlags → Items → Result InstallFlags Fault
each_install_flag spot flags no_items = Ok flags
each_install_flag spot flags (item d ds) = do
  word ← flag_word_at spot d
  each_install_flag spot (with_flag word flags) ds

-- The flags of an install.
abbrev pub install_flags_at : Spot → Data → Result InstallFlags Fault
install_flags_at spot d = do
  ds ← items_at spot d
  each_install_flag spot no_install_flags ds

-- An install.
unfoldable pub install_at : Spot → Data → Result Item Fault
install_at spot d = do
  device ← the spot words.Device selector_at d
  tag ← the spot words.Tag name_at d
  version ← the spot words.Version version_at d
  flags ← optional spot words.Flags install_flags_at no_install_flags d
  retry_of ← maybe spot words.RetryOf (number_at 1 65536) d
  Ok («items».Install (record { tag = tag; device = device; version = version; flags = flags; retry_of = retry_of }))

-- The item, by what it does. Members that it has no use for are passed over.
unfoldable pub done_at : Verb → Spot → Data → Result Item Fault
done_at verbs.GetDevices spot d = Ok («items».Ask queries.Devices)
done_at verbs.GetReleases spot d = the spot words.Device selector_at d >>= λ device. Ok («items».Ask (queries.Releases device))
done_at verbs.GetUpgrades spot d = the spot words.Device selector_at d >>= λ device. Ok («items».Ask (queries.Upgrades device))
done_at verbs.Install spot d = install_at spot d
done_at verbs.GetHistory spot d = Ok («items».Ask queries.History)
done_at verbs.GetResults spot d = the spot words.Device selector_at d >>= λ device. Ok («items».Ask (queries.Results device))
done_at verbs.Settle spot d = the spot words.Device selector_at d >>= λ device. Ok («items».Settle device)
done_at verbs.Unplug spot d = the spot words.Device selector_at d >>= λ device. Ok («items».Unplug device)
done_at verbs.Plug spot d = the spot words.Device selector_at d >>= λ device. Ok («items».Plug device)

-- An item, where so many were taken before: at most 8,192 in all boots.
unfoldable pub item_at : ℕ → Spot → Data → Result Item Fault
item_at taken spot d = do
  here ← object_at spot d
  fits ← refuse_if (nat_le 8192 taken) (field_of spot words.Do) TooMany
  verb ← the spot words.Do verb_at d
  done_at verb spot d
