-- The section `machine`. The lines of a `do` are the fields in their order: word, kind, default.
use Rattle.std.specs.Prelude.{ℕ, suc, List, [], ◌∷◌, ◌++◌, codes, nat_lt, true, false, Result, Ok}
use Rattle.std.specs.Result.{result_ok}
use Rattle.fw_base.specs.Names.{name_read}
use Rattle.guid_ids.specs.declared.hardware.SmbiosFields.{SmbiosFields}
use Rattle.guid_ids.specs.Identifiers.{hardware_ids, smbios_read}
use Rattle.serde_json.specs.Data.{Data, Members, no_members, member}
use Rattle.serde_json.specs.Find.{as_object}
use Rattle.release_catalogue.specs.declared.word.Word.TheVariants as words
use Rattle.release_catalogue.specs.declared.reason.Reason.TheVariants.{WrongKind, TooMany}
use Rattle.release_catalogue.specs.declared.spot.Spot.{Spot}
use Rattle.release_catalogue.specs.declared.spot.Fault.{Fault}
use Rattle.release_catalogue.specs.Reading.{◌>>=◌, optional, or_fault, refuse_if, the}
use Rattle.release_catalogue.specs.Kinds.{bool_at, guid_at, number_at, object_at, plain_list_at, text_at, version_at}
use Rattle.site_files.specs.declared.machine.Known.{Known}
use Rattle.site_files.specs.declared.machine.Power.{Power}
use Rattle.site_files.specs.declared.machine.Machine.{Machine}
use Rattle.site_scripts.specs.Places.{optional_here, spot_in}

-- What runs on the machine: a name, and its version.
unfoldable pub id_at : Spot → List ℕ → Data → Result (List ℕ × List ℕ) Fault
id_at spot key d = do
  name ← or_fault spot WrongKind (result_ok (name_read key))
  version ← version_at spot d
  Ok (name, version)

-- The members of an object, behind those that were read before.
abbrev pub each_id : Spot → List (List ℕ × List ℕ) → Members → Result (List (List ℕ × List ℕ)) Fault
each_id spot earlier no_members = Ok earlier
each_id spot earlier (member key d ms) = do
  id ← id_at spot key d
  each_id spot (earlier ++ id ∷ []) ms

-- How many members an object has.
abbrev pub members_len : Members → ℕ
members_len no_members = 0
members_len (member key d ms) = suc (members_len ms)

-- An object from names to versions, up to 64, in the order of its keys.
abbrev pub ids_at : Spot → Data → Result (List (List ℕ × List ℕ)) Fault
ids_at spot d = do
  ms ← or_fault spot WrongKind (as_object d)
  fits ← refuse_if (nat_lt 64 (members_len ms)) spot TooMany
  each_id spot [] ms

-- A text of the machine's firmware.
abbrev pub smbios_text_at : Spot → Data → Result (List ℕ) Fault
smbios_text_at spot d = do
  text ← text_at spot d
  or_fault spot WrongKind (smbios_read text)

-- What the machine's firmware says of it. The faults of its members are told of the whole.
unfoldable pub smbios_at : Spot → Data → Result SmbiosFields Fault
smbios_at spot d = do
  here ← object_at spot d
  manufacturer ← optional_here spot words.Manufacturer smbios_text_at [] d
  family ← optional_here spot words.Family smbios_text_at [] d
  product ← optional_here spot words.Product smbios_text_at [] d
  sku ← optional_here spot words.Sku smbios_text_at [] d
  Ok (record { manufacturer = manufacturer; family = family; product = product; sku = sku })

abbrev pub no_smbios : SmbiosFields
no_smbios = record { manufacturer = []; family = []; product = []; sku = [] }

-- The ID under which the daemon's own version stands.
abbrev pub daemon_id : List ℕ
daemon_id = codes "org.freedesktop.fwupd"

-- The hardware IDs that the texts of the firmware give.
abbrev pub hardware_of : SmbiosFields → List (List ℕ)
hardware_of fields = hardware_ids fields.manufacturer fields.family fields.product fields.sku

-- What is known of the machine: what runs on it, the daemon first, and its hardware IDs.
unfoldable pub known_at : Spot → Data → Result Known Fault
known_at spot d = do
  daemon ← the spot words.Daemon version_at d
  ids ← optional spot words.Ids ids_at [] d
  smbios ← optional spot words.Smbios smbios_at no_smbios d
  hardware ← optional spot words.Hardware (plain_list_at 64 guid_at) [] d
  Ok (record { ids = (daemon_id, daemon) ∷ ids; hardware = hardware_of smbios ++ hardware })

-- How the machine is powered, and its lid.
unfoldable pub power_at : Spot → Data → Result Power Fault
power_at spot d = do
  on_ac ← optional spot words.OnAc bool_at true d
  power_low ← optional spot words.PowerLow bool_at false d
  lid_closed ← optional spot words.LidClosed bool_at false d
  Ok (record { on_ac = on_ac; power_low = power_low; lid_closed = lid_closed })

-- The place of the machine's fields.
abbrev pub machine_spot : Spot
machine_spot = spot_in words.Machine words.Entry

-- The machine, and how many blocks its pool has.
unfoldable pub machine_at : Spot → Data → Result Machine Fault
machine_at spot d = do
  here ← object_at spot d
  known ← known_at machine_spot d
  power ← power_at machine_spot d
  pool ← the machine_spot words.Pool (number_at 0 16384) d
  Ok (record {
    facts = record {
      ids = known.ids;
      hardware = known.hardware;
      on_ac = power.on_ac;
      power_low = power.power_low;
      lid_closed = power.lid_closed;
    };
    pool = pool;
  })
