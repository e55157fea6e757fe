-- The generated site: many boards of one kind, and clients that share none.
use Rattle.std.specs.Prelude.{◌≡◌, ℕ, ◌≤◌, ◌%◌, ◌==◌, Bool, true, false, if◌then◌else◌, List, [], ◌∷◌, ◌++◌, map, filter, codes, None, IsTrue}
use Rattle.std.specs.Fmt.{decimal}
use Rattle.std.specs.List.{flat_map, range_with_len}
use Rattle.sha2.specs.Sha256.{sha256}
use Rattle.guid_ids.specs.Identifiers.{device_id, guid}
use Rattle.version_formats.specs.declared.format.Format.TheVariants.{Triplet}
use Rattle.fw_facts.specs.Flags.{no_flags, set_flag}
use Rattle.fw_facts.specs.declared.flags.DeviceFlag.TheVariants.{Updatable}
use Rattle.fw_facts.specs.declared.machine.MachineFacts.{MachineFacts}
use Rattle.fw_facts.specs.declared.release.Release.{Release}
use Rattle.fw_facts.specs.declared.release.Component.{Component}
use Rattle.fw_facts.specs.declared.sheet.Sheet.{Sheet}
use Rattle.emulated_boards.specs.declared.fault.BoardFault.TheVariants.{Failed}
use Rattle.emulated_boards.specs.declared.fault.PlannedFault.{PlannedFault}
use Rattle.device_list.specs.declared.selector.Selector.TheVariants.{Port}
use Rattle.update_log.specs.declared.event.Query.TheVariants.{Results}
use Rattle.update_log.specs.declared.facts.BootPlan.{BootPlan}
use Rattle.update_log.specs.declared.request.Request.{Request}
use Rattle.client_scripts.specs.declared.item.Item.{Item}
use Rattle.client_scripts.specs.declared.item.Item.TheVariants.{Ask, Install}
use Rattle.site_types.specs.declared.site.Site.{Site}
use Rattle.site_types.specs.declared.site.SiteBoard.{SiteBoard}

-- ---- the machine and its component

-- a daemon of version 1.9.5, on external power, with the lid open
abbrev pub made_machine : MachineFacts
made_machine = record {
  ids = (codes "org.freedesktop.fwupd", codes "1.9.5") ∷ [];
  hardware = [];
  on_ac = true;
  power_low = false;
  lid_closed = false;
}

-- what every board is
abbrev pub board_guid : List ℕ
board_guid = guid (codes "EMU\\BOARD")

-- the version that is installed, and the payload of it
abbrev pub new_version : List ℕ
new_version = codes "1.1.0"

abbrev pub new_payload : List ℕ
new_payload = codes "EMU1 01010000\n"

-- the image of each board at first, of version 1.0.0
abbrev pub first_image : List ℕ
first_image = codes "EMU1 01000000\n"

abbrev pub made_release : Release
made_release = record { version = new_version; urgency = codes "unknown"; digest = sha256 new_payload; size = 14 }

-- the one component: it provides what every board is, and requires nothing
abbrev pub made_component : Component
made_component = record {
  id = codes "com.example.make";
  name = [];
  provides = board_guid ∷ [];
  requirements = [];
  format = None;
  protocol = None;
  releases = made_release ∷ [];
}

-- ---- boards

-- board i stands in the port `b` and i
abbrev pub made_port : ℕ → List ℕ
made_port i = codes "b" ++ decimal i

-- its physical ID is `p` and i; all else is the same for each
abbrev pub made_sheet : ℕ → Sheet
made_sheet i = record {
  port = made_port i;
  device = device_id (codes "p" ++ decimal i) None;
  priority = 0;
  plugin = codes "flash";
  name = [];
  vendor = [];
  vendor_ids = [];
  runtime_guids = board_guid ∷ [];
  loader_guids = board_guid ∷ [];
  counterparts = [];
  flags = set_flag Updatable true no_flags;
  format = Triplet;
  protocol = None;
  bootloader = None;
  size_min = 0;
  size_max = 4194304;
  duration = 0;
  parent = None;
  unreachable = false;
  power_low = false;
  lid = false;
}

-- the first call of each fifth board fails
abbrev pub made_faults : ℕ → List PlannedFault
made_faults i = if i % 5 == 0 then record { call = 1; fault = Failed } ∷ [] else []

abbrev pub made_board : ℕ → SiteBoard
made_board i = record { sheet = made_sheet i; image = first_image; faults = made_faults i }

-- ---- scripts

-- an install of the new version on board i, under the tag `t` and i
abbrev pub made_request : ℕ → Request
made_request i = record {
  tag = codes "t" ++ decimal i;
  device = Port (made_port i);
  version = new_version;
  flags = record { offline = false; allow_reinstall = false; allow_older = false };
  retry_of = None;
}

-- what is done for board i: the install, the same again, and what became of it
abbrev pub made_items : ℕ → List Item
made_items i = Install (made_request i) ∷ Install (made_request i) ∷ Ask (Results (Port (made_port i))) ∷ []

-- board i is client c's where i - c is divisible by the number of clients
abbrev pub is_board_of : ℕ → ℕ → ℕ → Bool
is_board_of clients c i = i % clients == c % clients

-- no board is of two clients
abbrev pub NoneShared : ℕ → Type 0
NoneShared clients =
    (c d i : ℕ) → 1 ≤ c → c ≤ clients → 1 ≤ d → d ≤ clients → IsTrue (is_board_of clients c i) → IsTrue (is_board_of clients d i) → c ≡ d

-- what a client does: all that for each of its boards, in rising order
abbrev pub made_script : ℕ → ℕ → ℕ → List Item
made_script boards clients c = flat_map made_items (filter (is_board_of clients c) (range_with_len 1 boards))

-- ---- the site

-- one boot, at time 0, in which no power is cut and no board is absent
abbrev pub made_boot : BootPlan
made_boot = record { time = 0; limit = None; absent = [] }

-- this many boards and clients; no quirks
abbrev pub made_site : ℕ → ℕ → Site
made_site boards clients = record {
  machine = made_machine;
  pool = 64;
  quirks = [];
  catalogue = made_component ∷ [];
  remotes = [];
  boards = map made_board (range_with_len 1 boards);
  features = map (λ c. []) (range_with_len 1 clients);
  boots = made_boot ∷ [];
  scripts = map (made_script boards clients) (range_with_len 1 clients) ∷ [];
}
