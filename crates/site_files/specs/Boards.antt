-- The section `boards`. The lines of a `do` are the fields in their order: word, kind, default.
use Rattle.std.specs.Prelude.{ℕ, ◌+◌, ◌||◌, nat_le, Bool, false, List, [], length, map, position, is_some, option_and_then, Option, None, Some, Result, Ok, if◌then◌else◌}
use Rattle.std.specs.List.{list_any, slice_get}
use Rattle.std.specs.Str.{bytes_eq}
use Rattle.std.specs.Result.{result_ok}
use Rattle.fw_base.specs.Names.{name_read}
use Rattle.fw_facts.specs.Flags.{no_flags}
use Rattle.version_formats.specs.declared.format.Format.{Format}
use Rattle.guid_ids.specs.Identifiers.{device_id, named_device, named_guid}
use Rattle.quirk_files.specs.Values.{format_of}
use Rattle.serde_json.specs.Data.{Data}
use Rattle.release_catalogue.specs.declared.word.Word.TheVariants as words
use Rattle.release_catalogue.specs.declared.reason.Reason.TheVariants.{WrongKind, Repeated, BadReference}
use Rattle.release_catalogue.specs.declared.spot.Level.TheVariants.{First}
use Rattle.release_catalogue.specs.declared.spot.Spot.{Spot}
use Rattle.release_catalogue.specs.declared.spot.Fault.{Fault}
use Rattle.release_catalogue.specs.Reading.{◌>>=◌, at_spot, maybe, optional, or_fault, refuse_if, the}
use Rattle.release_catalogue.specs.Kinds.{bool_at, line_at, list_at, name_at, number_at, object_at, plain_list_at, text_at, version_at}
use Rattle.site_scripts.specs.Places.{spot_in}
use Rattle.site_files.specs.declared.board.Head.{Head}
use Rattle.site_files.specs.declared.board.Lists.{Lists}
use Rattle.site_files.specs.declared.board.Numbers.{Numbers}
use Rattle.site_files.specs.declared.board.Rest.{Rest}
use Rattle.site_files.specs.declared.board.Placed.{Placed}
use Rattle.site_files.specs.declared.board.Standing.{Standing}
use Rattle.site_files.specs.Flags.{flags_at}
use Rattle.site_files.specs.Instances.{full_line_at, instance_at, instances_at}
use Rattle.site_files.specs.Plans.{plan_at}

-- ---- kinds

-- A version format, by its word.
abbrev pub format_at : Spot → Data → Result Format Fault
format_at spot d = do
  text ← text_at spot d
  or_fault spot WrongKind (format_of text)

-- An image: a text of up to 255 bytes.
abbrev pub image_at : Spot → Data → Result (List ℕ) Fault
image_at spot d = do
  text ← text_at spot d
  if nat_le (length text) 255 then Ok text else at_spot spot WrongKind

-- ---- a board among those before

-- The ports of some boards, in order.
abbrev pub ports_of : List Placed → List (List ℕ)
ports_of boards = map (λ placed. placed.board.sheet.port) boards

-- The place of the board with the port.
abbrev pub port_place : List ℕ → List Placed → Option ℕ
port_place port boards = position (bytes_eq port) (ports_of boards)

-- A board has the port.
abbrev pub has_port : List ℕ → List Placed → Bool
has_port port boards = list_any (bytes_eq port) (ports_of boards)

-- The board with the port.
abbrev pub with_port : List ℕ → List Placed → Option Placed
with_port port boards = option_and_then (λ at. slice_get boards at) (port_place port boards)

-- A port: a name that is no device ID and no GUID, and that no earlier board has.
unfoldable pub port_named : List Placed → Spot → List ℕ → Result (List ℕ) Fault
port_named earlier spot text = do
  name ← or_fault spot WrongKind (result_ok (name_read text))
  fits ← refuse_if (is_some (named_device name) || is_some (named_guid name)) spot WrongKind
  free ← refuse_if (has_port name earlier) spot Repeated
  Ok name

abbrev pub port_at : List Placed → Spot → Data → Result (List ℕ) Fault
port_at earlier spot d = do
  text ← text_at spot d
  port_named earlier spot text

-- A parent: an earlier board, by its port. The board then stands one deeper than it, at most at 8.
unfoldable pub parent_at : List Placed → Spot → Data → Result Standing Fault
parent_at earlier spot d = do
  text ← text_at spot d
  parent ← or_fault spot BadReference (with_port text earlier)
  fits ← refuse_if (nat_le 8 parent.depth) spot BadReference
  Ok (record { parent = Some parent.board.sheet.port; depth = parent.depth + 1 })

-- A board without a parent.
abbrev pub at_the_root : Standing
at_the_root = record { parent = None; depth = 0 }

unfoldable pub head_at : Spot → Data → Result Head Fault
head_at spot d = do
  physical ← the spot words.Physical full_line_at d
  logical ← maybe spot words.Logical line_at d
  priority ← optional spot words.Priority (number_at 0 1000) 0 d
  plugin ← the spot words.Plugin name_at d
  name ← optional spot words.Name line_at [] d
  vendor ← optional spot words.Vendor line_at [] d
  Ok (record { physical = physical; logical = logical; priority = priority; plugin = plugin; name = name; vendor = vendor })

unfoldable pub lists_at : Spot → Data → Result Lists Fault
lists_at spot d = do
  vendor_ids ← optional spot words.VendorIds (plain_list_at 64 name_at) [] d
  runtime ← the spot words.InstanceIds instances_at d
  loader ← optional spot words.LoaderInstanceIds instances_at runtime d
  counterparts ← optional spot words.Counterparts (plain_list_at 64 instance_at) [] d
  flags ← optional spot words.Flags flags_at no_flags d
  Ok (record { vendor_ids = vendor_ids; runtime = runtime; loader = loader; counterparts = counterparts; flags = flags })

unfoldable pub numbers_at : Spot → Data → Result Numbers Fault
numbers_at spot d = do
  format ← the spot words.VersionFormat format_at d
  protocol ← maybe spot words.Protocol name_at d
  bootloader ← maybe spot words.BootloaderVersion version_at d
  size_min ← optional spot words.SizeMin (number_at 0 4194304) 0 d
  size_max ← optional spot words.SizeMax (number_at 0 4194304) 4194304 d
  duration ← optional spot words.Duration (number_at 0 4294967295) 0 d
  Ok (record { format = format; protocol = protocol; bootloader = bootloader; size_min = size_min; size_max = size_max; duration = duration })

unfoldable pub rest_at : List Placed → Spot → Data → Result Rest Fault
rest_at earlier spot d = do
  standing ← optional spot words.Parent (parent_at earlier) at_the_root d
  image ← the spot words.Image image_at d
  unreachable ← optional spot words.Unreachable bool_at false d
  power_low ← optional spot words.PowerLow bool_at false d
  lid ← optional spot words.Lid bool_at false d
  faults ← optional spot words.Faults plan_at [] d
  Ok (record { standing = standing; image = image; unreachable = unreachable; power_low = power_low; lid = lid; faults = faults })

-- The board of its parts.
abbrev pub placed_of : List ℕ → Head → Lists → Numbers → Rest → Placed
placed_of port head lists numbers rest = record {
  board = record {
    sheet = record {
      port = port;
      device = device_id head.physical head.logical;
      priority = head.priority;
      plugin = head.plugin;
      name = head.name;
      vendor = head.vendor;
      vendor_ids = lists.vendor_ids;
      runtime_guids = lists.runtime;
      loader_guids = lists.loader;
      counterparts = lists.counterparts;
      flags = lists.flags;
      format = numbers.format;
      protocol = numbers.protocol;
      bootloader = numbers.bootloader;
      size_min = numbers.size_min;
      size_max = numbers.size_max;
      duration = numbers.duration;
      parent = rest.standing.parent;
      unreachable = rest.unreachable;
      power_low = rest.power_low;
      lid = rest.lid;
    };
    image = rest.image;
    faults = rest.faults;
  };
  depth = rest.standing.depth;
}

-- A board, among those before it.
unfoldable pub board_at : List Placed → Spot → Data → Result Placed Fault
board_at earlier spot d = do
  here ← object_at spot d
  port ← the spot words.Port (port_at earlier) d
  head ← head_at spot d
  lists ← lists_at spot d
  numbers ← numbers_at spot d
  rest ← rest_at earlier spot d
  Ok (placed_of port head lists numbers rest)

-- Up to 256 boards.
abbrev pub boards_at : Spot → Data → Result (List Placed) Fault
boards_at spot d = list_at 256 board_at spot (spot_in words.Boards words.Entry) First d
