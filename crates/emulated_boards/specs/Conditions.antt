-- What a board carries and shows, and what becomes of it beside its steps.
use Rattle.std.specs.Prelude.{Bool, is_some, None, unwrap_or, if◌then◌else◌}
use Rattle.fw_facts.specs.declared.seen.Mode.{Mode}
use Rattle.fw_facts.specs.declared.seen.Mode.TheVariants.{Runtime, Bootloader}
use Rattle.fw_facts.specs.declared.seen.Seen.{Seen}
use Rattle.fw_facts.specs.declared.seen.Seen.TheVariants as seen
use Rattle.emulated_boards.specs.declared.fault.BoardFault.{BoardFault}
use Rattle.emulated_boards.specs.declared.fault.BoardFault.TheVariants as faults
use Rattle.emulated_boards.specs.declared.image.Image.{Image}
use Rattle.emulated_boards.specs.declared.condition.Presence.{Presence}
use Rattle.emulated_boards.specs.declared.condition.Presence.TheVariants.{Home, Gone, Stranger}
use Rattle.emulated_boards.specs.declared.condition.Condition.{Condition}

-- a good image starts in runtime mode, a bad one leaves the board in its boot loader
abbrev pub start_mode : Image → Mode
start_mode image = if is_some image.raw then Runtime else Bootloader

-- a new board has this image, and stands in its port
abbrev pub fresh : Image → Condition
fresh image = record { image = image; staged = None; mode = start_mode image; presence = Home }

-- what a port shows; a bad image has the raw version 0
abbrev pub view_of : Condition → Seen
view_of it = seen_as it.presence (seen.Home (unwrap_or it.image.raw 0) it.mode)
  where
    seen_as : Presence → Seen → Seen
    seen_as Home home = home
    seen_as Gone home = seen.Gone
    seen_as Stranger home = seen.Stranger

-- the port shows the board itself
abbrev pub ShowsBoard : Seen → Type 0
ShowsBoard (seen.Home raw mode) = Unit {0}
ShowsBoard seen.Gone = ⊥
ShowsBoard seen.Stranger = ⊥

-- the image that runs behind a boot: the staged one, where there is one
abbrev pub booted_image : Condition → Image
booted_image it = unwrap_or it.staged it.image

-- a boot makes a staged image the image, and starts it; the board may be absent
abbrev pub booted : Bool → Condition → Condition
booted absent it = record {
  image = booted_image it;
  staged = None;
  mode = start_mode (booted_image it);
  presence = if absent then Gone else Home;
}

-- a board that is put into its port starts its image
abbrev pub plugged : Condition → Condition
plugged it = record it { mode = start_mode it.image; presence = Home }

-- a board that is taken out of its port
abbrev pub unplugged : Condition → Condition
unplugged it = record it { presence = Gone }

-- ---- what a step may leave

-- a good image leaves the mode, a bad one means bootloader mode
abbrev pub mode_under : Image → Mode → Mode
mode_under image mode = if is_some image.raw then mode else Bootloader

-- a write that went well: the board has this image
abbrev pub runs : Image → Condition → Condition
runs image it = record it { image = image; mode = mode_under image it.mode }

-- a torn write left a bad image
abbrev pub torn : Condition → Condition
torn it = record it { image = record it.image { raw = None }; mode = Bootloader }

-- where the board is after a fault
abbrev pub away : BoardFault → Condition → Condition
away faults.Failed it = it
away faults.Torn it = it
away faults.Gone it = record it { presence = Gone }
away faults.Stranger it = record it { presence = Stranger }
