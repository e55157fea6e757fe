-- Three logs that are legal, and three that break one rule each.
--
-- One board with the version 1.0.0, for which the catalogue has 1.1.0.
use Rattle.std.specs.Prelude.{ℕ, true, false, List, [], ◌∷◌, ◌++◌, Some, None, Result, Ok, replicate, codes}
use Rattle.version_formats.specs.declared.format.Format.{Format}
use Rattle.fw_facts.specs.declared.flags.DeviceFlag.{DeviceFlag}
use Rattle.fw_facts.specs.declared.machine.MachineFacts.{MachineFacts}
use Rattle.fw_facts.specs.declared.requirement.Requirement.{Requirement}
use Rattle.fw_facts.specs.declared.release.Component.{Component}
use Rattle.fw_facts.specs.declared.release.Release.{Release}
use Rattle.fw_facts.specs.declared.seen.Seen.{Seen}
use Rattle.fw_facts.specs.declared.seen.Mode.{Mode}
use Rattle.fw_facts.specs.declared.sheet.Sheet.{Sheet}
use Rattle.fw_facts.specs.Flags.{no_flags, set_flag}
use Rattle.emulated_boards.specs.declared.mark.Mark.{Mark}
use Rattle.emulated_boards.specs.declared.fault.BoardFault.{BoardFault}
use Rattle.device_list.specs.declared.selector.Selector.{Selector}
use Rattle.history_keeper.specs.declared.row.RowState.{RowState}
use Rattle.requirements.specs.declared.unmet.UnmetCause.{UnmetCause}
use Rattle.release_catalogue.specs.declared.reference.ReleaseRef.{ReleaseRef}
use Rattle.update_log.specs.declared.event.Event.{Event}
use Rattle.update_log.specs.declared.event.Op.{Op}
use Rattle.update_log.specs.declared.event.Found.{Found}
use Rattle.update_log.specs.declared.event.Stored.{Stored}
use Rattle.update_log.specs.declared.event.Back.{Back}
use Rattle.update_log.specs.declared.event.BoardSeen.{BoardSeen}
use Rattle.update_log.specs.declared.answer.AskAnswer.{AskAnswer}
use Rattle.update_log.specs.declared.answer.ClaimAnswer.{ClaimAnswer}
use Rattle.update_log.specs.declared.answer.ResumeAnswer.{ResumeAnswer}
use Rattle.update_log.specs.declared.refusal.FetchNote.{FetchNote}
use Rattle.update_log.specs.declared.refusal.Refusal.{Refusal}
use Rattle.update_log.specs.declared.request.Request.{Request}
use Rattle.update_log.specs.declared.request.InstallFlags.{InstallFlags}
use Rattle.update_log.specs.declared.facts.Facts.{Facts}
use Rattle.update_log.specs.declared.facts.BootPlan.{BootPlan}
use Rattle.update_log.specs.Shows.{Campaign}
use Rattle.update_log.specs.Legal.{Legal}
use Rattle.update_log.specs.Known.{basis_of}

-- What is fixed.

-- A machine on power.
abbrev pub machine : MachineFacts
machine = record { ids = []; hardware = []; on_ac = true; power_low = false; lid_closed = false }

-- The GUIDs, and the device IDs, of two boards.
abbrev pub guid_one : List ℕ
guid_one = replicate 16 1

abbrev pub guid_two : List ℕ
guid_two = replicate 16 2

abbrev pub device_one : List ℕ
device_one = replicate 20 1

abbrev pub device_two : List ℕ
device_two = replicate 20 2

-- The digest of the payload of 1.1.0, and another one.
abbrev pub digest : List ℕ
digest = replicate 32 17

abbrev pub other_digest : List ℕ
other_digest = replicate 32 18

-- A board in a port, which takes updates.
abbrev pub sheet : List ℕ → List ℕ → List ℕ → Sheet
sheet port device guid =
    record {
      port = port;
      device = device;
      priority = 0;
      plugin = codes "flash";
      name = [];
      vendor = [];
      vendor_ids = [];
      runtime_guids = guid ∷ [];
      loader_guids = guid ∷ [];
      counterparts = [];
      flags = set_flag DeviceFlag.Updatable true no_flags;
      format = Format.Triplet;
      protocol = None;
      bootloader = None;
      size_min = 0;
      size_max = 4194304;
      duration = 0;
      parent = None;
      unreachable = false;
      power_low = false;
      lid = false;
    }

-- The release 1.1.0 for the first board, with what it requires.
abbrev pub release : Release
release = record { version = codes "1.1.0"; urgency = codes "unknown"; digest = digest; size = 14 }

abbrev pub hub : List Requirement → Component
hub requirements =
    record {
      id = codes "com.example.hub";
      name = codes "Hub";
      provides = guid_one ∷ [];
      requirements = requirements;
      format = None;
      protocol = None;
      releases = release ∷ [];
    }

abbrev pub facts : List Requirement → List Sheet → Facts
facts requirements sheets =
    record {
      machine = machine;
      catalogue = hub requirements ∷ [];
      features = [];
      vetoes = record { plugin = codes "flash"; rules = [] } ∷ [];
      sheets = sheets;
      pool = 16;
    }

-- The raw numbers of 1.0.0 and of 1.1.0, and how a board shows them.
abbrev pub old : Seen
old = Seen.Home 0x01000000 Mode.Runtime

abbrev pub new : Seen
new = Seen.Home 0x01010000 Mode.Runtime

-- A board whose image is torn.
abbrev pub torn : Seen
torn = Seen.Home 0 Mode.Bootloader

abbrev pub one_board : List BootPlan → Campaign
one_board plans =
    record { basis = basis_of (facts [] (sheet (codes "usb1") device_one guid_one ∷ [])) []; first = old ∷ []; plans = plans }

-- A whole install.

abbrev pub no_flags_set : InstallFlags
no_flags_set = record { offline = false; allow_reinstall = false; allow_older = false }

abbrev pub request : Request
request =
    record { tag = codes "t1"; device = Selector.Port (codes "usb1"); version = codes "1.1.0"; flags = no_flags_set; retry_of = None }

abbrev pub found : ReleaseRef
found = record { component = 0; release = 0 }

abbrev pub shows : ℕ → Seen → List Mark → BoardSeen
shows board seen untold = record { board = board; seen = seen; untold = untold }

abbrev pub well : Result (Unit {0}) BoardFault
well = Ok tt

abbrev pub plain_boot : Event
plain_boot = Event.Boot 1 1000 None Found.Plain (shows 0 old [] ∷ [])

abbrev pub ask : Event
ask = Event.Ask 1 request None (AskAnswer.Hold 1 found)

abbrev pub claim : Event
claim = Event.Claim 1 request (FetchNote.Whole digest 14 0x01010000) (ClaimAnswer.Entry 1)

abbrev pub start : Op → Event
start op = Event.Start 1 1 op

abbrev pub ended : Op → List Mark → Seen → Event
ended op told seen = Event.End 1 1 op well told seen

abbrev pub both_marks : List Mark
both_marks = Mark.Began 1 ∷ Mark.Ended 1 digest ∷ []

abbrev pub one_plan : Campaign
one_plan = one_board (record { time = 1000; limit = None; absent = [] } ∷ [])

abbrev pub install : List Event
install =
    plain_boot ∷ ask ∷ claim
    ∷ start Op.Prepare ∷ ended Op.Prepare [] old
    ∷ start Op.Write ∷ ended Op.Write both_marks new
    ∷ start Op.Reload ∷ ended Op.Reload [] new
    ∷ start Op.Cleanup ∷ ended Op.Cleanup [] new
    ∷ Event.Finish 1 1 RowState.Success Stored.Yes ∷ []

abbrev pub InstallIsLegal : Type 0
InstallIsLegal = Legal one_plan install

-- A torn write: the power is cut after five counted events, in the midst of the write. The next boot
-- tells that the write began, and the row is judged by the version that the board shows then.

abbrev pub two_plans : Campaign
two_plans =
    one_board (record { time = 1000; limit = Some 5; absent = [] } ∷ record { time = 2000; limit = None; absent = [] } ∷ [])

abbrev pub cut_write : List Event
cut_write =
    Event.Boot 1 1000 (Some 5) Found.Plain (shows 0 old [] ∷ [])
    ∷ ask ∷ claim
    ∷ start Op.Prepare ∷ ended Op.Prepare [] old
    ∷ start Op.Write
    ∷ Event.Cut ∷ Event.GiveBack 1 (Back.Entry 1)
    ∷ Event.Boot 2 2000 None Found.Plain (shows 0 torn (Mark.Began 1 ∷ []) ∷ []) ∷ []

abbrev pub judged : RowState → Event
judged state = Event.Judge 0 1 (codes "0.0.0") state Stored.Yes

abbrev pub torn_write : List Event
torn_write = cut_write ++ judged RowState.Failed ∷ []

abbrev pub TornWriteIsLegal : Type 0
TornWriteIsLegal = Legal two_plans torn_write

-- An offline install whose release requires another device: at the next boot that one is absent, so
-- the request is refused, and its row has failed for that reason.

abbrev pub two_boards : Campaign
two_boards =
    record {
      basis =
          basis_of
          (facts (Requirement.Device guid_two None ∷ [])
          (sheet (codes "usb1") device_one guid_one ∷ sheet (codes "usb2") device_two guid_two ∷ []))
          [];
      first = old ∷ old ∷ [];
      plans =
          record { time = 1000; limit = None; absent = [] } ∷ record { time = 2000; limit = None; absent = 1 ∷ [] } ∷ [];
    }

abbrev pub offline : InstallFlags
offline = record { offline = true; allow_reinstall = false; allow_older = false }

abbrev pub offline_request : Request
offline_request =
    record { tag = codes "t1"; device = Selector.Port (codes "usb1"); version = codes "1.1.0"; flags = offline; retry_of = None }

-- The request that its row makes.
abbrev pub row_request : Request
row_request =
    record { tag = codes "t1"; device = Selector.Id device_one; version = codes "1.1.0"; flags = offline; retry_of = None }

abbrev pub no_device : Refusal
no_device = Refusal.Unmet (record { index = 0; cause = UnmetCause.NoSuchDevice })

abbrev pub offline_install : List Event
offline_install =
    Event.Boot 1 1000 None Found.Plain (shows 0 old [] ∷ shows 1 old [] ∷ [])
    ∷ Event.Schedule 1 offline_request (ClaimAnswer.Entry 1)
    ∷ Event.Boot 2 2000 None Found.Plain (shows 0 old [] ∷ shows 1 Seen.Gone [] ∷ [])
    ∷ Event.Ask 0 row_request (Some 1) (AskAnswer.Refused no_device)
    ∷ Event.Resume 0 1 None (ResumeAnswer.Refused no_device) Stored.Yes ∷ []

abbrev pub OfflineInstallIsLegal : Type 0
OfflineInstallIsLegal = Legal two_boards offline_install

-- Logs that break one rule.

-- A payload with another digest is taken.
abbrev pub unhashed : List Event
unhashed = plain_boot ∷ ask ∷ Event.Claim 1 request (FetchNote.Whole other_digest 14 0x01010000) (ClaimAnswer.Entry 1) ∷ []

abbrev pub UnhashedIsNot : Type 0
UnhashedIsNot = Legal one_plan unhashed → ⊥

-- After a restart an entry goes on that was begun before it.
abbrev pub gone_on : List Event
gone_on = cut_write ++ start Op.Write ∷ []

abbrev pub GoneOnIsNot : Type 0
GoneOnIsNot = Legal two_plans gone_on → ⊥

-- The torn write is judged a success.
abbrev pub trusted : List Event
trusted = cut_write ++ judged RowState.Success ∷ []

abbrev pub TrustedIsNot : Type 0
TrustedIsNot = Legal two_plans trusted → ⊥
