-- What is decided and found in small logs, one line a case.
use Rattle.std.specs.Prelude.{◌≡◌, ℕ, true, false, List, [], ◌∷◌}
use Rattle.std.specs.Prelude.{Some, None, codes, Err, replicate}
use Rattle.fw_facts.specs.declared.flags.DeviceFlag.{DeviceFlag}
use Rattle.fw_facts.specs.declared.seen.Seen.{Seen}
use Rattle.fw_facts.specs.declared.seen.Mode.{Mode}
use Rattle.fw_facts.specs.declared.sheet.Sheet.{Sheet}
use Rattle.fw_facts.specs.declared.machine.MachineTest.{MachineTest}
use Rattle.fw_facts.specs.declared.problem.Problem.{Problem}
use Rattle.fw_facts.specs.Flags.{no_flags, set_flag}
use Rattle.emulated_boards.specs.declared.mark.Mark.{Mark}
use Rattle.emulated_boards.specs.declared.fault.BoardFault.{BoardFault}
use Rattle.history_keeper.specs.declared.row.Row.{Row}
use Rattle.history_keeper.specs.declared.row.RowState.{RowState}
use Rattle.update_log.specs.declared.event.Event.{Event}
use Rattle.update_log.specs.declared.event.Op.{Op}
use Rattle.update_log.specs.declared.event.Found.{Found}
use Rattle.update_log.specs.declared.event.Stored.{Stored}
use Rattle.update_log.specs.declared.answer.ClaimAnswer.{ClaimAnswer}
use Rattle.update_log.specs.declared.refusal.Refusal.{Refusal}
use Rattle.update_log.specs.declared.refusal.FetchNote.{FetchNote}
use Rattle.update_log.specs.declared.refusal.RetryFault.{RetryFault}
use Rattle.update_log.specs.declared.request.Request.{Request}
use Rattle.update_log.specs.declared.facts.Facts.{Facts}
use Rattle.update_log.specs.declared.decision.Decision.{Decision}
use Rattle.update_log.specs.declared.decision.Stage.{Stage}
use Rattle.update_log.specs.Pasts.{off}
use Rattle.update_log.specs.Boards.{board_with, board_at}
use Rattle.update_log.specs.Verdicts.{verdict}
use Rattle.update_log.specs.Steps.{next_op, closing}
use Rattle.update_log.specs.Examples.{facts, sheet, machine, device_one, device_two, guid_one, guid_two, digest, other_digest, old, well, shows, both_marks, request, found, ask, claim, start, ended}
use Rattle.update_log.specs.Known.{basis_of}

-- After a boot that shows 1.0.0, an ask for 1.1.0 and its claim, entry 1 is live.
abbrev pub boot : Event
boot = Event.Boot 1 1000 None Found.Plain (shows 0 old [] ∷ [])

abbrev pub claimed : List Event
claimed = claim ∷ ask ∷ boot ∷ []

abbrev pub plain_facts : Facts
plain_facts = facts [] (sheet (codes "usb1") device_one guid_one ∷ [])

-- The board with one flag more.
abbrev pub flagged : DeviceFlag → Sheet
flagged flag =
    record (sheet (codes "usb1") device_one guid_one) {
      flags = set_flag flag true (set_flag DeviceFlag.Updatable true no_flags);
    }

abbrev pub with_sheet : Sheet → Facts
with_sheet s = facts [] (s ∷ [])

-- Another request of the same client or of another one.
abbrev pub second_request : Request
second_request = record request { tag = codes "t2" }

-- ---- a device that needs a reboot

abbrev pub reboot_facts : Facts
reboot_facts = with_sheet (flagged DeviceFlag.NeedsReboot)

-- The write went well, and the board still shows 1.0.0.
abbrev pub staged : List Event
staged =
    ended Op.Cleanup [] old ∷ start Op.Cleanup ∷ ended Op.Reload [] old ∷ start Op.Reload
    ∷ ended Op.Write both_marks old ∷ start Op.Write ∷ ended Op.Prepare [] old ∷ start Op.Prepare ∷ claimed

abbrev pub waiting : List Event
waiting = Event.Finish 1 1 RowState.NeedsReboot Stored.Yes ∷ staged

pub record NeedsReboot : Type 0 where
  pub closes : closing (basis_of reboot_facts []) staged 1 ≡ Some RowState.NeedsReboot
  pub refused : verdict (basis_of reboot_facts []) waiting 1 second_request Stage.Ask ≡ Decision.Refused (Refusal.Unsettled 1)
  pub kept : verdict (basis_of reboot_facts []) waiting 1 request Stage.Ask ≡ Decision.Kept 1 RowState.NeedsReboot

-- ---- a device that needs its boot loader

abbrev pub loader : Sheet
loader = flagged DeviceFlag.NeedsBootloader

abbrev pub loader_facts : Facts
loader_facts = with_sheet loader

-- Its boot loader shows a GUID that the component doesn't provide, and that GUID may be a counterpart.
abbrev pub unfit_facts : Facts
unfit_facts = with_sheet (record loader { loader_guids = guid_two ∷ [] })

abbrev pub counterpart_facts : Facts
counterpart_facts = with_sheet (record loader { loader_guids = guid_two ∷ []; counterparts = guid_two ∷ [] })

abbrev pub prepared : List Event
prepared = ended Op.Prepare [] old ∷ start Op.Prepare ∷ claimed

abbrev pub detached : List Event
detached =
    Event.End 1 1 Op.Detach well (Mark.Entered ∷ []) (Seen.Home 0x01000000 Mode.Bootloader) ∷ start Op.Detach ∷ prepared

-- After the detach another board stands in the port.
abbrev pub strange : List Event
strange = Event.End 1 1 Op.Detach (Err BoardFault.Stranger) [] Seen.Stranger ∷ start Op.Detach ∷ prepared

abbrev pub strange_end : List Event
strange_end =
    ended Op.Cleanup [] Seen.Stranger ∷ start Op.Cleanup ∷ ended Op.Reload [] Seen.Stranger ∷ start Op.Reload
    ∷ ended Op.Attach [] Seen.Stranger ∷ start Op.Attach ∷ strange

pub record NeedsBootloader : Type 0 where
  pub detach : next_op (basis_of loader_facts []) prepared 1 ≡ Some Op.Detach
  pub write : next_op (basis_of loader_facts []) detached 1 ≡ Some Op.Write
  pub unfit : next_op (basis_of unfit_facts []) detached 1 ≡ Some Op.Attach
  pub counterpart : next_op (basis_of counterpart_facts []) detached 1 ≡ Some Op.Write
  pub stranger : next_op (basis_of loader_facts []) strange 1 ≡ Some Op.Attach
  pub stays_begun : closing (basis_of loader_facts []) strange_end 1 ≡ Some RowState.Begun

-- ---- a change in doubt

-- The claim's row couldn't be written.
abbrev pub doubted : List Event
doubted =
    Event.Claim 1 request (FetchNote.Whole digest 14 0x01010000) (ClaimAnswer.Refused Refusal.KeeperFault) ∷ ask ∷ boot ∷ []

-- The next boot finds that it was, or wasn't.
abbrev pub rebooted : Found → List Event
rebooted found = Event.Boot 2 2000 None found (shows 0 old [] ∷ []) ∷ doubted

pub record InDoubt : Type 0 where
  pub is_off : off doubted ≡ true
  pub kept : verdict (basis_of plain_facts []) (rebooted Found.Kept) 1 request Stage.Ask ≡ Decision.Kept 1 RowState.Begun
  pub lost : verdict (basis_of plain_facts []) (rebooted Found.Lost) 1 request Stage.Ask ≡ Decision.Accept 0 found 1

-- ---- boards that share an ID

-- The second board has the first one's ID and a higher priority; the fourth one's plugin isn't enabled.
abbrev pub shared_facts : Facts
shared_facts =
    facts []
    (sheet (codes "usb1") device_one guid_one
    ∷ record (sheet (codes "cap1") device_one guid_one) { priority = 1 }
    ∷ sheet (codes "usb3") device_two guid_two
    ∷ record (sheet (codes "usb4") (replicate 20 9) guid_two) { plugin = codes "other" } ∷ [])

abbrev pub shared_boot : List Event
shared_boot =
    Event.Boot 1 1000 None Found.Plain (shows 0 old [] ∷ shows 1 old [] ∷ shows 2 old [] ∷ shows 3 old [] ∷ []) ∷ []

-- Two boards of one ID, alike in all else.
abbrev pub tied_facts : Facts
tied_facts = facts [] (sheet (codes "usb1") device_one guid_one ∷ sheet (codes "usb2") device_one guid_one ∷ [])

pub record SharedId : Type 0 where
  pub higher : board_with shared_facts device_one ≡ Some 1
  pub first_place : board_at shared_facts 0 ≡ Some 1
  pub second_place : board_at shared_facts 1 ≡ Some 2
  pub no_more : board_at shared_facts 2 ≡ None
  pub loser : verdict (basis_of shared_facts []) shared_boot 1 request Stage.Ask ≡ Decision.Refused Refusal.NoDevice
  pub earlier : board_with tied_facts device_one ≡ Some 0

-- ---- refusals

-- On battery, where the plugin `power` forbids updates of internal devices.
abbrev pub on_battery : DeviceFlag → Facts
on_battery flag =
    record (with_sheet (flagged flag)) {
      machine = record machine { on_ac = false };
      vetoes =
          record { plugin = codes "flash"; rules = [] }
          ∷ record {
            plugin = codes "power";
            rules = record { when = MachineTest.OnBattery; flags = set_flag DeviceFlag.Internal true no_flags } ∷ [];
          }
          ∷ [];
    }

abbrev pub small_board : Facts
small_board = with_sheet (record (sheet (codes "usb1") device_one guid_one) { size_max = 13 })

abbrev pub small_pool : Facts
small_pool = record plain_facts { pool = 0 }

pub record AreRefused : Type 0 where
  pub vetoed : verdict (basis_of (on_battery DeviceFlag.Internal) []) (boot ∷ []) 1 request Stage.Ask ≡ Decision.Refused (Refusal.Veto (codes "power"))
  pub hindered : verdict (basis_of (on_battery DeviceFlag.RequireAc) []) (boot ∷ []) 1 request Stage.Ask ≡ Decision.Refused (Refusal.Problem Problem.RequireAcPower)
  pub size : verdict (basis_of small_board []) (boot ∷ []) 1 request Stage.Ask ≡ Decision.Refused (Refusal.Size 14 0 13)
  pub no_room : verdict (basis_of small_pool []) (boot ∷ []) 1 request Stage.Ask ≡ Decision.Refused (Refusal.NoRoom 1 0)
  pub busy : verdict (basis_of plain_facts []) claimed 2 second_request Stage.Ask ≡ Decision.Refused (Refusal.Busy 1)

-- ---- installs that are tried again

-- The row of an install of 1.1.0 on the board, which failed.
abbrev pub failed : Row
failed =
    record {
      entry = 1;
      tag = codes "t0";
      client = 1;
      device = device_one;
      component = codes "com.example.hub";
      version_old = codes "1.0.0";
      version_new = codes "1.1.0";
      digest = digest;
      flags = 0;
      state = RowState.Failed;
      reason = 0;
      time_added = 0;
      time_changed = 0;
      duration = 0;
      protocol = None;
      retry_of = None;
    }

-- A second row, settled too, that tries it again.
abbrev pub tried : Row
tried = record failed { entry = 2; tag = codes "t9"; retry_of = Some 1 }

-- The request, naming the row of an entry.
abbrev pub again : ℕ → Request
again entry = record request { retry_of = Some entry }

-- What is decided of it, over these rows.
abbrev pub tried_over : List Row → ℕ → Stage → Decision
tried_over rows entry stage = verdict (basis_of plain_facts rows) (boot ∷ []) 1 (again entry) stage

abbrev pub cant : RetryFault → Decision
cant fault = Decision.Refused (Refusal.Retry fault)

pub record AreTriedAgain : Type 0 where
  pub accepted : tried_over (failed ∷ []) 1 Stage.Ask ≡ Decision.Accept 0 found 1
  pub no_row : tried_over (failed ∷ []) 2 Stage.Ask ≡ cant RetryFault.NoRow
  pub other_device : tried_over (record failed { device = device_two } ∷ []) 1 Stage.Ask ≡ cant RetryFault.OtherDevice
  pub not_failed : tried_over (record failed { state = RowState.Success } ∷ []) 1 Stage.Ask ≡ cant (RetryFault.NotFailed RowState.Success)
  pub retried : tried_over (failed ∷ tried ∷ []) 1 Stage.Schedule ≡ cant (RetryFault.Retried 2)
  pub other_release : tried_over (record failed { digest = other_digest } ∷ []) 1 (Stage.Claim found) ≡ cant RetryFault.OtherRelease
  pub unsettled_first : tried_over (record failed { state = RowState.Begun } ∷ []) 1 Stage.Ask ≡ Decision.Refused (Refusal.Unsettled 1)
  pub its_own : tried_over (failed ∷ record tried { state = RowState.Pending } ∷ []) 1 (Stage.AskPending 2) ≡ Decision.Accept 0 found 1
