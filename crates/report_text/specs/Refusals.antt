-- How a refusal is written: its number and its words.
use Rattle.std.specs.Prelude.{ℕ, List, [], ◌++◌, codes}
use Rattle.std.specs.Fmt.{decimal}
use Rattle.hex.specs.Hex.{encode_lower}
use Rattle.requirements.specs.declared.unmet.UnmetCause.{UnmetCause}
use Rattle.requirements.specs.declared.unmet.UnmetCause.TheVariants as causes
use Rattle.update_log.specs.declared.refusal.FetchNote.{FetchNote}
use Rattle.update_log.specs.declared.refusal.FetchNote.TheVariants as notes
use Rattle.update_log.specs.declared.refusal.RetryFault.{RetryFault}
use Rattle.update_log.specs.declared.refusal.RetryFault.TheVariants as faults
use Rattle.update_log.specs.declared.refusal.Refusal.{Refusal}
use Rattle.update_log.specs.declared.refusal.Refusal.TheVariants as refusals
use Rattle.client_scripts.specs.Parts.{refused_as}
use Rattle.client_scripts.specs.Words.{problem_word, state_word}

-- why a requirement doesn't hold: its number and its word
abbrev pub cause_words : UnmetCause → List ℕ
cause_words causes.IdMissing = codes "1 id-missing"
cause_words causes.VersionCompare = codes "2 version-compare"
cause_words causes.NoBootloaderVersion = codes "3 no-bootloader-version"
cause_words causes.VendorMismatch = codes "4 vendor-mismatch"
cause_words causes.NoSuchDevice = codes "5 no-such-device"
cause_words causes.NoSuchAncestor = codes "6 no-such-ancestor"
cause_words (causes.DeviceInUse entry) = codes "7 device-in-use"
cause_words causes.HardwareMissing = codes "8 hardware-missing"
cause_words causes.HardwareForbidden = codes "9 hardware-forbidden"
cause_words causes.ClientFeatureMissing = codes "10 client-feature-missing"

-- the entry that is in the way
abbrev pub cause_entry : UnmetCause → List ℕ
cause_entry (causes.DeviceInUse entry) = codes " " ++ decimal entry
cause_entry _ = []

abbrev pub cause_text : UnmetCause → List ℕ
cause_text cause = cause_words cause ++ cause_entry cause

-- what a fetch found; a whole payload is no reason for a refusal
abbrev pub note_text : FetchNote → List ℕ
note_text (notes.Whole digest len raw) = codes "whole"
note_text notes.Missing = codes "missing"
note_text (notes.Length found) = codes "length " ++ decimal found
note_text (notes.Mismatch found) = codes "mismatch " ++ encode_lower found
note_text notes.ShelfFault = codes "shelf-fault"

-- why a row can't be tried again: its word, and what that says beside it
abbrev pub retry_words : RetryFault → List ℕ
retry_words faults.NoRow = codes "no-row"
retry_words faults.OtherDevice = codes "other-device"
retry_words (faults.NotFailed state) = codes "not-failed"
retry_words (faults.Retried entry) = codes "retried"
retry_words faults.OtherRelease = codes "other-release"

abbrev pub retry_details : RetryFault → List ℕ
retry_details (faults.NotFailed state) = codes " " ++ state_word state
retry_details (faults.Retried entry) = codes " " ++ decimal entry
retry_details _ = []

abbrev pub fault_text : RetryFault → List ℕ
fault_text fault = retry_words fault ++ retry_details fault

-- what a refusal says beside its word, each part behind a blank
abbrev pub refusal_details : Refusal → List ℕ
refusal_details (refusals.Busy entry) = codes " " ++ decimal entry
refusal_details (refusals.Unsettled entry) = codes " " ++ decimal entry
refusal_details (refusals.Problem problem) = codes " " ++ problem_word problem
refusal_details (refusals.Unmet unmet) = codes " " ++ decimal unmet.index ++ codes " " ++ cause_text unmet.cause
refusal_details (refusals.Veto plugin) = codes " " ++ plugin
refusal_details (refusals.Size len min max) = codes " " ++ decimal len ++ codes " " ++ decimal min ++ codes " " ++ decimal max
refusal_details (refusals.NoRoom need free) = codes " " ++ decimal need ++ codes " " ++ decimal free
refusal_details (refusals.Payload note) = codes " " ++ note_text note
refusal_details (refusals.Retry fault) = codes " " ++ fault_text fault
refusal_details _ = []

-- a refusal: its number and its word, and what it says beside them
abbrev pub refused_text : Refusal → List ℕ
refused_text refusal = refused_as refusal ++ refusal_details refusal
