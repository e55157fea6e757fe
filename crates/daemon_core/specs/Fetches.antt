-- What the fetch of a payload gave.
use Rattle.std.specs.Prelude.{◌≡◌, ℕ, Bool, true, false, length, unwrap_or}
use Rattle.block_pool.specs.Views.{SealedBytes}
use Rattle.emulated_boards.specs.Images.{raw_version}
use Rattle.fw_facts.specs.declared.release.Release.{Release}
use Rattle.release_catalogue.specs.declared.reference.ReleaseRef.{ReleaseRef}
use Rattle.update_log.specs.declared.facts.Facts.{Facts}
use Rattle.update_log.specs.declared.refusal.FetchNote.{FetchNote}
use Rattle.daemon_core.specs.Holds.{IsReleaseAt}
use Rattle.daemon_core.specs.declared.fetched.Fetched.{Fetched}

-- How many blocks go on in it.
abbrev pub block_count : Fetched → ℕ
block_count (Fetched.Whole payload) = payload.count
block_count (Fetched.Missing blocks) = blocks.count
block_count (Fetched.Length found blocks) = blocks.count
block_count (Fetched.Mismatch found blocks) = blocks.count
block_count (Fetched.ShelfFault blocks) = blocks.count

-- The payload came whole.
abbrev pub is_payload : Fetched → Bool
is_payload (Fetched.Whole payload) = true
is_payload (Fetched.Missing blocks) = false
is_payload (Fetched.Length found blocks) = false
is_payload (Fetched.Mismatch found blocks) = false
is_payload (Fetched.ShelfFault blocks) = false

-- The raw version of a payload, which is 0 for an image that is no good.
abbrev pub raw_number : SealedBytes → ℕ
raw_number payload = unwrap_or (raw_version payload.bytes) 0

-- What the log says of a whole payload, and of a fetch.
abbrev pub whole_note : SealedBytes → FetchNote
whole_note payload = FetchNote.Whole payload.digest (length payload.bytes) (raw_number payload)

abbrev pub note_of : Fetched → FetchNote
note_of (Fetched.Whole payload) = whole_note payload
note_of (Fetched.Missing blocks) = FetchNote.Missing
note_of (Fetched.Length found blocks) = FetchNote.Length found
note_of (Fetched.Mismatch found blocks) = FetchNote.Mismatch found
note_of (Fetched.ShelfFault blocks) = FetchNote.ShelfFault

-- The payload has the digest and the size of the release at this place.
pub record IsPayloadOf (facts : Facts) (at : ReleaseRef) (payload : SealedBytes) : Type 0 where
  pub release : Release
  pub there : IsReleaseAt facts.catalogue at release
  pub digest_is : payload.digest ≡ release.digest
  pub size_is : length payload.bytes ≡ release.size

-- A whole payload has.
abbrev pub IsFetchOf : Facts → ReleaseRef → Fetched → Type 0
IsFetchOf facts at (Fetched.Whole payload) = IsPayloadOf facts at payload
IsFetchOf facts at (Fetched.Missing blocks) = Unit {0}
IsFetchOf facts at (Fetched.Length found blocks) = Unit {0}
IsFetchOf facts at (Fetched.Mismatch found blocks) = Unit {0}
IsFetchOf facts at (Fetched.ShelfFault blocks) = Unit {0}
