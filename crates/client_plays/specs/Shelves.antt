-- What a fetch tells of a client's shelf.
use Rattle.std.specs.Prelude.{◌≡◌, ◌≢◌, ◌⊎◌, ℕ, List, length, Option, Some, None, IfSome, slice_get, unwrap_or}
use Rattle.sha2.specs.Sha256.{sha256}
use Rattle.emulated_boards.specs.Images.{raw_version}
use Rattle.fw_facts.specs.declared.release.Release.{Release}
use Rattle.outer_traits.specs.Shelves.{file_of}
use Rattle.release_catalogue.specs.declared.reference.ReleaseRef.{ReleaseRef}
use Rattle.update_log.specs.declared.facts.Facts.{Facts}
use Rattle.update_log.specs.declared.refusal.FetchNote.{FetchNote}
use Rattle.daemon_core.specs.Holds.{IsReleaseAt}
use Rattle.install_engine.specs.Findings.{Finding, found_of, missing, other_length, other_digest, whole}
use Rattle.plugin_trait.specs.Steps.{PluginSteps}
use Rattle.client_plays.specs.Tools.{Files, Means, ShelfTold, means_of, shelf_of}

-- What the log says of what was found on a shelf. The raw version of an image that is no good is 0.
abbrev pub note_found : List ℕ → Finding → FetchNote
note_found digest missing = FetchNote.Missing
note_found digest (other_length found) = FetchNote.Length found
note_found digest (other_digest found) = FetchNote.Mismatch found
note_found digest (whole bytes) = FetchNote.Whole digest (length bytes) (unwrap_or (raw_version bytes) 0)

-- A note that calls a payload whole is of bytes that have the release's digest and size, and show that raw
-- version.
pub record IsWholePayload (release : Release) (digest : List ℕ) (size raw : ℕ) : Type 0 where
  pub bytes : List ℕ
  pub hashed : digest ≡ sha256 bytes
  pub digest_is : digest ≡ release.digest
  pub long : size ≡ length bytes
  pub size_is : size ≡ release.size
  pub raw_is : raw ≡ unwrap_or (raw_version bytes) 0

-- A note that names another digest is of bytes that have the release's size, and that digest.
pub record IsOtherPayload (release : Release) (digest : List ℕ) : Type 0 where
  pub bytes : List ℕ
  pub hashed : digest ≡ sha256 bytes
  pub long : length bytes ≡ release.size
  pub other : digest ≢ release.digest

-- What is true of each note, whether the shelf tells its files or not. A length that it names is not the
-- release's.
abbrev pub IsTrueNote : Release → FetchNote → Type 0
IsTrueNote release (FetchNote.Whole digest size raw) = IsWholePayload release digest size raw
IsTrueNote release FetchNote.Missing = Unit {0}
IsTrueNote release (FetchNote.Length found) = found ≢ release.size
IsTrueNote release (FetchNote.Mismatch found) = IsOtherPayload release found
IsTrueNote release FetchNote.ShelfFault = Unit {0}

-- The payload of a release was fetched from a shelf with these files: the note is true, and says what lies
-- there under its digest, unless the shelf failed. Of what lies on a shelf that doesn't tell its files nothing
-- is known.
pub record IsFetched (facts : Facts) (files : Files) (at : ReleaseRef) (note : FetchNote) : Type 0 where
  pub release : Release
  pub there : IsReleaseAt facts.catalogue at release
  pub note_true : IsTrueNote release note
  pub note_is : IfSome files (λ all. (note ≡ FetchNote.ShelfFault) ⊎ (note ≡ note_found release.digest (found_of (file_of all release.digest) release.digest release.size)))

-- The files of a client's shelf, where there is one that tells them.
abbrev pub files_of : Option ShelfTold → Files
files_of None = None
files_of (Some shelf) = shelf.files

abbrev pub files_for : List ShelfTold → ℕ → Files
files_for shelves client = files_of (slice_get shelves (shelf_of client))

-- What each client plays with: the files of its shelf, and these plugins.
abbrev pub means_for : (ℕ → PluginSteps) → List ShelfTold → ℕ → Means
means_for plugins shelves client = means_of (files_for shelves client) plugins
