-- The section `quirks`.
use Rattle.std.specs.Prelude.{ℕ, ◌+◌, List, [], ◌++◌, nat_lt, Option, None, Some, ⊤, Result, Ok}
use Rattle.quirk_files.specs.declared.fault.QuirkFault.{QuirkFault}
use Rattle.quirk_files.specs.declared.fault.QuirkFault.TheVariants as faults
use Rattle.quirk_files.specs.declared.quirk.Quirk.{Quirk}
use Rattle.quirk_files.specs.Files.{file_fault, file_quirks}
use Rattle.serde_json.specs.Data.{Data, Items, no_items, item}
use Rattle.release_catalogue.specs.declared.word.Word.TheVariants as words
use Rattle.release_catalogue.specs.declared.reason.Reason.{Reason}
use Rattle.release_catalogue.specs.declared.reason.Reason.TheVariants.{BadQuirk, TooMany}
use Rattle.release_catalogue.specs.declared.spot.Level.TheVariants.{First}
use Rattle.release_catalogue.specs.declared.spot.Spot.{Spot}
use Rattle.release_catalogue.specs.declared.spot.Fault.{Fault}
use Rattle.release_catalogue.specs.declared.spot.ReadStop.{ReadStop}
use Rattle.release_catalogue.specs.declared.spot.ReadStop.TheVariants as stops
use Rattle.release_catalogue.specs.Reading.{◌>>=◌, at_spot, entry_spot, refuse_if}
use Rattle.release_catalogue.specs.Kinds.{items_at, items_len, text_at}
use Rattle.site_scripts.specs.Places.{spot_in}

-- The number of a quirk file's fault, and its line. (The reading of a file never wants memory.)
abbrev pub quirk_reason : QuirkFault → Reason
quirk_reason (faults.NoGroup line) = BadQuirk 1 line
quirk_reason (faults.BadGroup line) = BadQuirk 2 line
quirk_reason (faults.NoEquals line) = BadQuirk 3 line
quirk_reason (faults.NotText line) = BadQuirk 4 line
quirk_reason (faults.TooLarge len) = BadQuirk 5 0
quirk_reason faults.NoMemory = BadQuirk 6 0

-- What a call that reads a file answers with such a fault.
abbrev pub quirk_stop : Spot → QuirkFault → ReadStop
quirk_stop spot (faults.NoGroup line) = stops.At (record { spot = spot; reason = BadQuirk 1 line })
quirk_stop spot (faults.BadGroup line) = stops.At (record { spot = spot; reason = BadQuirk 2 line })
quirk_stop spot (faults.NoEquals line) = stops.At (record { spot = spot; reason = BadQuirk 3 line })
quirk_stop spot (faults.NotText line) = stops.At (record { spot = spot; reason = BadQuirk 4 line })
quirk_stop spot (faults.TooLarge len) = stops.At (record { spot = spot; reason = BadQuirk 5 0 })
quirk_stop spot faults.NoMemory = stops.NoMemory

-- Nothing is wrong with a file, or this is told.
abbrev pub no_fault : Spot → Option QuirkFault → Result ⊤ Fault
no_fault spot None = Ok tt
no_fault spot (Some fault) = at_spot spot (quirk_reason fault)

-- The quirks of a file.
abbrev pub quirk_file_at : Spot → Data → Result (List Quirk) Fault
quirk_file_at spot d = do
  text ← text_at spot d
  sound ← no_fault spot (file_fault text)
  Ok (file_quirks text)

-- The quirks of some files, of which the first has this number, behind those of the files before.
abbrev pub each_file : ℕ → List Quirk → Items → Result (List Quirk) Fault
each_file i earlier no_items = Ok earlier
each_file i earlier (item d ds) = do
  quirks ← quirk_file_at (entry_spot (spot_in words.Quirks words.Entry) First i) d
  each_file (i + 1) (earlier ++ quirks) ds

-- The quirks of up to 64 files, in reading order.
abbrev pub quirks_at : Spot → Data → Result (List Quirk) Fault
quirks_at spot d = do
  ds ← items_at spot d
  fits ← refuse_if (nat_lt 64 (items_len ds)) spot TooMany
  each_file 0 [] ds
