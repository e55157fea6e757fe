-- Faults with their places in words.
use Rattle.std.specs.Prelude.{◌≡◌, Result, Ok, Err}
use Rattle.release_catalogue.specs.declared.spot.Fault.{Fault}
use Rattle.release_catalogue.specs.declared.spot.ReadStop.{ReadStop}
use Rattle.release_catalogue.specs.declared.spot.ReadStop.TheVariants as stops
use Rattle.release_catalogue.specs.Faults.{told_place}
use Rattle.site_files.specs.declared.fault.SiteFault.{SiteFault}
use Rattle.site_files.specs.declared.fault.SiteFault.TheVariants as told

-- Why reading stopped, in words.
abbrev pub told_stop : ReadStop → SiteFault
told_stop (stops.At fault) = told.Document (told_place fault.spot) fault.reason
told_stop stops.NoMemory = told.NoMemory

-- A reading, with its fault in words.
abbrev pub in_words : {A : Type 0} → Result A Fault → Result A SiteFault
in_words (Ok x) = Ok x
in_words (Err fault) = Err (told.Document (told_place fault.spot) fault.reason)

-- The answer is that of the reading in words, unless it is that memory ran out.
abbrev pub TellsFault : {A : Type 0} → SiteFault → Result A Fault → Type 0
TellsFault told.NoMemory reading = Unit {0}
TellsFault (told.Document place reason) reading = in_words reading ≡ Err (told.Document place reason)

abbrev pub Tells : {X A : Type 0} → (X → A) → Result X SiteFault → Result A Fault → Type 0
Tells seen (Ok x) reading = in_words reading ≡ Ok (seen x)
Tells seen (Err fault) reading = TellsFault fault reading
