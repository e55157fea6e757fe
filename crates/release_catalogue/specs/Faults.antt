-- Faults as they are told: with the words of their places spelled out.
use Rattle.std.specs.Prelude.{◌≡◌, Result, Ok, Err}
use Rattle.release_catalogue.specs.Words.{word_text}
use Rattle.release_catalogue.specs.declared.fault.CatalogueFault.{CatalogueFault}
use Rattle.release_catalogue.specs.declared.fault.CatalogueFault.TheVariants as told
use Rattle.release_catalogue.specs.declared.place.Place.{Place}
use Rattle.release_catalogue.specs.declared.spot.Spot.{Spot}
use Rattle.release_catalogue.specs.declared.spot.Fault.{Fault}
use Rattle.release_catalogue.specs.declared.spot.ReadStop.{ReadStop}
use Rattle.release_catalogue.specs.declared.spot.ReadStop.TheVariants.{At, NoMemory}

-- The place in words.
abbrev pub told_place : Spot → Place
told_place spot = record { section = word_text spot.section; index = spot.index; field = word_text spot.field }

-- A fault in words.
abbrev pub told_fault : Fault → CatalogueFault
told_fault fault = told.At (told_place fault.spot) fault.reason

abbrev pub told_stop : ReadStop → CatalogueFault
told_stop (At fault) = told_fault fault
told_stop NoMemory = told.NoMemory

-- A reading, with its fault in words.
abbrev pub in_words : {A : Type 0} → Result A Fault → Result A CatalogueFault
in_words (Ok x) = Ok x
in_words (Err fault) = Err (told_fault fault)

-- The answer is that of the reading in words, unless it is that memory ran out.
abbrev pub TellsFault : {A : Type 0} → CatalogueFault → Result A Fault → Type 0
TellsFault told.NoMemory reading = Unit {0}
TellsFault (told.At place reason) reading = in_words reading ≡ Err (told.At place reason)

abbrev pub Tells : {X A : Type 0} → (X → A) → Result X CatalogueFault → Result A Fault → Type 0
Tells seen (Ok x) reading = in_words reading ≡ Ok (seen x)
Tells seen (Err fault) reading = TellsFault fault reading
