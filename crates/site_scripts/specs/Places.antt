-- Where the parts of the document stand.
use Rattle.std.specs.Prelude.{[], ◌∷◌, Result}
use Rattle.serde_json.specs.Data.{Data}
use Rattle.serde_json.specs.Find.{get}
use Rattle.release_catalogue.specs.declared.word.Word.{Word}
use Rattle.release_catalogue.specs.declared.word.Word.TheVariants as words
use Rattle.release_catalogue.specs.declared.reason.Reason.TheVariants.{Missing}
use Rattle.release_catalogue.specs.declared.spot.Spot.{Spot}
use Rattle.release_catalogue.specs.declared.spot.Fault.{Fault}
use Rattle.release_catalogue.specs.Words.{word_text}
use Rattle.release_catalogue.specs.Reading.{◌>>=◌, or_default, or_fault}

-- A place in a section, without an index.
abbrev pub spot_in : Word → Word → Spot
spot_in section field = record { section = section; index = 0 ∷ 0 ∷ 0 ∷ []; field = field }

-- The place of the whole text.
abbrev pub whole_spot : Spot
whole_spot = spot_in words.Document words.Text

-- A member of an object that is told at the object's own place: one that must be there.
abbrev pub the_here : {A : Type 0} → Spot → Word → (Spot → Data → Result A Fault) → Data → Result A Fault
the_here spot word kind d = or_fault spot Missing (get (word_text word) d) >>= kind spot

-- And one that may be missing.
abbrev pub optional_here : {A : Type 0} → Spot → Word → (Spot → Data → Result A Fault) → A → Data → Result A Fault
optional_here spot word kind a d = or_default a (kind spot) (get (word_text word) d)
