-- The section `clients`.
use Rattle.std.specs.Prelude.{ℕ, List, [], Result}
use Rattle.serde_json.specs.Data.{Data}
use Rattle.release_catalogue.specs.declared.word.Word.TheVariants as words
use Rattle.release_catalogue.specs.declared.spot.Level.TheVariants.{First}
use Rattle.release_catalogue.specs.declared.spot.Spot.{Spot}
use Rattle.release_catalogue.specs.declared.spot.Fault.{Fault}
use Rattle.release_catalogue.specs.Reading.{◌>>=◌, optional}
use Rattle.release_catalogue.specs.Kinds.{list_at, name_at, object_at, plain_list_at}
use Rattle.site_scripts.specs.Places.{spot_in}

-- The features of a client.
unfoldable pub client_at : Spot → Data → Result (List (List ℕ)) Fault
client_at spot d = do
  here ← object_at spot d
  optional spot words.Features (plain_list_at 64 name_at) [] d

-- Up to 16 clients.
abbrev pub clients_at : Spot → Data → Result (List (List (List ℕ))) Fault
clients_at spot d = list_at 16 (λ _. client_at) spot (spot_in words.Clients words.Entry) First d
