-- Instance IDs, and the lines that they are.
use Rattle.std.specs.Prelude.{ℕ, ◌==◌, List, length, Result, Ok}
use Rattle.guid_ids.specs.Identifiers.{guid}
use Rattle.serde_json.specs.Data.{Data}
use Rattle.release_catalogue.specs.declared.reason.Reason.TheVariants.{WrongKind}
use Rattle.release_catalogue.specs.declared.spot.Spot.{Spot}
use Rattle.release_catalogue.specs.declared.spot.Fault.{Fault}
use Rattle.release_catalogue.specs.Reading.{◌>>=◌, refuse_if}
use Rattle.release_catalogue.specs.Kinds.{line_at, plain_list_at}

-- A line that isn't empty.
abbrev pub full_line_at : Spot → Data → Result (List ℕ) Fault
full_line_at spot d = do
  line ← line_at spot d
  full ← refuse_if (length line == 0) spot WrongKind
  Ok line

-- An instance ID, as the GUID that it gives.
abbrev pub instance_at : Spot → Data → Result (List ℕ) Fault
instance_at spot d = do
  line ← full_line_at spot d
  Ok (guid line)

-- A list of 1 to 64 instance IDs.
abbrev pub instances_at : Spot → Data → Result (List (List ℕ)) Fault
instances_at spot d = do
  guids ← plain_list_at 64 instance_at spot d
  some ← refuse_if (length guids == 0) spot WrongKind
  Ok guids
