-- What the answer of a fetch says.
use Rattle.std.specs.Prelude.{ℕ, List, Option, Some, None}
use Rattle.block_pool.specs.Views.{BlockBytes, SealedBytes}
use Rattle.daemon_core.specs.declared.fetched.Fetched.{Fetched}
use Rattle.daemon_core.specs.declared.fetched.Fetched.TheVariants.{Whole, Missing, Length, Mismatch, ShelfFault}
use Rattle.install_engine.specs.Findings.{Finding, missing, other_length, other_digest, whole}

-- what was found, if no fault of the shelf came before
abbrev pub told : Fetched → Option Finding
told (Whole payload) = Some (whole payload.bytes)
told (Missing blocks) = Some missing
told (Length found blocks) = Some (other_length found)
told (Mismatch found blocks) = Some (other_digest found)
told (ShelfFault blocks) = None

-- this holds of the payload, if there is one
abbrev pub IfWhole : Fetched → (SealedBytes → Type 0) → Type 0
IfWhole (Whole payload) P = P payload
IfWhole _ P = Unit {0}

-- this holds of the number of bytes that was found, if that was another one
abbrev pub IfLength : Fetched → (ℕ → Type 0) → Type 0
IfLength (Length found blocks) P = P found
IfLength _ P = Unit {0}

-- this holds of the SHA-256 that was found, if that was another one, and of the blocks with the bytes
abbrev pub IfMismatch : Fetched → (List ℕ → BlockBytes → Type 0) → Type 0
IfMismatch (Mismatch found blocks) P = P found blocks
IfMismatch _ P = Unit {0}
