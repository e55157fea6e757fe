-- What a fetch finds on a shelf.
use Rattle.std.specs.Prelude.{ℕ, ◌==◌, List, length, Option, Some, None, if◌then◌else◌}
use Rattle.std.specs.Str.{bytes_eq}
use Rattle.sha2.specs.Sha256.{sha256}

-- no file, a file of so many bytes, a file of this SHA-256, or the payload, with these bytes
pub data Finding : Type 0 where
  missing : Finding
  other_length : ℕ → Finding
  other_digest : List ℕ → Finding
  whole : List ℕ → Finding

-- what is found where a payload of this digest and size is looked for, and this is the file there, if
-- there is one; another length counts before another digest
abbrev pub found_of : Option (List ℕ) → List ℕ → ℕ → Finding
found_of None digest size = missing
found_of (Some bytes) digest size =
    if length bytes == size then (if bytes_eq (sha256 bytes) digest then whole bytes else other_digest (sha256 bytes)) else other_length (length bytes)
