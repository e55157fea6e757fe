-- Images: what a board may run, and the version that stands in one.
use Rattle.std.specs.Prelude.{ℕ, Bool, ◌&&◌, ◌==◌, List, length, take, drop, codes, slice_index, nat_eq, Option, Some, None, if◌then◌else◌}
use Rattle.std.specs.List.{list_all, starts_with}
use Rattle.std.specs.Char.{is_digit}
use Rattle.std.specs.Str.Parse.{digits_value}
use Rattle.sha2.specs.Sha256.{sha256}
use Rattle.block_pool.specs.Views.{SealedBytes}
use Rattle.emulated_boards.specs.declared.image.Image.{Image}

-- the eight bytes behind the first five
abbrev pub version_digits : List ℕ → List ℕ
version_digits bytes = take 8 (drop 5 bytes)

-- an image is good where it begins with `EMU1 `, eight hex digits of either case and a newline
abbrev pub is_good : List ℕ → Bool
is_good bytes = starts_with nat_eq bytes (codes "EMU1 ")
    && (list_all (λ c. is_digit c 16) (version_digits bytes) && slice_index bytes 13 == 10)

-- the raw version of a good image is what its digits say; a bad one has none
abbrev pub raw_version : List ℕ → Option ℕ
raw_version bytes = if is_good bytes then Some (digits_value 16 (version_digits bytes)) else None

-- what is kept of an image of these bytes
abbrev pub image_of : List ℕ → Image
image_of bytes = record { raw = raw_version bytes; len = length bytes; digest = sha256 bytes }

-- what is kept of a payload
abbrev pub payload_image : SealedBytes → Image
payload_image payload = record { raw = raw_version payload.bytes; len = length payload.bytes; digest = payload.digest }
