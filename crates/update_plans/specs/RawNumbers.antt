-- The raw number that a version stands for.
use Rattle.std.specs.Prelude.{ℕ, zero, suc, ◌^◌, Bool, List, Option, Some, None, if◌then◌else◌}
use Rattle.std.specs.Option.{option_or}
use Rattle.version_formats.specs.Formats.{render}
use Rattle.version_formats.specs.VersionOrder.{same_version}
use Rattle.version_formats.specs.declared.format.Format.{Format}

-- The least number below a bound that passes a test.
unfoldable pub least_below : (ℕ → Bool) → ℕ → Option ℕ
least_below test zero = None
least_below test (suc bound) = option_or (least_below test bound) (if test bound then Some bound else None)

-- The least raw number of 32 bits whose text is equal to the version.
unfoldable pub raw_of : Format → List ℕ → Option ℕ
raw_of format version = least_below (λ raw. same_version (render format raw) version) (2 ^ 32)
