-- The value of a text, or the fault that it has none.
use Rattle.std.proofs.Common.{◌≡◌, ℕ, List, Bool, true, false, Option, Some, None, Ok, if◌then◌else◌, refl}
use Rattle.std.specs.Str.{is_utf8, IsUtf8}
use Rattle.std.proofs.lemmas.Str.{is_utf8-from_IsUtf8, IsUtf8-from_is_utf8}
use Rattle.serde_json.specs.Data.{Data}
use Rattle.serde_json.specs.Read.{read}
use Rattle.release_catalogue.specs.declared.reason.Reason.TheVariants.{NotJson}
use Rattle.release_catalogue.specs.Reading.{at_spot, or_fault}
use Rattle.site_scripts.specs.Places.{whole_spot}
use Rattle.site_files.specs.Texts.{json_at}

pub json_found : (bytes : List ℕ) (d : Data) → IsUtf8 bytes → read bytes ≡ Some d → json_at bytes ≡ Ok d
json_found bytes d utf8 h = rw (is_utf8-from_IsUtf8 bytes utf8, h) refl

by_test : (b : Bool) (o : Option Data) → (b ≡ true → o ≡ None) → or_fault whole_spot NotJson (if b then o else None) ≡ at_spot whole_spot NotJson
by_test true o h = rw (h refl) refl
by_test false o h = refl

pub json_missing : (bytes : List ℕ) → (IsUtf8 bytes → read bytes ≡ None) → json_at bytes ≡ at_spot whole_spot NotJson
json_missing bytes h = by_test (is_utf8 bytes) (read bytes) (λ e. h (IsUtf8-from_is_utf8 bytes e))
