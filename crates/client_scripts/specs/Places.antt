-- Releases by their places.
use Rattle.std.specs.Prelude.{ℕ, Bool, false, List, [], Option, option_map, option_and_then, slice_get}
use Rattle.std.specs.Option.{option_map_or}
use Rattle.fw_facts.specs.declared.release.Component.{Component}
use Rattle.release_catalogue.specs.Lookup.{Chosen}
use Rattle.release_catalogue.specs.declared.reference.ReleaseRef.{ReleaseRef}
use Rattle.client_scripts.specs.Replies.{is_newer, release_line}

-- The release at a place, of the component at it.
abbrev pub release_with : ReleaseRef → Component → Option Chosen
release_with at component =
    option_map (λ release. record { at = at; component = component; release = release }) (slice_get component.releases at.release)

abbrev pub release_at : List Component → ReleaseRef → Option Chosen
release_at components at = option_and_then (release_with at) (slice_get components at.component)

-- Its line, and whether it is newer than the version shown. Where no release stands, there is no line.
abbrev pub line_at : List Component → List ℕ → ReleaseRef → List ℕ
line_at components shown at = option_map_or (release_line shown) (release_at components at) []

abbrev pub is_newer_at : List Component → List ℕ → ReleaseRef → Bool
is_newer_at components shown at = option_map_or (is_newer shown) (release_at components at) false
