use Rattle.std.proofs.Common.{◌≡◌, take}
use Rattle.release_catalogue.specs.Components.{releases_in}
use Rattle.remote_set.proofs.parts.count_releases.Given as goal

abbrev pub invariant-loop-component : goal.invariant-loop-component
invariant-loop-component l = l.count ≡ releases_in (take l.component-index l.components)
