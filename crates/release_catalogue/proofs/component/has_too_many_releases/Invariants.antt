use Rattle.std.proofs.Common.{◌≡◌, ◌+◌, take}
use Rattle.release_catalogue.specs.Components.{releases_in}
use Rattle.release_catalogue.proofs.component.has_too_many_releases.Given as goal

abbrev pub invariant-loop-component : goal.invariant-loop-component
invariant-loop-component l = l.left + releases_in (take l.component-index l.components) ≡ 20000
