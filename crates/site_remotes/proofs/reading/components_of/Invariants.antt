use Rattle.std.proofs.Common.{◌≡◌, take}
use Rattle.site_remotes.specs.Remotes.{components_of}
use Rattle.site_remotes.proofs.reading.components_of.Given as goal

abbrev pub invariant-loop-remote : goal.invariant-loop-remote
invariant-loop-remote l = l.count ≡ components_of (take l.remote-index l.remotes)
