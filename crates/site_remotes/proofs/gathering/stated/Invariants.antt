use Rattle.std.proofs.Common.{◌≡◌, map, take}
use Rattle.site_remotes.specs.Told.{stated}
use Rattle.site_remotes.proofs.gathering.stated.Given as goal

abbrev pub invariant-loop-remote : goal.invariant-loop-remote
invariant-loop-remote l = l.stated.items ≡ map (stated 0) (take l.remote-index l.remotes)
