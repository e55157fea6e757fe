use Rattle.std.proofs.Common.{◌≡◌, drop}
use Rattle.fw_patterns.specs.Reading.{members, in_front}
use Rattle.fw_patterns.specs.declared.classes.Front.TheVariants.{Nothing}
use Rattle.fw_patterns.proofs.classes.members.Given as goal

abbrev pub invariant-loop-sign : goal.invariant-loop-sign
invariant-loop-sign l =
    in_front l.ranges.items (members l.bracket l.end l.front (drop l.sign-index l.signs)) ≡ members l.bracket l.end Nothing l.signs
