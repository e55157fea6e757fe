use Rattle.std.proofs.Common.{◌++◌, ◌∷◌, take, map}
use Rattle.std.specs.List.{join_with_byte}
use Rattle.sha1.specs.Sha1.{Holds}
use Rattle.guid_ids.specs.Identifiers.{utf16_le, ampersand, hardware_namespace}
use Rattle.guid_ids.proofs.hardware.hardware_id.Given as goal

abbrev pub invariant-loop-other : goal.invariant-loop-other
invariant-loop-other l =
    Holds l.name (hardware_namespace ++ utf16_le (join_with_byte ampersand (l.first ∷ map (λ other. other.now) (take l.other-index l.others))))
