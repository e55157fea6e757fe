use Rattle.std.proofs.Common.{List, ℕ, ◌++◌, take}
use Rattle.sha1.specs.Sha1.{Holds}
use Rattle.guid_ids.specs.Identifiers.{utf16_le}
use Rattle.guid_ids.proofs.hardware.take_in.Given as goal

abbrev pub invariant-loop-byte : goal.invariant-loop-byte
invariant-loop-byte l = (taken : List ℕ) → Holds l.initial.hash taken → Holds l.hash (taken ++ utf16_le (take l.byte-index l.text))
