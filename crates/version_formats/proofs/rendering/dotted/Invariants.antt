use Rattle.std.proofs.Common.{◌≡◌, ◌≤◌, ◌*◌, take}
use Rattle.arrayvec.specs.ArrayVec.{array_vec_len}
use Rattle.version_formats.specs.Formats.{dotted}
use Rattle.version_formats.proofs.rendering.dotted.Given as goal

abbrev pub invariant-loop-place : goal.invariant-loop-place
invariant-loop-place l = (l.text.items ≡ dotted (take l.place l.numbers)) × (array_vec_len l.text ≤ 11 * l.place)
