use Rattle.std.proofs.Common.{◌≡◌, ◌++◌, map, take}
use Rattle.quirk_files.specs.Texts.{elements_among}
use Rattle.quirk_files.proofs.texts.push_elements.Given as goal

abbrev pub invariant-loop-part : goal.invariant-loop-part
invariant-loop-part l =
    map (λ element. element.now) l.elements.items
    ≡ map (λ element. element.now) l.initial.elements.items ++ elements_among (take l.part-index (map (λ part. part.now) l.parts))
