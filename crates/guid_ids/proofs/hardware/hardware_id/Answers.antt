use Rattle.std.proofs.Common.{◌∙◌, sym, ap, subst, List, ℕ, ◌∷◌, ◌++◌, map, take}
use Rattle.std.specs.List.{join_with_byte}
use Rattle.sha1.specs.Sha1.{Holds}
use Rattle.guid_ids.specs.Identifiers.{ampersand, hardware_namespace, name_based, utf16_le}
use Rattle.guid_ids.proofs.HardwareLemmas.{taken-push, fields-more, fields-all}
use Rattle.guid_ids.proofs.hardware.hardware_id.Goals as goal

pub loop-other-preserved : goal.loop-other-preserved
loop-other-preserved c =
    let first = c.args.first.now in
    let held = c.take_in-in-loop-other-2.ensures _ (c.take_in-in-loop-other.ensures _ c.loop-other.invariant) in
    let grown = taken-push first (map (λ other. other.now) (take c.loop-other.other-index c.args.others.now)) _ in
    let taken = λ (fields : List (List ℕ)). hardware_namespace ++ utf16_le (join_with_byte ampersand (first ∷ fields)) in
    subst (Holds c.take_in-in-loop-other-2.new.hash)
    (grown ∙ ap taken (sym (fields-more (λ other. other.now) c.args.others.now c.loop-other.other-index _ c.loop-other-test.true))) held

pub returns : goal.returns
returns c =
    c.named_by.ensures _ c.loop-other.invariant
    ∙ ap (λ (fields : List (List ℕ)). name_based hardware_namespace (utf16_le (join_with_byte ampersand (c.args.first.now ∷ fields))))
    (fields-all (λ other. other.now) c.args.others.now c.loop-other.other-index c.loop-other-test.false)
