use Rattle.std.proofs.Common.{◌≡◌, ◌∙◌, ap, [], ◌∷◌, ◌++◌, append_assoc}
use Rattle.sha1.specs.Sha1.{sha1}
use Rattle.guid_ids.specs.Identifiers.{device_id, colon}
use Rattle.guid_ids.proofs.device.device_id.Goals as goal

pub returns-in-None : goal.returns-in-None
unfolding device_id
returns-in-None c = rw c.in-None.is c.digest.ensures

pub returns-in-Some : goal.returns-in-Some
unfolding device_id
returns-in-Some c =
    let physical = c.args.physical.now in
    let logical = c.in-Some.logical.now in
    let held = c.update-in-Some-2.ensures _ (c.update-in-Some.ensures _ (c.update.ensures _ c.new-name.ensures)) in
    let regrouped : (physical ++ colon ∷ []) ++ logical ≡ physical ++ colon ∷ logical = append_assoc physical (colon ∷ []) logical in
    rw c.in-Some.is (c.finalize.ensures _ held ∙ ap sha1 regrouped)
