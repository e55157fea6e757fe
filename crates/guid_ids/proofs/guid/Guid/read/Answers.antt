use Rattle.std.proofs.Common.{◌∙◌, sym}
use Rattle.guid_ids.proofs.GuidLemmas.{named_guid-wrong_length, named_guid-no_hyphens, named_guid-digits, wrote_ok, wrote_err}
use Rattle.guid_ids.proofs.guid.Guid.read.Goals as goal
use Rattle.guid_ids.proofs.guid.Guid.read.Goals.{then-bytes-ne-GUID_TEXT_LEN-via-then-bytes-ne-GUID_TEXT_LEN, then-bytes-ne-GUID_TEXT_LEN-via-else-bytes-ne-GUID_TEXT_LEN+then-not-has_hyphens}

pub returns-then-bytes-ne-GUID_TEXT_LEN : goal.returns-then-bytes-ne-GUID_TEXT_LEN
returns-then-bytes-ne-GUID_TEXT_LEN c =
    elim c.then-bytes-ne-GUID_TEXT_LEN.branch [
      | then-bytes-ne-GUID_TEXT_LEN-via-then-bytes-ne-GUID_TEXT_LEN w ↦
          sym (named_guid-wrong_length _ w.if-bytes-ne-GUID_TEXT_LEN.true)
      | then-bytes-ne-GUID_TEXT_LEN-via-else-bytes-ne-GUID_TEXT_LEN+then-not-has_hyphens w ↦
          sym (named_guid-no_hyphens _ w.if-bytes-ne-GUID_TEXT_LEN.false (sym w.has_hyphens.ensures ∙ w.if-not-has_hyphens.true))
    ]

pub returns-in_err-ok : goal.returns-in_err-ok
returns-in_err-ok c =
    c.from_residual.ensures
    ∙ named_guid-digits _ _ _ c.if-bytes-ne-GUID_TEXT_LEN.false (sym c.has_hyphens.ensures ∙ c.if-not-has_hyphens.false)
    (c.as_slice.ensures.value ∙ c.between_hyphens-digits.ensures)
    (wrote_err _ _ _ _ c.decode_to_slice.ensures.value (sym c.ok.ensures.value ∙ c.in_err-ok.was))

pub returns : goal.returns
returns c =
    named_guid-digits _ _ _ c.if-bytes-ne-GUID_TEXT_LEN.false (sym c.has_hyphens.ensures ∙ c.if-not-has_hyphens.false)
    (c.as_slice.ensures.value ∙ c.between_hyphens-digits.ensures)
    (wrote_ok _ _ _ _ c.decode_to_slice.ensures.value _ (sym c.ok.ensures.value ∙ c.in_ok-ok.was))
