use Rattle.std.proofs.Common.{◌∙◌, ap}
use Rattle.guid_ids.specs.Identifiers.{named_guid, guid_text, grouped}
use Rattle.guid_ids.proofs.GuidLemmas.{named_guid-guid_text}
use Rattle.guid_ids.proofs.guid.Guid.text.Goals as goal

pub returns-clause-text : goal.returns-clause-text
unfolding guid_text
returns-clause-text c = rw (← c.self.view_is) (c.in_groups.ensures ∙ ap grouped c.hex_digits.ensures.digits)

pub returns-clause-reads_back : goal.returns-clause-reads_back
returns-clause-reads_back c =
    ap named_guid (returns-clause-text c)
    ∙ rw (← c.self.view_is) (named_guid-guid_text c.self.inside.bytes c.self.told c.hex_digits.ensures.in_range)
