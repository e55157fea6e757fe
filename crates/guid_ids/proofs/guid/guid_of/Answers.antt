use Rattle.std.proofs.Common.{◌≡◌, sym, ◌∙◌, refl, Some, None}
use Rattle.guid_ids.specs.Identifiers.{guid, named_guid}
use Rattle.guid_ids.proofs.guid.guid_of.Goals as goal

pub returns-in-Some : goal.returns-in-Some
unfolding guid
returns-in-Some c =
    let named : named_guid c.args.bytes.now ≡ Some c.in-Some.named = sym c.read.ensures ∙ c.in-Some.is in
    rw named refl

pub returns-in-None : goal.returns-in-None
unfolding guid
returns-in-None c =
    let unnamed : named_guid c.args.bytes.now ≡ None = sym c.read.ensures ∙ c.in-None.is in
    rw unnamed (c.from_bytes.ensures ∙ c.as_bytes.ensures ∙ c.new_v5.ensures.value)
