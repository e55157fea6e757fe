use Rattle.std.proofs.Common.{◌≡◌, ◌∙◌, sym, length, ◌==◌, false}
use Rattle.guid_ids.proofs.HardwareLemmas.{list_any-map}
use Rattle.guid_ids.proofs.hardware.any_empty.Goals as goal

pub returns-else-is_empty : goal.returns-else-is_empty
returns-else-is_empty c =
    let filled : (length c.args.first.now == 0) ≡ false = sym c.is_empty.ensures ∙ c.if-is_empty.false in
    rw filled (c.other_empty.ensures ∙ sym (list_any-map (λ field. length field == 0) (λ other. other.now) c.args.others.now))
