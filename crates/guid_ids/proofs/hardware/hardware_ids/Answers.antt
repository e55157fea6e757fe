use Rattle.std.proofs.Common.{refl}
use Rattle.guid_ids.specs.Identifiers.{hardware_ids}
use Rattle.guid_ids.proofs.hardware.hardware_ids.Goals as goal

pub returns : goal.returns
unfolding hardware_ids
returns c =
    rw (
      c.add-6.ensures.added,
      c.add-5.ensures.added,
      c.add-4.ensures.added,
      c.add-3.ensures.added,
      c.add-2.ensures.added,
      c.add.ensures.added,
      c.new.ensures,
      c.bytes-manufacturer.ensures,
      c.bytes-family.ensures,
      c.bytes-product.ensures,
      c.bytes-sku.ensures,
    )
    refl
