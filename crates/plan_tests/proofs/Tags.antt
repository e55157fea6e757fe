-- The tag `u`.
use Rattle.std.proofs.Common.{◌≡◌, ℕ, List, length, refl, arith}
use Rattle.std.specs.Prelude.{Result, Ok, codes}
use Rattle.fw_base.specs.Names.{name_read}
use Rattle.fw_base.specs.declared.name.NameFault.{NameFault}
use Rattle.update_plans.specs.Tags.{IsTag}

same : (read : Result (List ℕ) NameFault) (tag word : List ℕ) → Ok tag ≡ read → read ≡ Ok word → tag ≡ word
same read tag word e f = cc

-- It is what its byte is read as.
pub tag_read : (tag : List ℕ) → Ok tag ≡ name_read (codes "u") → tag ≡ codes "u"
tag_read tag e = same (name_read (codes "u")) tag (codes "u") e refl

pub tag_fits : IsTag (codes "u")
tag_fits =
    let one : length (codes "u") ≡ 1 = refl in
    record { few = omega (arith, one); read = refl }
