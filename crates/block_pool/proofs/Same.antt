-- When two values of what contracts see are one.
use Rattle.std.proofs.Common.{◌≡◌, ℕ, ◌*◌, List, length, refl}
use Rattle.std.specs.Coded.{Coded, Coded-set, coded_ℕ, coded_list, coded×, code_by}
use base.Stored.{coded_sub}
use Rattle.block_pool.specs.Views.{BlockBytes}

abbrev parts : Coded (ℕ × List ℕ)
parts = coded× coded_ℕ (coded_list coded_ℕ)

abbrev sized : ℕ × List ℕ → Type 0
sized x = length x.1 ≡ 4096 * x.0

abbrev code : Coded BlockBytes
code = code_by ((x : ℕ × List ℕ) × sized x)
    (coded_sub parts sized (λ x. Coded-set coded_ℕ (length x.1) (4096 * x.0)))
    (λ b. ((b.count, b.bytes), b.sized))
    (λ p. record { count = p.0.0; bytes = p.0.1; sized = p.1 })
    (λ _. refl)

-- what is no proof decides
pub same_block_bytes : (x y : BlockBytes) → x.count ≡ y.count → x.bytes ≡ y.bytes → x ≡ y
same_block_bytes x y count bytes = code.inj x y (λ i. parts.code (count i, bytes i))
