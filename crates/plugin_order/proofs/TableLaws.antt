-- A rule of the table is between two of its plugins, and is the rule that it was filled from.
use Rattle.std.proofs.Common.{◌≡◌, ◌≢◌, ℕ, ◌+◌, ◌*◌, ◌<◌, ◌≤◌, inl, inr, Bool, true, false, ◌&&◌, nat_lt, IsTrue, List, length, Some, None, slice_get, slice_index_or, slice_set, get_or-set_other, get_or-set_same, refl, sym, ap, ◌∙◌, arith, replicate}
use Rattle.std.proofs.lemmas.List.{length-set, length-replicate}
use Rattle.std.proofs.lemmas.Bool.{ltb-true, lt-ltb, le-ltb}
use Rattle.std.proofs.lemmas.Bool.Decides.{leb_tells, eqb_tells}
use Rattle.std.proofs.lemmas.Option.{slice_get_past}
use Rattle.plugin_order.specs.declared.rules.Rules.{Rules}
use Rattle.plugin_order.specs.declared.sheet.PluginSheet.{PluginSheet}
use Rattle.plugin_order.specs.Table.{holds, table_holds}
use Rattle.plugin_order.specs.Sheets.{related, between}

left : (a b : Bool) → a && b ≡ true → a ≡ true
left true b h = refl
left false b h = h

right : (a b : Bool) → a && b ≡ true → b ≡ true
right true b h = h
right false b h = cc

pub holds-from : (rules : Rules) (p q : ℕ) → IsTrue (holds rules p q) → p < rules.count
holds-from rules p q h = ltb-true p rules.count (left _ _ h)

pub holds-to : (rules : Rules) (p q : ℕ) → IsTrue (holds rules p q) → q < rules.count
holds-to rules p q h = ltb-true q rules.count (left _ _ (right _ _ h))

-- the rows below p are there, and the first q places of row p
pub record IsFilled (rule : ℕ → ℕ → Bool) (n : ℕ) (table : List Bool) (p q : ℕ) : Type 0 where
  pub above : (i j : ℕ) → i < p → j < n → slice_index_or table (i * 64 + j) false ≡ rule i j
  pub row : (j : ℕ) → j < q → slice_index_or table (p * 64 + j) false ≡ rule p j
  pub long : length table ≡ 4096

pub filled_more : (rule : ℕ → ℕ → Bool) (n : ℕ) (table : List Bool) (p q : ℕ) (b : Bool) → n ≤ 64 → p < n → q < n
    → b ≡ rule p q → IsFilled rule n table p q → IsFilled rule n (slice_set table (p * 64 + q) b) p (q + 1)
filled_more rule n table p q b few pn qn is f = record {
  above = λ i j ip jn.
      let ne : i * 64 + j ≢ p * 64 + q = omega arith in
      get_or-set_other table (p * 64 + q) (i * 64 + j) b false ne ∙ f.above i j ip jn;
  row = λ j jq. elim (eqb_tells j q) [
    | inl y ↦ (
        let lt : p * 64 + q < length table = omega (arith, f.long) in
        let e : j ≡ q = y.1 in
        ap (λ (k : ℕ). slice_index_or (slice_set table (p * 64 + q) b) (p * 64 + k) false) e
        ∙ get_or-set_same table (p * 64 + q) b false lt ∙ is ∙ ap (λ (k : ℕ). rule p k) (sym e))
    | inr n ↦ (
        let ne : p * 64 + j ≢ p * 64 + q = omega (arith, n.1) in
        let lt : j < q = omega (arith, n.1) in
        get_or-set_other table (p * 64 + q) (p * 64 + j) b false ne ∙ f.row j lt)
  ];
  long = simp length-set f.long;
}

related-none : (rule : PluginSheet → PluginSheet → Bool) (sheets : List PluginSheet) (p q : ℕ) → length sheets ≤ q → between rule sheets p q ≡ false
related-none rule sheets p q h = rw (slice_get_past sheets q h) (to_none (slice_get sheets p))
  where
    to_none : (o : _) → related rule o None ≡ false
    to_none None = refl
    to_none (Some s) = refl

from_none : (rule : PluginSheet → PluginSheet → Bool) (sheets : List PluginSheet) (p q : ℕ) → length sheets ≤ p → between rule sheets p q ≡ false
from_none rule sheets p q h = ap (λ o. related rule o (slice_get sheets q)) (slice_get_past sheets p h)

pub filled_says : (rule : PluginSheet → PluginSheet → Bool) (sheets : List PluginSheet) (table : List Bool)
    → (m : ℕ) → length sheets ≤ m → IsFilled (between rule sheets) (length sheets) table m 0 → (p q : ℕ) → table_holds (length sheets) table p q ≡ between rule sheets p q
filled_says rule sheets table m all f p q = elim (leb_tells (length sheets) p) [
  | inl y ↦ (
      let out : nat_lt p (length sheets) ≡ false = le-ltb p (length sheets) (omega (arith, y.1)) in
      ap (λ b. b && (nat_lt q (length sheets) && slice_index_or table (p * 64 + q) false)) out ∙ sym (from_none rule sheets p q y.1))
  | inr y ↦ elim (leb_tells (length sheets) q) [
    | inl z ↦ (
        let here : nat_lt p (length sheets) ≡ true = lt-ltb p (length sheets) (omega (arith, y.1)) in
        let out : nat_lt q (length sheets) ≡ false = le-ltb q (length sheets) (omega (arith, z.1)) in
        ap (λ b. b && (nat_lt q (length sheets) && slice_index_or table (p * 64 + q) false)) here
        ∙ ap (λ b. b && slice_index_or table (p * 64 + q) false) out ∙ sym (related-none rule sheets p q z.1))
    | inr z ↦ (
        let here : nat_lt p (length sheets) ≡ true = lt-ltb p (length sheets) (omega (arith, y.1)) in
        let there : nat_lt q (length sheets) ≡ true = lt-ltb q (length sheets) (omega (arith, z.1)) in
        ap (λ b. b && (nat_lt q (length sheets) && slice_index_or table (p * 64 + q) false)) here
        ∙ ap (λ b. b && slice_index_or table (p * 64 + q) false) there ∙ f.above p q (omega (arith, y.1, all)) z.1)
  ]
]

pub filled_none : (rule : ℕ → ℕ → Bool) (n : ℕ) → IsFilled rule n (replicate 4096 false) 0 0
filled_none rule n = record {
  above = λ i j ip jn. absurd (omega arith);
  row = λ j jq. absurd (omega arith);
  long = length-replicate 4096 false;
}
