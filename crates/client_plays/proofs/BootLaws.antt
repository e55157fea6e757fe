-- What a boot's plays say with no clients, and where memory is told to be wanting.
use Rattle.std.proofs.Common.{◌≡◌, ℕ, Bool, true, false, List, [], refl, zero, suc}
use Rattle.client_plays.specs.Moments.{Moment}
use Rattle.client_plays.specs.Scripts.{PlayedSo, items_of}
use Rattle.client_plays.proofs.ScriptLaws.{so-more}

-- What was played stays so where memory is told to be wanting too.
pub so-told : {X : Type 0} (is_off before wanting : Bool) (client : ℕ) (Play : X → List Moment → Type 0) (xs : List X) (moments : List Moment) → (before ≡ true → wanting ≡ true) → PlayedSo is_off before client Play xs moments → PlayedSo is_off wanting client Play xs moments
so-told is_off before true client Play xs moments h p = so-more is_off before client Play xs moments p
so-told is_off true false client Play xs moments h p = let e : false ≡ true = h refl in cc
so-told is_off false false client Play xs moments h p = p

-- No scripts have no items.
pub items-none : (client : ℕ) → items_of [] client ≡ []
items-none zero = refl
items-none (suc n) = refl
