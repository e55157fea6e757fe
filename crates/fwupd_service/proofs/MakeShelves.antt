-- The shelves of `make`.
use Rattle.std.proofs.Common.{◌≡◌, ℕ, zero, suc, List, ◌∷◌, map, Some, refl, ap}
use Rattle.std.specs.Prelude.{replicate}
use Rattle.outer_traits.specs.Plans.{MemoryFiles}
use Rattle.client_plays.specs.Has.{shelf_told, shelves_told}
use Rattle.fwupd_service.specs.Makes.{own_memory, own_shelves}

map-replicate : {A B : Type 0} (f : A → B) (n : ℕ) (x : A) → map f (replicate n x) ≡ replicate n (f x)
map-replicate f zero x = refl
map-replicate f (suc n) x = ap (λ (t : List _). f x ∷ t) (map-replicate f n x)

-- What is known of them.
pub told-own : (clients : ℕ) → shelves_told (λ (m : MemoryFiles). Some m.files) (λ (m : MemoryFiles). m.plan.faults) (replicate clients own_memory) ≡ own_shelves clients
told-own clients = map-replicate (shelf_told (λ (m : MemoryFiles). Some m.files) (λ (m : MemoryFiles). m.plan.faults)) clients own_memory
