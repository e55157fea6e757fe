-- Shelves, over a boot.
use Rattle.std.proofs.Common.{◌≡◌, ℕ, ◌<◌, ◌≤◌, ◌+◌, ◌-◌, zero, suc, List, [], ◌∷◌, ◌++◌, map, length, get_or, set, refl, ap, sym, ◌∙◌, subst, arith}
use Rattle.std.proofs.lemmas.List.{length-map}
use Rattle.std.specs.Prelude.{slice_get}
use Rattle.client_plays.specs.Has.{shelf_told, shelves_told}
use Rattle.client_plays.specs.Shelves.{files_for, files_of}
use Rattle.client_plays.specs.Tools.{Files, ShelfStays, ShelvesStay}
use Rattle.client_plays.proofs.ToolLaws.{shelves-here, shelves-long}

-- The first shelf, which the daemon shares with the first client.
pub files-first : {P : Type 0} (files : P → Files) (faults : P → ℕ) (items : List P) (shelf : P) → 0 < length items → shelf ≡ get_or items 0 shelf → files_for (shelves_told files faults items) 0 ≡ files shelf
files-first files faults [] shelf l e = absurd (omega arith)
files-first files faults (x ∷ rest) shelf l e = ap files (sym e)

pub stay-first : {P : Type 0} (files : P → Files) (faults : P → ℕ) (items : List P) (old new : P) → 0 < length items → old ≡ get_or items 0 old → files new ≡ files old → faults old ≤ faults new → ShelvesStay (shelves_told files faults items) (shelves_told files faults (set items 0 new))
stay-first files faults [] old new l e f c = absurd (omega arith)
stay-first files faults (x ∷ rest) old new l e f c = (
  record { files = f ∙ ap files e; counts = subst (λ (y : _). faults y ≤ faults new) e c },
  shelves-here (shelves_told files faults rest),
)

-- There are shelves enough for so many clients, also where the shelves stayed.
pub enough-stay : {P : Type 0} (files : P → Files) (faults : P → ℕ) (old new : List P) (clients : ℕ) → clients - 1 < length (shelves_told files faults old) → ShelvesStay (shelves_told files faults old) (shelves_told files faults new) → clients ≤ length new
enough-stay files faults old new clients l s =
    let m : length (shelves_told files faults new) ≡ length (shelves_told files faults old) = shelves-long (shelves_told files faults old) (shelves_told files faults new) s in
    let n : length (shelves_told files faults new) ≡ length new = length-map new (shelf_told files faults) in
    omega (arith, l, m, n)

module _ {A P : Type 0} (files : P → Files) (faults : P → ℕ) (f : A → P) where
  -- The shelf of a client that was dealt one.
  pub files-dealt : (all rest : List P) (xs : List A) (i : ℕ) (d : A) → all ≡ map f xs ++ rest → i < length xs → files_of (slice_get (shelves_told files faults all) i) ≡ files (f (get_or xs i d))
  files-dealt all rest xs i d e l = ap (λ (ps : List P). files_of (slice_get (shelves_told files faults ps) i)) e ∙ at xs i l
    where
      at : (xs : List A) (i : ℕ) → i < length xs → files_of (slice_get (shelves_told files faults (map f xs ++ rest)) i) ≡ files (f (get_or xs i d))
      at [] i l = absurd (omega arith)
      at (x ∷ xs) zero l = refl
      at (x ∷ xs) (suc i) l = at xs i (omega arith)

  pub files-client : (all rest : List P) (xs : List A) (i : ℕ) (d : A) → all ≡ map f xs ++ rest → i < length xs → files_for (shelves_told files faults all) (i + 1) ≡ files (f (get_or xs i d))
  files-client all rest xs i d e l =
      let one : (i + 1) - 1 ≡ i = omega arith in
      ap (λ (n : ℕ). files_of (slice_get (shelves_told files faults all) n)) one ∙ files-dealt all rest xs i d e l

  -- Shelves that were dealt out, and came back.
  pub stay-dealt : (old new rest : List P) (xs ys : List A) → length ys ≡ length xs → ((i : ℕ) (d : A) → i < length xs → ShelfStays (shelf_told files faults (f (get_or xs i d))) (shelf_told files faults (f (get_or ys i d))))
      → old ≡ map f xs ++ rest → new ≡ map f ys ++ rest → ShelvesStay (shelves_told files faults old) (shelves_told files faults new)
  stay-dealt old new rest xs ys n each e o =
      subst (λ (ps : List P). ShelvesStay (shelves_told files faults ps) (shelves_told files faults new)) (sym e)
      (subst (λ (ps : List P). ShelvesStay (shelves_told files faults (map f xs ++ rest)) (shelves_told files faults ps)) (sym o) (all xs ys n each))
    where
      all : (xs ys : List A) → length ys ≡ length xs → ((i : ℕ) (d : A) → i < length xs → ShelfStays (shelf_told files faults (f (get_or xs i d))) (shelf_told files faults (f (get_or ys i d))))
          → ShelvesStay (shelves_told files faults (map f xs ++ rest)) (shelves_told files faults (map f ys ++ rest))
      all [] [] n each = shelves-here (shelves_told files faults rest)
      all [] (y ∷ ys) n each = absurd (omega arith)
      all (x ∷ xs) [] n each = absurd (omega arith)
      all (x ∷ xs) (y ∷ ys) n each = (each 0 x (omega arith), all xs ys (omega arith) (λ i d l. each (suc i) d (omega arith)))
