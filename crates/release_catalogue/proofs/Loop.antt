-- Reading the entries of a list one after the other, as a loop does.
use Rattle.std.proofs.Common.{◌≡◌, ℕ, suc, ◌+◌, ◌≤◌, ◌<◌, List, [], ◌∷◌, ◌++◌, length, drop, get_or, Result, Ok, Err, refl, sym, ap, ◌∙◌, add-one}
use Rattle.std.proofs.Math.Seq.{drop-cons}
use Rattle.std.proofs.Math.ListN.{drop_of_length-le}
use Rattle.serde_json.specs.Data.{Data}
use Rattle.json_values.specs.Trees.{Tree, view, items_view}
use Rattle.release_catalogue.specs.declared.spot.Spot.{Spot}
use Rattle.release_catalogue.specs.declared.spot.Fault.{Fault}
use Rattle.release_catalogue.specs.declared.spot.ReadStop.{ReadStop}
use Rattle.release_catalogue.specs.declared.spot.ReadStop.TheVariants.{At, NoMemory}
use Rattle.release_catalogue.specs.Reading.{Fails, each}
use Rattle.release_catalogue.specs.Kinds.{items_len}

first : (vs : List Tree) (i : ℕ) (v : Tree) → i < length vs → v ≡ get_or vs i v → drop i vs ≡ v ∷ drop (i + 1) vs
first vs i v lt is = rw add-one (drop-cons vs i v lt ∙ ap (λ (w : Tree). w ∷ drop (suc i) vs) (sym is))

pub goes_on : {A : Type 0} (f : List A → Spot → Data → Result A Fault) (place : ℕ → Spot) (earlier : List A) (vs : List Tree) (i : ℕ) (v : Tree) (x : A) (total : Result (List A) Fault)
    → i < length vs → v ≡ get_or vs i v → length earlier ≡ i → f earlier (place i) (view v) ≡ Ok x
    → each f place earlier (items_view (drop i vs)) ≡ total → each f place (earlier ++ x ∷ []) (items_view (drop (i + 1) vs)) ≡ total
goes_on f place earlier vs i v x total lt is len h so_far =
    let one : each f place earlier (items_view (drop i vs)) ≡ each f place (earlier ++ x ∷ []) (items_view (drop (i + 1) vs)) = rw (first vs i v lt is, len, h) refl in
    sym one ∙ so_far

pub ends : {A : Type 0} (e : ReadStop) (f : List A → Spot → Data → Result A Fault) (place : ℕ → Spot) (earlier : List A) (vs : List Tree) (i : ℕ) (v : Tree) (total : Result (List A) Fault)
    → i < length vs → v ≡ get_or vs i v → length earlier ≡ i → Fails e (f earlier (place i) (view v))
    → each f place earlier (items_view (drop i vs)) ≡ total → Fails e total
ends NoMemory f place earlier vs i v total lt is len h so_far = tt
ends (At fault) f place earlier vs i v total lt is len h so_far =
    let one : each f place earlier (items_view (drop i vs)) ≡ Err fault = rw (first vs i v lt is, len, h) refl in
    sym so_far ∙ one

pub is_done : {A : Type 0} (f : List A → Spot → Data → Result A Fault) (place : ℕ → Spot) (earlier : List A) (vs : List Tree) (i : ℕ) (total : Result (List A) Fault) → length vs ≤ i
    → each f place earlier (items_view (drop i vs)) ≡ total → total ≡ Ok earlier
is_done f place earlier vs i total le so_far =
    let k : drop i vs ≡ [] = drop_of_length-le vs le in
    let one : each f place earlier (items_view (drop i vs)) ≡ Ok earlier = rw k refl in
    sym so_far ∙ one

pub items_len_of : (vs : List Tree) → length vs ≡ items_len (items_view vs)
items_len_of [] = refl
items_len_of (v ∷ vs) = ap suc (items_len_of vs)
