-- Readings whose value, if there is one, has a property.
use Rattle.std.proofs.Common.{◌≡◌, ℕ, List, [], ◌∷◌, ◌++◌, length, Bool, true, false, Option, Some, None, Result, Ok, Err, if◌then◌else◌, refl, nat_lt}
use Rattle.std.specs.Prelude.{⊤}
use Rattle.serde_json.specs.Data.{Data, Items, no_items, item}
use Rattle.release_catalogue.specs.declared.reason.Reason.{Reason}
use Rattle.release_catalogue.specs.declared.reason.Reason.TheVariants.{TooMany}
use Rattle.release_catalogue.specs.declared.spot.Level.{Level}
use Rattle.release_catalogue.specs.declared.spot.Spot.{Spot}
use Rattle.release_catalogue.specs.declared.spot.Fault.{Fault}
use Rattle.release_catalogue.specs.Reading.{◌>>=◌, at_spot, each, entry_spot, or_default, refuse_if}
use Rattle.release_catalogue.specs.Kinds.{items_at, items_len, list_at}

abbrev pub Good : {A : Type 0} → (A → Type 0) → Result A Fault → Type 0
Good P (Ok a) = P a
Good P (Err e) = Unit {0}

pub good_then : {A B : Type 0} (P : B → Type 0) (Q : A → Type 0) (r : Result A Fault) (f : A → Result B Fault) → Good Q r → ((a : A) → Q a → Good P (f a)) → Good P (r >>= f)
good_then P Q (Ok a) f h next = next a h
good_then P Q (Err e) f h next = tt

pub good_after : {A B : Type 0} (P : B → Type 0) (r : Result A Fault) (f : A → Result B Fault) → ((a : A) → Good P (f a)) → Good P (r >>= f)
good_after P (Ok a) f next = next a
good_after P (Err e) f next = tt

pub good_unless : {B : Type 0} (P : B → Type 0) (b : Bool) (spot : Spot) (reason : Reason) (f : ⊤ → Result B Fault) → (b ≡ false → Good P (f tt)) → Good P (refuse_if b spot reason >>= f)
good_unless P true spot reason f next = tt
good_unless P false spot reason f next = next refl

pub good_below : {B : Type 0} (P : B → Type 0) (b : Bool) (spot : Spot) (reason : Reason) (r : Result B Fault) → Good P r → Good P (if b then at_spot spot reason else r)
good_below P true spot reason r h = tt
good_below P false spot reason r h = h

pub good_weaker : {A : Type 0} (P Q : A → Type 0) (r : Result A Fault) → ((a : A) → P a → Q a) → Good P r → Good Q r
good_weaker P Q (Ok a) weaker h = weaker a h
good_weaker P Q (Err e) weaker h = tt

pub good_default : {A : Type 0} (P : A → Type 0) (a : A) (read : Data → Result A Fault) (o : Option Data) → P a → ((d : Data) → Good P (read d)) → Good P (or_default a read o)
good_default P a read None one all = one
good_default P a read (Some d) one all = all d

pub good_each : {A : Type 0} (P : List A → Type 0) (read : List A → Spot → Data → Result A Fault) (place : ℕ → Spot)
    → ((earlier : List A) (spot : Spot) (d : Data) → P earlier → Good (λ x. P (earlier ++ x ∷ [])) (read earlier spot d))
    → (earlier : List A) (ds : Items) → P earlier → Good P (each read place earlier ds)
good_each P read place step earlier no_items h = h
good_each {A = A} P read place step earlier (item d ds) h =
    good_then P (λ (x : A). P (earlier ++ x ∷ [])) (read earlier (place (length earlier)) d) (λ (x : A). each read place (earlier ++ x ∷ []) ds)
    (step earlier (place (length earlier)) d h)
    (λ (x : A) (more : P (earlier ++ x ∷ [])). good_each P read place step (earlier ++ x ∷ []) ds more)

pub good_list : {A : Type 0} (P : List A → Type 0) (most : ℕ) (read : List A → Spot → Data → Result A Fault) (spot base : Spot) (level : Level) (d : Data)
    → ((earlier : List A) (spot : Spot) (d : Data) → P earlier → Good (λ x. P (earlier ++ x ∷ [])) (read earlier spot d))
    → P [] → Good P (list_at most read spot base level d)
good_list {A = A} P most read spot base level d step none =
    good_after P (items_at spot d) (λ (ds : Items). if nat_lt most (items_len ds) then at_spot spot TooMany else each read (entry_spot base level) [] ds)
    (λ (ds : Items). good_below P (nat_lt most (items_len ds)) spot TooMany (each read (entry_spot base level) [] ds)
    (good_each P read (entry_spot base level) step [] ds none))
