-- Views that change board by board.
use Rattle.std.proofs.Common.{◌≡◌, ℕ, zero, suc, List, [], ◌∷◌, ◌++◌, map, take, drop, length, get_or, set, ◌<◌, ◌≤◌, refl, ap, arith, sym, ◌∙◌}
use Rattle.std.specs.Prelude.{Option, Some, None, IfSome, slice_get, unwrap_or}
use Rattle.fw_facts.specs.declared.seen.Seen.{Seen}
use Rattle.fw_facts.specs.declared.view.DeviceView.{DeviceView}
use Rattle.core_state.specs.CoreViews.{claimed, told_on}
use Rattle.update_log.specs.Boards.{Board}
use Rattle.update_log.specs.Known.{Known, view_of}
use Rattle.update_log.specs.declared.live.LiveEntry.{LiveEntry}

pub length-told : (told : ℕ → Option Seen) (boards : List ℕ) (views : List DeviceView) → length (told_on told boards views) ≡ length views
length-told told [] views = refl
length-told told (b ∷ boards) [] = refl
length-told told (b ∷ boards) (v ∷ views) = ap suc (length-told told boards views)

-- One board more, of which nothing is told.
pub untold-next : (told : ℕ → Option Seen) (boards : List ℕ) (views : List DeviceView) (i b d : ℕ)
    → i < length boards → b ≡ get_or boards i d → told b ≡ None → told_on told (take i boards) views ≡ told_on told (take (suc i) boards) views
untold-next told [] views i b d lt e h = absurd (omega arith)
untold-next told (c ∷ boards) [] zero b d lt e h = refl
untold-next told (c ∷ boards) (v ∷ views) zero b d lt e h =
    let none : told c ≡ None = ap told (sym e) ∙ h in
    rw none refl
untold-next told (c ∷ boards) [] (suc i) b d lt e h = refl
untold-next told (c ∷ boards) (v ∷ views) (suc i) b d lt e h =
    ap (λ (vs : List DeviceView). record v { seen = unwrap_or (told c) v.seen } ∷ vs) (untold-next told boards views i b d (omega arith) e h)

-- One board more, which shows something else.
pub told-next : (told : ℕ → Option Seen) (boards : List ℕ) (views : List DeviceView) (i b d : ℕ) (s : Seen) (view : DeviceView)
    → i < length boards → b ≡ get_or boards i d → told b ≡ Some s → slice_get (told_on told (take i boards) views) i ≡ Some view
    → set (told_on told (take i boards) views) i (record view { seen = s }) ≡ told_on told (take (suc i) boards) views
told-next told [] views i b d s view lt e h g = absurd (omega arith)
told-next told (c ∷ boards) [] zero b d s view lt e h g = cc
told-next told (c ∷ boards) (v ∷ views) zero b d s view lt e h g =
    let some : told c ≡ Some s = ap told (sym e) ∙ h in
    let same : v ≡ view = cc in
    rw some (ap (λ (w : DeviceView). record w { seen = s } ∷ views) (sym same))
told-next told (c ∷ boards) [] (suc i) b d s view lt e h g = cc
told-next told (c ∷ boards) (v ∷ views) (suc i) b d s view lt e h g =
    ap (λ (vs : List DeviceView). record v { seen = unwrap_or (told c) v.seen } ∷ vs) (told-next told boards views i b d s view (omega arith) e h g)

-- The views after an event, over what was known before and is known then.
pub views-after : (told : ℕ → Option Seen) (before now : Known) (live live' : List LiveEntry) (boards : List Board)
    → ((b : ℕ) → now.shown b ≡ unwrap_or (told b) (before.shown b))
    → map (claimed now.rows live') (told_on told (map (λ b. b.number) boards) (map (view_of live before) boards)) ≡ map (view_of live' now) boards
views-after told before now live live' [] h = refl
views-after told before now live live' (b ∷ boards) h =
    ap (λ (s : Seen). claimed now.rows live' (let v : DeviceView = record { sheet = b.sheet; seen = s; claim = None } in v)
    ∷ map (claimed now.rows live') (told_on told (map (λ b. b.number) boards) (map (view_of live before) boards))) (sym (h b.number))
    ∙ ap (λ (vs : List DeviceView). view_of live' now b ∷ vs) (views-after told before now live live' boards h)

pub none-past : {X : Type 0} (xs : List X) (i : ℕ) → slice_get xs i ≡ None → i < length xs → ⊥
none-past [] i h lt = absurd (omega arith)
none-past (x ∷ xs) zero h lt = cc
none-past (x ∷ xs) (suc i) h lt = none-past xs i h (omega arith)

-- One turn of a loop that tells what boards show.
pub told-step : (told : ℕ → Option Seen) (boards : List ℕ) (views now new : List DeviceView) (i b d : ℕ) (s : Seen)
    → now ≡ told_on told (take i boards) views → i < length boards → length boards ≤ length views → b ≡ get_or boards i d → told b ≡ Some s
    → IfSome (slice_get now i) (λ view. new ≡ set now i (record view { seen = s }))
    → new ≡ told_on told (take (suc i) boards) views
told-step told boards views now new i b d s n lt le e h c = by (slice_get now i) refl c
  where
    by : (o : Option DeviceView) → slice_get now i ≡ o → IfSome o (λ view. new ≡ set now i (record view { seen = s })) → new ≡ told_on told (take (suc i) boards) views
    by None g c = absurd (none-past now i g (let m = ap length n ∙ length-told told (take i boards) views in omega (arith, m)))
    by (Some view) g c =
        c ∙ ap (λ (vs : List DeviceView). set vs i (record view { seen = s })) n
        ∙ told-next told boards views i b d s view lt e h (ap (λ (vs : List DeviceView). slice_get vs i) (sym n) ∙ g)

pub length-mapped : {X : Type 0} (f : X → X) (xs : List X) (i : ℕ) → length (map f (take i xs) ++ drop i xs) ≡ length xs
length-mapped f [] zero = refl
length-mapped f [] (suc i) = refl
length-mapped f (x ∷ xs) zero = refl
length-mapped f (x ∷ xs) (suc i) = ap suc (length-mapped f xs i)

-- Where nothing is told, the views stay.
pub told_none : (boards : List ℕ) (views : List DeviceView) → views ≡ told_on (λ board. None) boards views
told_none [] views = refl
told_none (b ∷ boards) [] = refl
told_none (b ∷ boards) (v ∷ views) = ap (λ (vs : List DeviceView). v ∷ vs) (told_none boards views)
