-- The house before the first boot.
use Rattle.std.proofs.Common.{◌≡◌, ℕ, ◌≤◌, Bool, true, false, List, [], ◌∷◌, zero, suc, length, map, refl, ap, sym, ◌∙◌, subst, arith, inl}
use Rattle.std.specs.Prelude.{Option, Some, None, slice_get, is_some, unwrap_or, if◌then◌else◌}
use Rattle.std.proofs.lemmas.List.{length-map}
use Rattle.block_pool.specs.Views.{PoolCounts}
use Rattle.emulated_boards.specs.Boards.{BoardState}
use Rattle.emulated_boards.specs.Conditions.{booted, fresh, plugged, view_of}
use Rattle.emulated_boards.specs.declared.condition.Condition.{Condition}
use Rattle.emulated_boards.specs.declared.image.Image.{Image}
use Rattle.fw_facts.specs.declared.seen.Mode.{Mode}
use Rattle.fw_facts.specs.declared.seen.Seen.{Seen}
use Rattle.history_keeper.specs.declared.row.Row.{Row}
use Rattle.history_keeper.specs.Signs.{KeeperSigns}
use Rattle.core_state.specs.Core.{Stands}
use Rattle.update_log.specs.Pasts.{AllFaults, boots, past_of, time_of}
use Rattle.update_log.specs.Holding.{held}
use Rattle.update_log.specs.Legal.{IsLegal}
use Rattle.update_log.specs.Once.{ShowsFirst}
use Rattle.update_log.specs.Shows.{FreshShows, HasRaw, first_of_board}
use Rattle.update_log.specs.Known.{basis_of}
use Rattle.update_log.specs.declared.event.Event.{Event}
use Rattle.update_log.specs.declared.facts.Facts.{Facts}
use Rattle.daemon_core.specs.HouseLog.{IsBlank, IsHouseLog, MadeBy}
use Rattle.daemon_core.specs.Boards.{PlaceStands}
use Rattle.daemon_core.specs.House.{IsHouse, IsNewBoard, IsNewHouse, place_of, shown_by}
use Rattle.daemon_core.specs.Housed.{campaign_in, HouseLogView, Housed, Place, past, past_in, rows_before, rows_taken}
use Rattle.daemon_core.specs.Owed.{owed}

blank-past : (facts : Facts) (first : List Seen) (a : HouseLogView) → IsBlank facts first a → past_in a ≡ []
blank-past facts first a b = ap past_of b.log

blank-before : (facts : Facts) (first : List Seen) (a : HouseLogView) → IsBlank facts first a → rows_before a ≡ []
blank-before facts first a b = ap (λ (l : Bool). rows_taken l a.opening) b.loaded

-- A blank house log is one.
pub house_log-blank : (a : HouseLogView) → IsBlank a.facts a.first a → length a.facts.sheets ≤ 256 → length a.first ≡ length a.facts.sheets → Stands (basis_of a.facts []) a.core → IsHouseLog a
house_log-blank a b few firsts s =
    let p : past_in a ≡ [] = blank-past a.facts a.first a b in
    let o = ap owed p in
    let n = ap boots p in
    let t = ap time_of p in
    record {
      legal = ([], subst (λ (es : List Event). IsLegal (campaign_in a []) es) (sym p) tt);
      stands = subst (λ (r : List Row). Stands (basis_of a.facts r) a.core) (sym (blank-before a.facts a.first a b)) s;
      makers = subst (λ (l : List Event). MadeBy l a.makers) (sym b.log) (subst (λ (m : List ℕ). MadeBy [] m) (sym b.makers) tt);
      few = few;
      firsts = firsts;
      unloaded = λ _. subst AllFaults (sym p) tt;
      unopened = λ _. b.reopened;
      room = omega (arith, o);
      few_boots = omega (arith, n);
      timely = omega (arith, t);
    }

pub shows-itself : (s : Seen) → ShowsFirst s s
shows-itself (Seen.Home raw mode) = refl
shows-itself Seen.Gone = tt
shows-itself Seen.Stranger = tt

raw-shown : (s : Seen) (raw : ℕ) (mode : Mode) → s ≡ Seen.Home raw mode → HasRaw s raw
raw-shown (Seen.Home r m) raw mode e = cc
raw-shown Seen.Gone raw mode e = cc
raw-shown Seen.Stranger raw mode e = cc

loader-only : (o : Option ℕ) (raw : ℕ) → Seen.Home (unwrap_or o 0) (if is_some o then Mode.Runtime else Mode.Bootloader) ≡ Seen.Home raw Mode.Bootloader → raw ≡ 0
loader-only (Some r) raw e = cc
loader-only None raw e = cc

first-shown : (facts : Facts) (first : List Seen) (number : ℕ) (image : Image) → first_of_board first number ≡ view_of (fresh image) → FreshShows (basis_of facts []) first [] number [] (view_of (fresh image))
first-shown facts first number image e =
    record {
      raw = λ raw mode h. inl (subst (λ (s : Seen). HasRaw s raw) (sym e) (raw-shown (view_of (fresh image)) raw mode h));
      mode = λ raw h. loader-only image.raw raw h;
    }

gone-shown : (facts : Facts) (first : List Seen) (number : ℕ) → FreshShows (basis_of facts []) first [] number [] Seen.Gone
gone-shown facts first number = record { raw = λ raw mode h. cc; mode = λ raw h. cc }

boots-shown : (facts : Facts) (first : List Seen) (number : ℕ) (image : Image) → first_of_board first number ≡ view_of (fresh image) → (absent : Bool) → FreshShows (basis_of facts []) first [] number [] (view_of (booted absent (fresh image)))
boots-shown facts first number image e true = gone-shown facts first number
boots-shown facts first number image e false = first-shown facts first number image e

-- A new board stands to the empty past.
pub place-new : (facts : Facts) (first : List Seen) (number : ℕ) (b : BoardState) → IsNewBoard b → first_of_board first number ≡ shown_by b → PlaceStands (basis_of facts []) first [] number (place_of b)
place-new facts first number b n e =
    let f : first_of_board first number ≡ view_of (fresh n.image) = e ∙ ap view_of n.condition in
    record {
      told = refl;
      home = (
        refl,
        (
          [],
          record {
            fits = record {
              journal = record { told_and_tail = n.journal; tail_is = tt };
              view = λ o z. absurd (omega arith);
              unwritten = λ _. subst (λ (s : Seen). ShowsFirst (shown_by b) s) (sym e) (shows-itself (shown_by b));
            };
            boots = λ absent. subst (λ (c : Condition). FreshShows (basis_of facts []) first [] number [] (view_of (booted absent c))) (sym n.condition) (boots-shown facts first number n.image f absent);
            plugs = λ o. subst (λ (c : Condition). FreshShows (basis_of facts []) first [] number [] (view_of (plugged c))) (sym n.condition) (first-shown facts first number n.image f);
            staged = λ image e. let bad : None ≡ Some image = sym (ap (λ (c : Condition). c.staged) n.condition) ∙ e in cc;
            faults = omega arith;
          },
        ),
      );
    }

-- An element of a mapped list.
pub get-map : {X Y : Type 0} (f : X → Y) (xs : List X) (i : ℕ) (y : Y) → slice_get (map f xs) i ≡ Some y → (x : X) × (slice_get xs i ≡ Some x) × (f x ≡ y)
get-map f [] i y h = cc
get-map f (x ∷ xs) zero y h = (x, refl, cc)
get-map f (x ∷ xs) (suc i) y h = get-map f xs i y h

pub map-get : {X Y : Type 0} (f : X → Y) (xs : List X) (i : ℕ) (x : X) → slice_get xs i ≡ Some x → slice_get (map f xs) i ≡ Some (f x)
map-get f [] i x h = cc
map-get f (x' ∷ xs) zero x h = cc
map-get f (x' ∷ xs) (suc i) x h = map-get f xs i x h

-- A new house is a house.
pub house-new : {K : Type 0} (signs : KeeperSigns K) (facts : Facts) (boards : List BoardState) (pool : PoolCounts) (keeper : K) (h : Housed K) → IsNewHouse facts boards pool keeper h → length boards ≡ length facts.sheets
    → ((number : ℕ) (b : BoardState) → slice_get boards number ≡ Some b → IsNewBoard b) → signs.doubt keeper ≡ None → pool.capacity ≡ facts.pool → pool.free ≡ pool.capacity → IsHouse signs h
house-new {K} signs facts boards pool keeper h n count new no_doubt capacity free =
    let p : past h ≡ [] = blank-past facts (map shown_by boards) h.house_log n.blank in
    let r : rows_before h.house_log ≡ [] = blank-before facts (map shown_by boards) h.house_log n.blank in
    let f : h.house_log.facts ≡ facts = n.blank.facts_are in
    let none : held (past h) ≡ 0 = ap held p in
    let cap : h.pool.capacity ≡ pool.capacity = ap (λ (x : PoolCounts). x.capacity) n.pool_is in
    let free' : h.pool.free ≡ pool.free = ap (λ (x : PoolCounts). x.free) n.pool_is in
    let all : h.house_log.facts.pool ≡ facts.pool = ap (λ (x : Facts). x.pool) f in
    record {
      count = ap length n.places ∙ length-map boards place_of ∙ count ∙ ap (λ (x : Facts). length x.sheets) (sym f);
      places = λ number place e.
          let g = get-map place_of boards number place (ap (λ (x : List Place). slice_get x number) (sym n.places) ∙ e) in
          let b : BoardState = g.0 in
          let shown : first_of_board (map shown_by boards) number ≡ shown_by b = ap (λ (o : Option Seen). unwrap_or o Seen.Gone) (map-get shown_by boards number b g.1) in
          subst (λ (x : Facts). PlaceStands (basis_of x (rows_before h.house_log)) h.house_log.first (past h) number place) (sym f)
          (subst (λ (x : List Seen). PlaceStands (basis_of facts (rows_before h.house_log)) x (past h) number place) (sym n.blank.first_are)
          (subst (λ (x : List Row). PlaceStands (basis_of facts x) (map shown_by boards) (past h) number place) (sym r)
          (subst (λ (x : List Event). PlaceStands (basis_of facts []) (map shown_by boards) x number place) (sym p)
          (subst (λ (x : Place). PlaceStands (basis_of facts []) (map shown_by boards) [] number x) g.2
          (place-new facts (map shown_by boards) number b (new number b g.1) shown)))));
      unloaded = λ _. ap signs.doubt n.keeper_is ∙ no_doubt;
      kept = λ l. let e : true ≡ false = sym l ∙ n.blank.loaded in cc;
      capacity = cap ∙ capacity ∙ sym all;
      free = omega (arith, none, cap, free', all, capacity, free);
    }
