-- Boards that got more room for marks.
use Rattle.std.proofs.Common.{◌≡◌, ◌≢◌, ℕ, zero, suc, ◌<◌, ◌≤◌, true, false, List, [], ◌∷◌, length, refl, ap, sym, ◌∙◌, subst, arith, ◌⊎◌, inl, inr}
use Rattle.std.specs.Prelude.{Option, Some, None, IfSome, OnOk, Result, Ok, Err, nat_lt, slice_get, slice_set, unwrap_or}
use Rattle.std.proofs.lemmas.Bool.{ltb-false, ltb-true}
use Rattle.update_log.proofs.Lists.{by_test}
use Rattle.emulated_boards.specs.Boards.{BoardState, SameBoard}
use Rattle.emulated_boards.specs.Conditions.{booted, plugged, view_of}
use Rattle.emulated_boards.specs.declared.condition.Condition.{Condition}
use Rattle.emulated_boards.specs.declared.mark.Mark.{Mark}
use Rattle.fw_facts.specs.declared.seen.Seen.{Seen}
use Rattle.history_keeper.specs.Signs.{KeeperSigns}
use Rattle.update_log.specs.Once as once
use Rattle.update_log.specs.Shows.{FreshShows, IsWritten}
use Rattle.update_log.specs.Known.{Basis}
use Rattle.update_log.specs.declared.event.Event.{Event}
use Rattle.daemon_core.specs.Boards.{BoardIsHome, BoardStands, PlaceStands, faulty_ends, is_out}
use Rattle.daemon_core.specs.Claims.{RoomierAt, RoomierBoard, RoomierPlace, RoomierPlaces, places_without}
use Rattle.daemon_core.specs.House.{IsHouse}
use Rattle.daemon_core.specs.Housed.{Housed, Place}
use Rattle.daemon_core.specs.Returns.{place_at, places_with}
use Rattle.daemon_core.proofs.ClaimEnds.{get-set, length-set, place-found}

-- ---- setting one place

pub set-get : {X : Type 0} (xs : List X) (n : ℕ) (v : X) → n < length xs → slice_get (slice_set xs n v) n ≡ Some v
set-get [] n v h = absurd (omega arith)
set-get (x ∷ xs) zero v h = refl
set-get (x ∷ xs) (suc n) v h = set-get xs n v (omega arith)

pub set-other : {X : Type 0} (xs : List X) (n m : ℕ) (v : X) → m ≢ n → slice_get (slice_set xs n v) m ≡ slice_get xs m
set-other [] n m v h = refl
set-other (x ∷ xs) zero zero v h = absurd (h refl)
set-other (x ∷ xs) zero (suc m) v h = refl
set-other (x ∷ xs) (suc n) zero v h = refl
set-other (x ∷ xs) (suc n) (suc m) v h = set-other xs n m v (λ e. h (ap suc e))

-- ---- more room

pub board-itself : (o : Option BoardState) → RoomierBoard o o
board-itself None = tt
board-itself (Some b) = record { condition = refl; journal = refl; plan = refl; calls = refl; faults = refl }

pub places-themselves : (places : List Place) → RoomierPlaces places places
places-themselves places = record { count = refl; each = λ n p e. (p, e, record { told_same = refl; board_same = board-itself p.board }) }

pub places-same : (old new : List Place) → new ≡ old → RoomierPlaces old new
places-same old new e = subst (λ (x : List Place). RoomierPlaces old x) (sym e) (places-themselves old)

-- one board got it
pub room-set : (places : List Place) (n : ℕ) (o : Option BoardState) → n < length places → RoomierBoard (place_at places n).board o → RoomierPlaces places (slice_set places n (record (place_at places n) { board = o }))
room-set places n o within r = record { count = length-set places n (record (place_at places n) { board = o }); each = λ m p e. at m p (get-set places n m (record (place_at places n) { board = o }) p e) }
  where
    at : (m : ℕ) (p : Place) → ((m ≡ n) × (record (place_at places n) { board = o } ≡ p)) ⊎ ((m ≢ n) × (slice_get places m ≡ Some p)) → RoomierAt places m p
    at m p (inl h) =
        (place_at places n, ap (slice_get places) h.0 ∙ place-found places n within, subst (λ (x : Place). RoomierPlace (place_at places n) x) h.1 (record { told_same = refl; board_same = r }))
    at m p (inr h) = (p, h.1, record { told_same = refl; board_same = board-itself p.board })

-- a place past the end
set-past : {X : Type 0} (xs : List X) (n : ℕ) (v : X) → length xs ≤ n → slice_set xs n v ≡ xs
set-past [] n v h = refl
set-past (x ∷ xs) zero v h = absurd (omega arith)
set-past {X = X} (x ∷ xs) (suc n) v h = ap (λ (ys : List X). x ∷ ys) (set-past xs n v (omega arith))

-- a board went out
out-within : (old new : List Place) (n : ℕ) → RoomierPlaces old new → n < length old → RoomierPlaces (places_without old n) (places_without new n)
out-within old new n r within =
    record {
      count = length-set new n (record (place_at new n) { board = None }) ∙ r.count ∙ sym (length-set old n (record (place_at old n) { board = None }));
      each = λ m p e. at m p (get-set new n m (record (place_at new n) { board = None }) p e);
    }
  where
    own : n < length new
    own = (let c = r.count in omega (arith, c, within))

    told : (place_at new n).told ≡ (place_at old n).told
    told =
        let w = r.each n (place_at new n) (place-found new n own) in
        let e : Some w.0 ≡ Some (place_at old n) = sym w.1 ∙ place-found old n within in
        let s : w.0 ≡ place_at old n = cc in
        let t = w.2 in
        t.told_same ∙ ap (λ (x : Place). x.told) s

    at : (m : ℕ) (p : Place) → ((m ≡ n) × (record (place_at new n) { board = None } ≡ p)) ⊎ ((m ≢ n) × (slice_get new m ≡ Some p)) → RoomierAt (places_without old n) m p
    at m p (inl h) = (
      record (place_at old n) { board = None },
      ap (slice_get (places_without old n)) h.0 ∙ set-get old n (record (place_at old n) { board = None }) within,
      subst (λ (x : Place). RoomierPlace (record (place_at old n) { board = None }) x) h.1 (record { told_same = told; board_same = tt }),
    )
    at m p (inr h) = let w = r.each m p h.1 in (w.0, set-other old n m (record (place_at old n) { board = None }) h.0 ∙ w.1, w.2)

pub room-out : (old new : List Place) (n : ℕ) → RoomierPlaces old new → RoomierPlaces (places_without old n) (places_without new n)
room-out old new n r =
    by_test (nat_lt n (length old)) _
    (λ t. out-within old new n r (ltb-true n (length old) t))
    (λ f. let past = ltb-false n (length old) f in
    let c = r.count in
    subst (λ (x : List Place). RoomierPlaces x (places_without new n)) (sym (set-past old n (record (place_at old n) { board = None }) (omega (arith, past))))
    (subst (λ (x : List Place). RoomierPlaces old x) (sym (set-past new n (record (place_at new n) { board = None }) (omega (arith, past, c)))) r))

-- The board at a place got no more than room.
at-past : (places : List Place) (n : ℕ) → length places ≤ n → place_at places n ≡ (let d : Place = record { board = None; told = 0 } in d)
at-past [] n h = refl
at-past (p ∷ ps) zero h = absurd (omega arith)
at-past (p ∷ ps) (suc n) h = at-past ps n (omega arith)

at-within : (old new : List Place) (n : ℕ) → RoomierPlaces old new → n < length old → RoomierBoard (place_at old n).board (place_at new n).board
at-within old new n r within =
    let own : n < length new = (let c = r.count in omega (arith, c, within)) in
    let w = r.each n (place_at new n) (place-found new n own) in
    let e : Some w.0 ≡ Some (place_at old n) = sym w.1 ∙ place-found old n within in
    let s : w.0 ≡ place_at old n = cc in
    subst (λ (x : Place). RoomierBoard x.board (place_at new n).board) s w.2.board_same

pub room-at : (old new : List Place) (n : ℕ) → RoomierPlaces old new → RoomierBoard (place_at old n).board (place_at new n).board
room-at old new n r =
    by_test (nat_lt n (length old)) _
    (λ t. at-within old new n r (ltb-true n (length old) t))
    (λ f. let past = ltb-false n (length old) f in
    let c = r.count in
    subst (λ (x : Place). RoomierBoard x.board (place_at new n).board) (sym (at-past old n (omega (arith, past))))
    (subst (λ (x : Place). RoomierBoard None x.board) (sym (at-past new n (omega (arith, past, c)))) tt))

-- ---- a board that is taken out, gets room, and is put back

set-again : {X : Type 0} (xs : List X) (n : ℕ) (v w : X) → slice_set (slice_set xs n v) n w ≡ slice_set xs n w
set-again [] n v w = refl
set-again (x ∷ xs) zero v w = refl
set-again {X = X} (x ∷ xs) (suc n) v w = ap (λ (ys : List X). x ∷ ys) (set-again xs n v w)

place-set : (places : List Place) (n : ℕ) (p : Place) → n < length places → place_at (slice_set places n p) n ≡ p
place-set places n p within = ap (λ (o : Option Place). unwrap_or o (let d : Place = record { board = None; told = 0 } in d)) (set-get places n p within)

put-back : (places out back : List Place) (n : ℕ) (b : BoardState) → n < length places → out ≡ places_without places n → back ≡ places_with out n b → back ≡ slice_set places n (record (place_at places n) { board = Some b })
put-back places out back n b within o e =
    e ∙ ap (λ (ps : List Place). places_with ps n b) o
    ∙ ap (λ (p : Place). slice_set (places_without places n) n (record p { board = Some b })) (place-set places n (record (place_at places n) { board = None }) within)
    ∙ set-again places n (record (place_at places n) { board = None }) (record (place_at places n) { board = Some b })

pub within-without : (places out : List Place) (n : ℕ) → n < length places → out ≡ places_without places n → n < length out
within-without places out n within o =
    let e = ap length o in
    let l = length-set places n (record (place_at places n) { board = None }) in
    omega (arith, within, e, l)

pub reserved-places : (places out back : List Place) (n : ℕ) (b b' : BoardState) → n < length places → (place_at places n).board ≡ Some b → SameBoard b b' → out ≡ places_without places n → back ≡ places_with out n b' → RoomierPlaces places back
reserved-places places out back n b b' within h s o e =
    subst (λ (ps : List Place). RoomierPlaces places ps) (sym (put-back places out back n b' within o e))
    (room-set places n (Some b') within (subst (λ (x : Option BoardState). RoomierBoard x (Some b')) (sym h) s))

pub reserved-room : {X E : Type 0} (places out back : List Place) (n : ℕ) (b : BoardState) (result : Result X E) → n < length places → out ≡ places_without places n → back ≡ places_with out n b → OnOk result (8 ≤ b.room) → OnOk result (IfSome (place_at back n).board (λ x. 8 ≤ x.room))
reserved-room places out back n b (Err x) within o e r = tt
reserved-room places out back n b (Ok x) within o e r =
    let p : place_at back n ≡ record (place_at places n) { board = Some b } = ap (λ (ps : List Place). place_at ps n) (put-back places out back n b within o e) ∙ place-set places n (record (place_at places n) { board = Some b }) within in
    subst (λ (q : Place). IfSome q.board (λ x. 8 ≤ x.room)) (sym p) r

-- still more room
pub board-on : (a b c : Option BoardState) → RoomierBoard a b → RoomierBoard b c → RoomierBoard a c
board-on None None None r s = tt
board-on None None (Some c) r s = absurd s
board-on None (Some b) c r s = absurd r
board-on (Some a) None c r s = absurd r
board-on (Some a) (Some b) None r s = absurd s
board-on (Some a) (Some b) (Some c) r s =
    record { condition = s.condition ∙ r.condition; journal = s.journal ∙ r.journal; plan = s.plan ∙ r.plan; calls = s.calls ∙ r.calls; faults = s.faults ∙ r.faults }

pub room-on : (a b c : List Place) → RoomierPlaces a b → RoomierPlaces b c → RoomierPlaces a c
room-on a b c r s =
    record {
      count = s.count ∙ r.count;
      each = λ n p e.
          let w = s.each n p e in
          let v = r.each n w.0 w.1 in
          (v.0, v.1, record { told_same = w.2.told_same ∙ v.2.told_same; board_same = board-on v.0.board w.0.board p.board v.2.board_same w.2.board_same });
    }

-- ---- what stands on

stands-roomier : (basis : Basis) (first : List Seen) (past : List Event) (number : ℕ) (b b' : BoardState) (tail : List Mark) → SameBoard b b' → BoardStands basis first past number b tail → BoardStands basis first past number b' tail
stands-roomier basis first past number b b' tail s k =
    record {
      fits =
          subst (λ (j : List Mark). once.BoardFits basis first past number (record { journal = j; view = view_of b'.condition }) tail) (sym s.journal)
          (subst (λ (c : Condition). once.BoardFits basis first past number (record { journal = b.journal; view = view_of c }) tail) (sym s.condition) k.fits);
      boots = λ absent. subst (λ (c : Condition). FreshShows basis first past number tail (view_of (booted absent c))) (sym s.condition) (k.boots absent);
      plugs = λ n. subst (λ (c : Condition). FreshShows basis first past number [] (view_of (plugged c))) (sym s.condition) (k.plugs n);
      staged = λ image e. subst (λ (j : List Mark). IsWritten past j (unwrap_or image.raw 0)) (sym s.journal) (k.staged image (sym (ap (λ (c : Condition). c.staged) s.condition) ∙ e));
      faults = subst (λ (n : ℕ). faulty_ends basis past number ≤ n) (sym s.faults) k.faults;
    }

home-roomier : (basis : Basis) (first : List Seen) (past : List Event) (number : ℕ) (o p : Option BoardState) → RoomierBoard o p → BoardIsHome basis first past number o → BoardIsHome basis first past number p
home-roomier basis first past number None None r h = h
home-roomier basis first past number None (Some b) r h = absurd r
home-roomier basis first past number (Some a) None r h = absurd r
home-roomier basis first past number (Some a) (Some b) r h = (h.0, (h.1.0, stands-roomier basis first past number a b h.1.0 r h.1.1))

place-roomier : (basis : Basis) (first : List Seen) (past : List Event) (number : ℕ) (p q : Place) → RoomierPlace p q → PlaceStands basis first past number p → PlaceStands basis first past number q
place-roomier basis first past number p q r s = record { told = r.told_same ∙ s.told; home = home-roomier basis first past number p.board q.board r.board_same s.home }

pub places-roomier : (basis : Basis) (first : List Seen) (past : List Event) (old new : List Place) → RoomierPlaces old new → ((n : ℕ) (p : Place) → slice_get old n ≡ Some p → PlaceStands basis first past n p) → (n : ℕ) (p : Place) → slice_get new n ≡ Some p → PlaceStands basis first past n p
places-roomier basis first past old new r s n p e = let w = r.each n p e in place-roomier basis first past n w.0 p w.2 (s n w.0 w.1)

-- It is the same house.
pub house-with_room : {K : Type 0} (signs : KeeperSigns K) (h : Housed K) (places : List Place) → IsHouse signs h → RoomierPlaces h.places places → IsHouse signs (record h { places = places })
house-with_room signs h places w r =
    record {
      count = r.count ∙ w.count;
      places = places-roomier _ _ _ h.places places r w.places;
      unloaded = w.unloaded;
      kept = w.kept;
      capacity = w.capacity;
      free = w.free;
    }

-- Where it stood, there is a board.
pub home-board : (basis : Basis) (first : List Seen) (past : List Event) (number : ℕ) (o : Option BoardState) → is_out basis past number ≡ false → BoardIsHome basis first past number o → (b : BoardState) × (o ≡ Some b) × ((tail : List Mark) × BoardStands basis first past number b tail)
home-board basis first past number None out h = let bad : true ≡ false = sym h ∙ out in cc
home-board basis first past number (Some b) out h = (b, refl, h.1)
