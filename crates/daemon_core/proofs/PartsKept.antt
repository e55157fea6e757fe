-- The boards of a house whose boards are all at home.
use Rattle.std.proofs.Common.{◌≡◌, ℕ, zero, suc, true, false, List, [], ◌∷◌, length, refl, ap, sym, ◌∙◌, subst}
use Rattle.std.specs.Prelude.{Option, Some, None, IsSome, slice_get, option_and_then}
use Rattle.std.specs.List.{list_any}
use Rattle.emulated_boards.specs.Boards.{BoardState}
use Rattle.fw_facts.specs.declared.seen.Seen.{Seen}
use Rattle.history_keeper.specs.Signs.{KeeperSigns}
use Rattle.update_log.specs.Holding.{live}
use Rattle.update_log.specs.Known.{Basis, is_board_of, rows}
use Rattle.update_log.specs.declared.event.Event.{Event}
use Rattle.update_log.specs.declared.live.LiveEntry.{LiveEntry}
use Rattle.daemon_core.specs.Boards.{BoardIsHome, is_out}
use Rattle.daemon_core.specs.House.{IsHouse}
use Rattle.daemon_core.specs.Housed.{basis_in, Housed, Place, past}
use Rattle.daemon_core.specs.Parts.{AllHome, BoardsOf, IsBoardOf, boards_in, boards_with}

-- There are as many boards as places, in the same order.
length-with : (o : Option BoardState) (bs : List BoardState) (n : ℕ) → IsSome o → length bs ≡ n → length (boards_with o bs) ≡ suc n
length-with None bs n k e = cc
length-with (Some b) bs n k e = ap suc e

pub boards-length : (places : List Place) → AllHome places → length (boards_in places) ≡ length places
boards-length [] h = refl
boards-length (p ∷ ps) h = length-with p.board (boards_in ps) (length ps) h.0 (boards-length ps h.1)

get-zero : (o : Option BoardState) (bs : List BoardState) → IsSome o → slice_get (boards_with o bs) zero ≡ o
get-zero None bs k = cc
get-zero (Some b) bs k = refl

get-suc : (o : Option BoardState) (bs : List BoardState) (n : ℕ) → IsSome o → slice_get (boards_with o bs) (suc n) ≡ slice_get bs n
get-suc None bs n k = cc
get-suc (Some b) bs n k = refl

pub boards-get : (places : List Place) (n : ℕ) → AllHome places → slice_get (boards_in places) n ≡ option_and_then (λ (p : Place). p.board) (slice_get places n)
boards-get [] n h = refl
boards-get (p ∷ ps) zero h = get-zero p.board (boards_in ps) h.0
boards-get (p ∷ ps) (suc n) h = get-suc p.board (boards_in ps) n h.0 ∙ boards-get ps n h.1

-- Where no entry is live, each board is at home.
none-out : (basis : Basis) (past : List Event) (number : ℕ) → live past ≡ [] → is_out basis past number ≡ false
none-out basis past number e = ap (λ (ls : List LiveEntry). list_any (λ l. is_board_of basis.facts (rows basis past) l.entry number) ls) e

home-there : (basis : Basis) (first : List Seen) (past : List Event) (number : ℕ) (o : Option BoardState) → live past ≡ [] → BoardIsHome basis first past number o → IsSome o
home-there basis first past number None e h = let bad : true ≡ false = sym h ∙ none-out basis past number e in cc
home-there basis first past number (Some b) e h = refl

all-home : (places : List Place) → ((n : ℕ) (p : Place) → slice_get places n ≡ Some p → IsSome p.board) → AllHome places
all-home [] h = tt
all-home (p ∷ ps) h = (h 0 p refl, all-home ps (λ n q e. h (suc n) q e))

pub house-home : {K : Type 0} (signs : KeeperSigns K) (h : Housed K) → IsHouse signs h → live (past h) ≡ [] → AllHome h.places
house-home signs h w e =
    all-home h.places (λ n p g. home-there (basis_in h.house_log) h.house_log.first (past h) n p.board e (w.places n p g).home)

pub house-boards : {K : Type 0} (signs : KeeperSigns K) (h : Housed K) → IsHouse signs h → live (past h) ≡ [] → BoardsOf h (boards_in h.places)
house-boards signs h w e =
    let all = house-home signs h w e in
    record {
      count = boards-length h.places all ∙ w.count;
      each = λ n b g. at n b (slice_get h.places n) refl (sym (boards-get h.places n all) ∙ g);
    }
  where
    own : (n : ℕ) (b : BoardState) (p : Place) → slice_get h.places n ≡ Some p → (o : Option BoardState) → p.board ≡ o → o ≡ Some b → IsBoardOf h n b
    own n b p f None q g = cc
    own n b p f (Some x) q g =
        let s : x ≡ b = cc in
        let home : BoardIsHome (basis_in h.house_log) h.house_log.first (past h) n (Some x) = subst (BoardIsHome (basis_in h.house_log) h.house_log.first (past h) n) q (w.places n p f).home in
        subst (λ (y : BoardState). IsBoardOf h n y) s (record { place = p; place_is = f; board_is = q; tail = home.1.0; stands = home.1.1 })

    at : (n : ℕ) (b : BoardState) (o : Option Place) → slice_get h.places n ≡ o → option_and_then (λ (p : Place). p.board) o ≡ Some b → IsBoardOf h n b
    at n b None f g = cc
    at n b (Some p) f g = own n b p f p.board refl g
