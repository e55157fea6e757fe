-- A board stands to a past as it stood to another one that says the same of it.
use Rattle.std.proofs.Common.{◌≡◌, ℕ, ◌<◌, ◌≤◌, Bool, List, ◌++◌, length, ap, sym, ◌∙◌, subst, inl, inr}
use Rattle.std.specs.Prelude.{Option, Some, None, IsTrue, ◌||◌, Contains, unwrap_or}
use Rattle.std.specs.List.{list_any}
use Rattle.emulated_boards.specs.Boards.{BoardState}
use Rattle.emulated_boards.specs.declared.mark.Mark.{Mark}
use Rattle.fw_facts.specs.declared.seen.Seen.{Seen}
use Rattle.update_log.specs.declared.event.Event.{Event}
use Rattle.update_log.specs.Known.{Basis, seen}
use Rattle.update_log.specs.Legal.{open_marks, open_on}
use Rattle.update_log.specs.Pasts.{boots}
use Rattle.update_log.specs.Shows.{FreshShows, HasRaw, IsPrefix, RawAllowed, began_since, home_before, is_began, raw_of, told}
use Rattle.daemon_core.specs.Boards.{BoardIsHome, BoardStands, PlaceStands, faulty_ends, is_out}
use Rattle.daemon_core.specs.Housed.{Place}

-- Two pasts say the same of a board.
pub record SameOfBoard (basis : Basis) (first : List Seen) (past other : List Event) (number : ℕ) : Type 0 where
  pub told : told basis other number ≡ told basis past number
  pub out : is_out basis other number ≡ is_out basis past number
  pub opened : open_on basis other number ≡ open_on basis past number
  pub marks : open_marks basis other number ≡ open_marks basis past number
  pub booted : 0 < boots other → 0 < boots past
  pub seen : seen basis other number ≡ seen basis past number
  pub before : home_before basis first other number ≡ home_before basis first past number
  pub began : began_since basis first other number ≡ began_since basis first past number
  pub raws : (entry raw : ℕ) → raw_of entry past ≡ Some raw → raw_of entry other ≡ Some raw
  pub faults : faulty_ends basis other number ≡ faulty_ends basis past number

pub raw-same : (basis : Basis) (first : List Seen) (past other : List Event) (number : ℕ) (marks : List Mark) (raw : ℕ) → SameOfBoard basis first past other number
    → RawAllowed basis first past number marks raw → RawAllowed basis first other number marks raw
raw-same basis first past other number marks raw s (inl h) = inl (subst (λ (x : Seen). HasRaw x raw) (sym s.before) h)
raw-same basis first past other number marks raw s (inr (inl h)) =
    inr (inl (h.0, subst (λ (x : Bool). IsTrue (list_any is_began marks || x)) (sym s.began) h.1))
raw-same basis first past other number marks raw s (inr (inr w)) =
    inr (inr (w.0, w.1, subst (λ (x : List Mark). Contains (x ++ marks) (Mark.Ended w.0 w.1)) (sym s.told) w.2, s.raws w.0 raw w.3))

pub fresh-same : (basis : Basis) (first : List Seen) (past other : List Event) (number : ℕ) (marks : List Mark) (shown : Seen) → SameOfBoard basis first past other number
    → FreshShows basis first past number marks shown → FreshShows basis first other number marks shown
fresh-same basis first past other number marks shown s f =
    record { raw = λ raw mode e. raw-same basis first past other number marks raw s (f.raw raw mode e); mode = f.mode }

pub board-same : (basis : Basis) (first : List Seen) (past other : List Event) (number : ℕ) (b : BoardState) (tail : List Mark) → SameOfBoard basis first past other number
    → BoardStands basis first past number b tail → BoardStands basis first other number b tail
board-same basis first past other number b tail s k =
    record {
      fits = record {
        journal = record {
          told_and_tail = k.fits.journal.told_and_tail ∙ ap (λ (x : List Mark). x ++ tail) (sym s.told);
          tail_is = subst (λ (x : List Mark). IsPrefix tail x) (sym s.marks) k.fits.journal.tail_is;
        };
        view = λ n z. k.fits.view (sym s.opened ∙ n) (s.booted z) ∙ sym s.seen;
        unwritten = k.fits.unwritten;
      };
      boots = λ absent. fresh-same basis first past other number tail _ s (k.boots absent);
      plugs = λ n. fresh-same basis first past other number _ _ s (k.plugs (sym s.opened ∙ n));
      staged = λ image e. let w = k.staged image e in (w.0, w.1, w.2, s.raws w.0 (unwrap_or image.raw 0) w.3);
      faults = subst (λ (n : ℕ). n ≤ b.faults) (sym s.faults) k.faults;
    }

home-same : (basis : Basis) (first : List Seen) (past other : List Event) (number : ℕ) (o : Option BoardState) → SameOfBoard basis first past other number
    → BoardIsHome basis first past number o → BoardIsHome basis first other number o
home-same basis first past other number None s h = subst (λ (x : Bool). IsTrue x) (sym s.out) h
home-same basis first past other number (Some b) s h = (s.out ∙ h.0, (h.1.0, board-same basis first past other number b h.1.0 s h.1.1))

pub place-same : (basis : Basis) (first : List Seen) (past other : List Event) (number : ℕ) (place : Place) → SameOfBoard basis first past other number
    → PlaceStands basis first past number place → PlaceStands basis first other number place
place-same basis first past other number place s p =
    record { told = p.told ∙ ap length (sym s.told); home = home-same basis first past other number place.board s p.home }
