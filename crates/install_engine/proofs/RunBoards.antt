-- How a board that is out stands to the log, against how one at home does.
use Rattle.std.proofs.Common.{◌≡◌, ℕ, ◌≤◌, Bool, true, false, ◌||◌, List, [], ◌++◌, refl, ap, sym, ◌∙◌, subst, inl, inr}
use Rattle.std.proofs.lemmas.List.{append-nil}
use Rattle.std.proofs.lemmas.List.Elements.{Contains-append_left}
use Rattle.std.specs.Prelude.{Option, Some, None, Contains, IsTrue, if◌then◌else◌, is_some, unwrap_or}
use Rattle.std.specs.List.{list_any}
use Rattle.fw_facts.specs.declared.seen.Mode.{Mode}
use Rattle.fw_facts.specs.declared.seen.Seen.{Seen}
use Rattle.emulated_boards.specs.Boards.{BoardState}
use Rattle.emulated_boards.specs.Conditions.{booted, booted_image, start_mode, view_of}
use Rattle.emulated_boards.specs.declared.condition.Condition.{Condition}
use Rattle.emulated_boards.specs.declared.image.Image.{Image}
use Rattle.emulated_boards.specs.declared.mark.Mark.{Mark}
use Rattle.update_log.proofs.WorkedLogs.{same-raw, same-mode, fresh-gone}
use Rattle.update_log.specs.declared.event.Event.{Event}
use Rattle.update_log.specs.Known.{Basis, seen}
use Rattle.update_log.specs.Legal.{open_marks, open_on}
use Rattle.update_log.specs.Shows.{FreshShows, HasRaw, IsPrefix, RawAllowed, began_since, home_before, is_began, raw_of, told}
use Rattle.daemon_core.specs.Boards.{BoardStands, faulty_ends}
use Rattle.install_engine.specs.Runs.{StandsOut, number_of_image}

-- ---- two pasts

-- Two pasts say the same of a board that is out.
pub record SameOut (basis : Basis) (first : List Seen) (past other : List Event) (number : ℕ) : Type 0 where
  pub told_same : told basis other number ≡ told basis past number
  pub before : home_before basis first other number ≡ home_before basis first past number
  pub began : began_since basis first other number ≡ began_since basis first past number
  pub raws : (entry raw : ℕ) → raw_of entry past ≡ Some raw → raw_of entry other ≡ Some raw
  pub faults : faulty_ends basis other number ≡ faulty_ends basis past number

raw-same : (basis : Basis) (first : List Seen) (past other : List Event) (number : ℕ) (ms : List Mark) (raw : ℕ) → SameOut basis first past other number
    → RawAllowed basis first past number ms raw → RawAllowed basis first other number ms raw
raw-same basis first past other number ms raw s (inl h) = inl (subst (λ (x : Seen). HasRaw x raw) (sym s.before) h)
raw-same basis first past other number ms raw s (inr (inl h)) =
    inr (inl (h.0, subst (λ (x : Bool). IsTrue (list_any is_began ms || x)) (sym s.began) h.1))
raw-same basis first past other number ms raw s (inr (inr w)) =
    inr (inr (w.0, w.1, subst (λ (x : List Mark). Contains (x ++ ms) (Mark.Ended w.0 w.1)) (sym s.told_same) w.2, s.raws w.0 raw w.3))

pub out-same : (basis : Basis) (first : List Seen) (past other : List Event) (number : ℕ) (b : BoardState) (tail : List Mark) → SameOut basis first past other number
    → StandsOut basis first past number b tail → StandsOut basis first other number b tail
out-same basis first past other number b tail s k =
    record {
      journal = k.journal ∙ ap (λ (x : List Mark). x ++ tail) (sym s.told_same);
      unwritten = k.unwritten;
      image = raw-same basis first past other number tail (number_of_image b.condition.image) s k.image;
      staged = λ image e. let w = k.staged image e in (w.0, w.1, w.2, s.raws w.0 (number_of_image image) w.3);
      faults = subst (λ (n : ℕ). n ≤ b.faults) (sym s.faults) k.faults;
    }

-- ---- as it would start

-- An image that is no good has the raw version 0.
start-bad : (raw : Option ℕ) → (if is_some raw then Mode.Runtime else Mode.Bootloader) ≡ Mode.Bootloader → unwrap_or raw 0 ≡ 0
start-bad None e = refl
start-bad (Some n) e = let bad : Mode.Runtime ≡ Mode.Bootloader = e in cc

-- A board that starts an image whose raw version is allowed.
fresh-image : (basis : Basis) (first : List Seen) (past : List Event) (number : ℕ) (ms : List Mark) (image : Image) → RawAllowed basis first past number ms (number_of_image image)
    → FreshShows basis first past number ms (Seen.Home (number_of_image image) (start_mode image))
fresh-image basis first past number ms image h =
    record {
      raw = λ raw mode e. subst (λ (n : ℕ). RawAllowed basis first past number ms n) (same-raw (number_of_image image) raw (start_mode image) mode e) h;
      mode = λ raw e. sym (same-raw (number_of_image image) raw (start_mode image) Mode.Bootloader e) ∙ start-bad image.raw (same-mode (number_of_image image) raw (start_mode image) Mode.Bootloader e);
    }

booted-raw : (basis : Basis) (first : List Seen) (past : List Event) (number : ℕ) (ms : List Mark) (c : Condition) (o : Option Image) → c.staged ≡ o → RawAllowed basis first past number ms (number_of_image c.image)
    → ((image : Image) → c.staged ≡ Some image → RawAllowed basis first past number ms (number_of_image image))
    → RawAllowed basis first past number ms (number_of_image (booted_image c))
booted-raw basis first past number ms c None e h s =
    let i : booted_image c ≡ c.image = ap (λ (x : Option Image). unwrap_or x c.image) e in
    subst (λ (x : Image). RawAllowed basis first past number ms (number_of_image x)) (sym i) h
booted-raw basis first past number ms c (Some image) e h s =
    let i : booted_image c ≡ image = ap (λ (x : Option Image). unwrap_or x c.image) e in
    subst (λ (x : Image). RawAllowed basis first past number ms (number_of_image x)) (sym i) (s image e)

fresh-booted : (basis : Basis) (first : List Seen) (past : List Event) (number : ℕ) (ms : List Mark) (c : Condition) (absent : Bool) → RawAllowed basis first past number ms (number_of_image (booted_image c))
    → FreshShows basis first past number ms (view_of (booted absent c))
fresh-booted basis first past number ms c true h = fresh-gone basis first past number ms
fresh-booted basis first past number ms c false h = fresh-image basis first past number ms (booted_image c) h

-- ---- home and out

-- A board that is out would stand so at home: its tail begins the marks of the step that is open on it; and
-- where none is, it has no tail and shows what was seen last.
pub home-of_out : (basis : Basis) (first : List Seen) (past : List Event) (number : ℕ) (b : BoardState) (tail : List Mark) → StandsOut basis first past number b tail
    → IsPrefix tail (open_marks basis past number) → (open_on basis past number ≡ None → (tail ≡ []) × (view_of b.condition ≡ seen basis past number))
    → BoardStands basis first past number b tail
home-of_out basis first past number b tail k p closed =
    record {
      fits = record {
        journal = record { told_and_tail = k.journal; tail_is = p };
        view = λ e _. let c = closed e in c.1;
        unwritten = k.unwritten;
      };
      boots = λ absent. fresh-booted basis first past number tail b.condition absent
          (booted-raw basis first past number tail b.condition b.condition.staged refl k.image
          (λ image e. let w = k.staged image e in inr (inr (w.0, w.1, subst (λ (ms : List Mark). Contains ms (Mark.Ended w.0 w.1)) k.journal w.2, w.3))));
      plugs = λ e. let c = closed e in
          fresh-image basis first past number [] b.condition.image
          (subst (λ (ms : List Mark). RawAllowed basis first past number ms (number_of_image b.condition.image)) c.0 k.image);
      staged = k.staged;
      faults = k.faults;
    }

-- A board at home, on which no step is open, stands so when it goes out.
pub out-of_home : (basis : Basis) (first : List Seen) (past : List Event) (number : ℕ) (b : BoardState) → BoardStands basis first past number b [] → open_on basis past number ≡ None
    → StandsOut basis first past number b []
out-of_home basis first past number b k closed =
    record {
      journal = k.fits.journal.told_and_tail;
      unwritten = k.fits.unwritten;
      image = (k.plugs closed).raw (number_of_image b.condition.image) (start_mode b.condition.image) refl;
      staged = k.staged;
      faults = k.faults;
    }

-- More marks may be told with it.
pub raw-wider : (basis : Basis) (first : List Seen) (past : List Event) (number : ℕ) (ms : List Mark) (raw : ℕ) → RawAllowed basis first past number [] raw → RawAllowed basis first past number ms raw
raw-wider basis first past number ms raw (inl h) = inl h
raw-wider basis first past number ms raw (inr (inl h)) = inr (inl (h.0, either (list_any is_began ms) h.1))
  where
    either : (a : Bool) → began_since basis first past number ≡ true → (a || began_since basis first past number) ≡ true
    either true e = refl
    either false e = e
raw-wider basis first past number ms raw (inr (inr w)) =
    inr (inr (w.0, w.1, Contains-append_left (told basis past number) ms (Mark.Ended w.0 w.1) (subst (λ (x : List Mark). Contains x (Mark.Ended w.0 w.1)) (append-nil (told basis past number)) w.2), w.3))
