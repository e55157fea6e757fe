-- A board behind a boot.
use Rattle.std.proofs.Common.{◌≡◌, ℕ, Bool, true, false, ◌||◌, ◌≤◌, List, [], ◌∷◌, ◌++◌, refl, ap, sym, ◌∙◌, inl, inr, append-nil, drop, length, subst}
use Rattle.std.proofs.Math.Seq.{drop-append_seam}
use Rattle.std.proofs.lemmas.List.Folds.{list_any-append}
use Rattle.std.proofs.lemmas.Bool.{or_parts}
use Rattle.std.specs.Prelude.{Option, Some, None, Contains, IsTrue, if◌then◌else◌, slice_get, unwrap_or, option_map}
use Rattle.std.specs.List.{list_any}
use Rattle.emulated_boards.specs.Boards.{BoardState}
use Rattle.emulated_boards.specs.Conditions.{booted, plugged, view_of}
use Rattle.emulated_boards.specs.declared.condition.Condition.{Condition}
use Rattle.emulated_boards.specs.declared.mark.Mark.{Mark}
use Rattle.fw_facts.specs.Views.{is_home}
use Rattle.fw_facts.specs.declared.seen.Mode.{Mode}
use Rattle.fw_facts.specs.declared.seen.Seen.{Seen}
use Rattle.update_log.specs.declared.event.BoardSeen.{BoardSeen}
use Rattle.update_log.specs.declared.event.Event.{Event}
use Rattle.update_log.specs.declared.event.Found.{Found}
use Rattle.update_log.specs.declared.facts.BootPlan.{BootPlan}
use Rattle.update_log.specs.Known.{Basis, seen}
use Rattle.update_log.specs.Legal.{BoardListed, is_absent, is_gone, open_marks}
use Rattle.update_log.specs.Once.{ShowsFirst}
use Rattle.update_log.specs.Shows.{campaign_on, FreshShows, HasRaw, IsPrefix, RawAllowed, began_since, first_of_board, home_before, home_or, is_began, tells_home, told}
use Rattle.daemon_core.proofs.BoardsUnwritten.{Unwritten, BeginsToo, allowed-first, append-begins, open-begins, told-begins, unwritten}
use Rattle.daemon_core.specs.HouseLog.{IsLegalSo}
use Rattle.daemon_core.specs.Boards.{BoardIsHome, BoardStands, PlaceStands, faulty_ends}
use Rattle.daemon_core.specs.Booting.{WasStarted}
use Rattle.daemon_core.specs.Housed.{Place}

pub unwritten-so : (basis : Basis) (first : List Seen) (past : List Event) (n : ℕ) → IsLegalSo basis first past → list_any is_began (told basis past n) ≡ false → Unwritten basis first past n
unwritten-so basis first past n (plans, legal) none = unwritten (campaign_on basis first plans) past n legal none

pub told-begins-so : (basis : Basis) (first : List Seen) (past : List Event) (n : ℕ) → IsLegalSo basis first past → BeginsToo (told basis past n)
told-begins-so basis first past n (plans, legal) = told-begins (campaign_on basis first plans) past n legal

-- a board that is started is gone or home, as planned
pub present : (absent : Bool) (c : Condition) → IsTrue (if absent then is_gone (view_of (booted absent c)) else is_home (view_of (booted absent c)))
present true c = refl
present false c = refl

module _ (basis : Basis) (first : List Seen) (past : List Event) (n : ℕ) (legal : IsLegalSo basis first past)
    (absent : Bool) (p q : Place) (b after : BoardState) (tail : List Mark) (s : BoardSeen)
    (h : BoardStands basis first past n b tail) (told_is : p.told ≡ length (told basis past n)) (w : WasStarted absent n p q b after s) where
  tail-untold : s.untold ≡ tail
  tail-untold =
      w.untold ∙ ap (λ (x : ℕ). drop x b.journal) told_is
      ∙ ap (λ (x : List Mark). drop (length (told basis past n)) x) h.fits.journal.told_and_tail
      ∙ drop-append_seam (told basis past n) tail

  seen-is : s.seen ≡ view_of (booted absent b.condition)
  seen-is = w.shows ∙ ap view_of w.condition

  pub listed-so : (plan : BootPlan) → is_absent plan n ≡ absent → BoardListed basis first past plan n s
  listed-so plan e =
      record {
        number = w.number_is;
        presence = rw (e, seen-is) (present absent b.condition);
        untold = subst (λ (x : List Mark). IsPrefix x (open_marks basis past n)) (sym tail-untold) h.fits.journal.tail_is;
        shown = subst (λ (x : List Mark). FreshShows basis first past n x s.seen) (sym tail-untold)
            (subst (λ (x : Seen). FreshShows basis first past n tail x) (sym seen-is) (h.boots absent));
      }

  unwritten-after : list_any is_began after.journal ≡ false → ShowsFirst (view_of after.condition) (first_of_board first n)
  unwritten-after none = subst (λ (x : Seen). ShowsFirst x (first_of_board first n)) (ap view_of (sym w.condition)) (at (view_of (booted absent b.condition)) refl)
    where
      none_here : list_any is_began (told basis past n ++ tail) ≡ false
      none_here = ap (list_any is_began) (sym h.fits.journal.told_and_tail ∙ sym w.same.journal) ∙ none

      none_before : list_any is_began (told basis past n) ≡ false
      none_before = (or_parts (list_any is_began (told basis past n)) (list_any is_began tail) (sym (list_any-append is_began (told basis past n) tail) ∙ none_here)).0

      at : (x : Seen) → view_of (booted absent b.condition) ≡ x → ShowsFirst x (first_of_board first n)
      at (Seen.Home raw mode) e =
          let f = h.boots absent in
          allowed-first basis first past n tail raw (f.raw raw mode e)
          (append-begins (told basis past n) tail (told-begins-so basis first past n legal) (open-begins basis past n tail h.fits.journal.tail_is))
          none_here (unwritten-so basis first past n legal none_before).home
      at Seen.Gone e = tt
      at Seen.Stranger e = tt

  module _ (number time : ℕ) (limit : Option ℕ) (found : Found) (boards : List BoardSeen) (at_is : slice_get boards n ≡ Some s) where
    told-new : told basis (Event.Boot number time limit found boards ∷ past) n ≡ b.journal
    told-new =
        ap (λ (o : Option BoardSeen). told basis past n ++ unwrap_or (option_map (λ x. x.untold) o) []) at_is
        ∙ ap (λ (m : List Mark). told basis past n ++ m) tail-untold ∙ sym h.fits.journal.told_and_tail

    seen-new : seen basis (Event.Boot number time limit found boards ∷ past) n ≡ s.seen
    seen-new = ap (λ (o : Option BoardSeen). unwrap_or (option_map (λ x. x.seen) o) (seen basis past n)) at_is

    home-new : home_before basis first (Event.Boot number time limit found boards ∷ past) n ≡ home_or (Some s.seen) (home_before basis first past n)
    home-new = ap (λ (o : Option BoardSeen). home_or (option_map (λ x. x.seen) o) (home_before basis first past n)) at_is

    since-new : began_since basis first (Event.Boot number time limit found boards ∷ past) n
        ≡ (if tells_home (Some s.seen) then false else list_any is_began tail || began_since basis first past n)
    since-new =
        ap (λ (o : Option BoardSeen). if tells_home (option_map (λ x. x.seen) o) then false else list_any is_began (unwrap_or (option_map (λ x. x.untold) o) []) || began_since basis first past n) at_is
        ∙ ap (λ (m : List Mark). if tells_home (Some s.seen) then false else list_any is_began m || began_since basis first past n) tail-untold

    -- the raw version that it shows may be shown again
    raw-again : (a : Bool) → s.seen ≡ view_of (booted a b.condition) → (raw : ℕ) (mode : Mode) → view_of (booted false b.condition) ≡ Seen.Home raw mode
        → RawAllowed basis first (Event.Boot number time limit found boards ∷ past) n [] raw
    raw-again false e raw mode v =
        let home : home_before basis first (Event.Boot number time limit found boards ∷ past) n ≡ Seen.Home raw mode =
        home-new ∙ ap (λ (x : Seen). home_or (Some x) (home_before basis first past n)) (e ∙ v) in
        inl (subst (λ (x : Seen). HasRaw x raw) (sym home) refl)
    raw-again true e raw mode v = let f = h.boots false in at (f.raw raw mode v)
      where
        home : home_before basis first (Event.Boot number time limit found boards ∷ past) n ≡ home_before basis first past n
        home = home-new ∙ ap (λ (x : Seen). home_or (Some x) (home_before basis first past n)) e

        since : began_since basis first (Event.Boot number time limit found boards ∷ past) n ≡ (list_any is_began tail || began_since basis first past n)
        since = since-new ∙ ap (λ (x : Seen). if tells_home (Some x) then false else list_any is_began tail || began_since basis first past n) e

        at : RawAllowed basis first past n tail raw → RawAllowed basis first (Event.Boot number time limit found boards ∷ past) n [] raw
        at (inl k) = inl (subst (λ (x : Seen). HasRaw x raw) (sym home) k)
        at (inr (inl k)) = inr (inl (k.0, since ∙ k.1))
        at (inr (inr k)) =
            inr (inr (k.0, k.1, subst (λ (x : List Mark). Contains x (Mark.Ended k.0 k.1)) (sym (append-nil _ ∙ told-new ∙ h.fits.journal.told_and_tail)) k.2, k.3))

    fresh-again : (x : Seen) → x ≡ view_of (booted false b.condition) → FreshShows basis first (Event.Boot number time limit found boards ∷ past) n [] x
    fresh-again x e = let f = h.boots false in
        record { raw = λ raw mode v. raw-again absent seen-is raw mode (sym e ∙ v); mode = λ raw v. f.mode raw (sym e ∙ v) }

    fresh-gone : FreshShows basis first (Event.Boot number time limit found boards ∷ past) n [] Seen.Gone
    fresh-gone = record { raw = λ raw mode v. cc; mode = λ raw v. cc }

    boots-again : (a : Bool) → FreshShows basis first (Event.Boot number time limit found boards ∷ past) n [] (view_of (booted a (booted absent b.condition)))
    boots-again true = fresh-gone
    boots-again false = fresh-again _ refl

    started-stands : BoardStands basis first (Event.Boot number time limit found boards ∷ past) n after []
    started-stands =
        record {
          fits = record {
            journal = record { told_and_tail = w.same.journal ∙ sym (append-nil _ ∙ told-new); tail_is = tt };
            view = λ _ _. sym (seen-new ∙ w.shows);
            unwritten = unwritten-after;
          };
          boots = λ a. subst (λ (c : Condition). FreshShows basis first (Event.Boot number time limit found boards ∷ past) n [] (view_of (booted a c))) (sym w.condition) (boots-again a);
          plugs = λ _. subst (λ (c : Condition). FreshShows basis first (Event.Boot number time limit found boards ∷ past) n [] (view_of (plugged c))) (sym w.condition) (fresh-again _ refl);
          staged = λ image e. let bad : None ≡ Some image = sym (ap (λ (c : Condition). c.staged) w.condition) ∙ e in cc;
          faults = subst (λ (k : ℕ). faulty_ends basis past n ≤ k) (sym w.same.faults) h.faults;
        }

    pub place-started : PlaceStands basis first (Event.Boot number time limit found boards ∷ past) n q
    place-started =
        record {
          told = w.told ∙ ap length (sym told-new);
          home = subst (λ (o : Option BoardState). BoardIsHome basis first (Event.Boot number time limit found boards ∷ past) n o) (sym w.is) (refl, ([], started-stands));
        }
