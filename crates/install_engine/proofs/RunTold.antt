-- A board that is out, once the end of its step was told.
use Rattle.std.proofs.Common.{◌≡◌, ℕ, ◌<◌, ◌≤◌, Bool, true, false, ◌||◌, List, [], ◌∷◌, ◌++◌, refl, ap, sym, ◌∙◌, subst, arith, ◌⊎◌, inl, inr}
use Rattle.std.proofs.lemmas.List.{append-nil}
use Rattle.std.specs.Prelude.{Option, Some, Contains, OnErr, OnOk, Result, Ok, Err, ⊤, if◌then◌else◌, unwrap_or}
use Rattle.std.specs.List.{list_any}
use Rattle.fw_facts.specs.Views.{is_home}
use Rattle.fw_facts.specs.declared.seen.Seen.{Seen}
use Rattle.emulated_boards.specs.Boards.{BoardState}
use Rattle.emulated_boards.specs.Conditions.{view_of}
use Rattle.emulated_boards.specs.declared.condition.Presence.TheVariants as present
use Rattle.emulated_boards.specs.declared.fault.BoardFault.{BoardFault}
use Rattle.emulated_boards.specs.declared.mark.Mark.{Mark}
use Rattle.plugin_trait.specs.Steps.{IsAway}
use Rattle.update_log.specs.declared.event.Event.{Event}
use Rattle.update_log.specs.declared.event.Op.{Op}
use Rattle.update_log.specs.Holding.{live}
use Rattle.update_log.specs.Known.{Basis, board_of, for_board, is_board_of, known, rows, seen, tells}
use Rattle.update_log.specs.Shows.{HasRaw, RawAllowed, began_since, home_before, home_or, is_began, tells_home, told, told_by}
use Rattle.daemon_core.proofs.ClaimEnds.{own-board}
use Rattle.daemon_core.proofs.Moves.{for-own}
use Rattle.daemon_core.specs.Boards.{faulty_ends}
use Rattle.install_engine.specs.Runs.{StandsOut, number_of_image}
use Rattle.install_engine.proofs.RunShows.{home-or_away, view-away, view-home}

home-of : (shown older : Seen) (raw : ℕ) → HasRaw shown raw → HasRaw (home_or (Some shown) older) raw
home-of (Seen.Home r mode) older raw h = h
home-of Seen.Gone older raw h = absurd h
home-of Seen.Stranger older raw h = absurd h

older-of : (shown older : Seen) → is_home shown ≡ false → home_or (Some shown) older ≡ older
older-of (Seen.Home r mode) older h = cc
older-of Seen.Gone older h = refl
older-of Seen.Stranger older h = refl

module _ (basis : Basis) (first : List Seen) (past : List Event) (client entry : ℕ) (op : Op) (outcome : Result ⊤ BoardFault) (ms : List Mark) (shown : Seen) (number : ℕ) (own : board_of basis.facts (rows basis past) entry ≡ Some number) where
  is-own : is_board_of basis.facts (rows basis past) entry number ≡ true
  is-own = own-board basis.facts (rows basis past) entry number own

  told-by : told_by basis.facts (rows basis past) (Event.End client entry op outcome ms shown) number ≡ ms
  told-by = rw is-own refl

  pub told-ended : told basis (Event.End client entry op outcome ms shown ∷ past) number ≡ told basis past number ++ ms
  told-ended = ap (λ (x : List Mark). told basis past number ++ x) told-by

  tells-ended : tells basis.facts (live past) (known basis past) (Event.End client entry op outcome ms shown) number ≡ Some shown
  tells-ended = ap (λ (o : Option ℕ). for_board o number shown) own ∙ for-own number shown

  pub seen-ended : seen basis (Event.End client entry op outcome ms shown ∷ past) number ≡ shown
  seen-ended = ap (λ (o : Option Seen). unwrap_or o (seen basis past number)) tells-ended

  before-ended : home_before basis first (Event.End client entry op outcome ms shown ∷ past) number ≡ home_or (Some shown) (home_before basis first past number)
  before-ended = ap (λ (o : Option Seen). home_or o (home_before basis first past number)) tells-ended

  began-ended : is_home shown ≡ false → began_since basis first (Event.End client entry op outcome ms shown ∷ past) number ≡ (list_any is_began ms || began_since basis first past number)
  began-ended h =
      ap (λ (o : Option Seen). if tells_home o then false else (list_any is_began (told_by basis.facts (rows basis past) (Event.End client entry op outcome ms shown) number) || began_since basis first past number)) tells-ended
      ∙ ap (λ (b : Bool). if b then false else (list_any is_began (told_by basis.facts (rows basis past) (Event.End client entry op outcome ms shown) number) || began_since basis first past number)) h
      ∙ ap (λ (x : List Mark). list_any is_began x || began_since basis first past number) told-by

  -- What was allowed with the marks that the event tells is so behind it.
  raw-ended : (raw : ℕ) → is_home shown ≡ false → RawAllowed basis first past number ms raw → RawAllowed basis first (Event.End client entry op outcome ms shown ∷ past) number [] raw
  raw-ended raw away (inl h) =
      inl (subst (λ (x : Seen). HasRaw x raw) (sym (before-ended ∙ older-of shown (home_before basis first past number) away)) h)
  raw-ended raw away (inr (inl h)) = inr (inl (h.0, began-ended away ∙ h.1))
  raw-ended raw away (inr (inr w)) =
      inr (inr (w.0, w.1, subst (λ (x : List Mark). Contains x (Mark.Ended w.0 w.1)) (sym (append-nil (told basis (Event.End client entry op outcome ms shown ∷ past) number) ∙ told-ended)) w.2, w.3))

  module _ (b : BoardState) (view : shown ≡ view_of b.condition) (k : StandsOut basis first past number b ms) (counted : faulty_ends basis (Event.End client entry op outcome ms shown ∷ past) number ≤ b.faults) where
    image-ended : (b.condition.presence ≡ present.Home) ⊎ IsAway b.condition.presence → RawAllowed basis first (Event.End client entry op outcome ms shown ∷ past) number [] (number_of_image b.condition.image)
    image-ended (inl h) =
        let s : shown ≡ Seen.Home (number_of_image b.condition.image) b.condition.mode = view ∙ view-home b.condition h in
        inl (subst (λ (x : Seen). HasRaw x (number_of_image b.condition.image)) (sym before-ended)
        (home-of shown (home_before basis first past number) (number_of_image b.condition.image)
        (subst (λ (x : Seen). HasRaw x (number_of_image b.condition.image)) (sym s) refl)))
    image-ended (inr a) = raw-ended (number_of_image b.condition.image) (ap is_home view ∙ view-away b.condition a) k.image

    -- Then it has no tail.
    pub stands-ended : StandsOut basis first (Event.End client entry op outcome ms shown ∷ past) number b []
    stands-ended =
        record {
          journal = k.journal ∙ sym told-ended ∙ sym (append-nil (told basis (Event.End client entry op outcome ms shown ∷ past) number));
          unwritten = k.unwritten;
          image = image-ended (home-or_away b.condition.presence);
          staged = k.staged;
          faults = counted;
        }

-- The faults that the log tells behind it.
pub faults-ended : (basis : Basis) (past : List Event) (client entry : ℕ) (op : Op) (answer : Result ⊤ BoardFault) (ms : List Mark) (shown : Seen) (number : ℕ) (before after : ℕ) → board_of basis.facts (rows basis past) entry ≡ Some number
    → faulty_ends basis past number ≤ before → OnOk answer (after ≡ before) → OnErr answer (before < after)
    → faulty_ends basis (Event.End client entry op answer ms shown ∷ past) number ≤ after
faults-ended basis past client entry op (Ok u) ms shown number before after own k w f = let e : after ≡ before = w in omega arith
faults-ended basis past client entry op (Err fault) ms shown number before after own k w f =
    let e : is_board_of basis.facts (rows basis past) entry number ≡ true = own-board basis.facts (rows basis past) entry number own in
    let l : before < after = f in
    rw e (omega arith)
