-- What a board that is out shows and may show behind a plugin's step.
use Rattle.std.proofs.Common.{◌≡◌, ℕ, ◌<◌, ◌≤◌, Bool, true, false, ◌||◌, List, [], ◌∷◌, ◌++◌, refl, ap, sym, ◌∙◌, subst, arith, ◌⊎◌, inl, inr}
use Rattle.std.proofs.lemmas.List.{append-nil}
use Rattle.std.proofs.lemmas.List.Elements.{Contains-append_left, Contains-append_right}
use Rattle.std.proofs.lemmas.List.Folds.{list_any-append}
use Rattle.std.proofs.lemmas.Bool.{or_left}
use Rattle.std.proofs.lemmas.Option.{same_Some}
use Rattle.std.specs.Prelude.{Option, Some, None, Contains, IsTrue, MatchBool, OnErr, OnOk, Result, Ok, Err, ⊤, unwrap_or}
use Rattle.std.specs.List.{list_any}
use Rattle.fw_facts.specs.Views.{is_home}
use Rattle.fw_facts.specs.declared.seen.Mode.{Mode}
use Rattle.fw_facts.specs.declared.seen.Seen.{Seen}
use Rattle.emulated_boards.specs.Boards.{BoardState}
use Rattle.emulated_boards.specs.Conditions.{view_of}
use Rattle.emulated_boards.specs.declared.condition.Condition.{Condition}
use Rattle.emulated_boards.specs.declared.condition.Presence.{Presence}
use Rattle.emulated_boards.specs.declared.condition.Presence.TheVariants as present
use Rattle.emulated_boards.specs.declared.fault.BoardFault.{BoardFault}
use Rattle.emulated_boards.specs.declared.image.Image.{Image}
use Rattle.emulated_boards.specs.declared.mark.Mark.{Mark}
use Rattle.plugin_trait.specs.Steps.{IsAway, KeepsRules}
use Rattle.update_log.proofs.WorkedLogs.{same-raw, same-mode}
use Rattle.update_log.specs.declared.event.Event.{Event}
use Rattle.update_log.specs.declared.event.Op.{Op}
use Rattle.update_log.specs.Holding.{live}
use Rattle.update_log.specs.Known.{Basis, known, seen, tells}
use Rattle.update_log.specs.Once.{ShowsFirst}
use Rattle.update_log.specs.Shows.{EndShows, HasMode, HasRaw, IsWritten, ModeAllowed, RawAllowed, began_since, first_of_board, home_before, home_or, is_alike, is_began, is_entered, is_left, raw_of, told}
use Rattle.install_engine.specs.Runs.{StandsOut, number_of_image}
use Rattle.install_engine.proofs.RunBoards.{raw-wider}
use Rattle.install_engine.proofs.RunMarks.{ImageGave, ModeGave, StagedGave, StepGave}

-- ---- presence

pub home-or_away : (p : Presence) → (p ≡ present.Home) ⊎ IsAway p
home-or_away present.Home = inl refl
home-or_away present.Gone = inr tt
home-or_away present.Stranger = inr tt

pub view-home : (c : Condition) → c.presence ≡ present.Home → view_of c ≡ Seen.Home (number_of_image c.image) c.mode
view-home c e = ap (λ (p : Presence). view_of (record c { presence = p })) e

away-view : (c : Condition) (p : Presence) → IsAway p → is_home (view_of (record c { presence = p })) ≡ false
away-view c present.Home a = absurd a
away-view c present.Gone a = refl
away-view c present.Stranger a = refl

pub view-away : (c : Condition) → IsAway c.presence → is_home (view_of c) ≡ false
view-away c a = away-view c c.presence a

-- A board that shows itself: it is home, with that raw version and mode.
pub record ShowsItself (c : Condition) (raw : ℕ) (mode : Mode) : Type 0 where
  pub home : c.presence ≡ present.Home
  pub raw_is : number_of_image c.image ≡ raw
  pub mode_is : c.mode ≡ mode

pub shows-itself : (c : Condition) (raw : ℕ) (mode : Mode) → view_of c ≡ Seen.Home raw mode → ShowsItself c raw mode
shows-itself c raw mode e = at (home-or_away c.presence)
  where
    at : (c.presence ≡ present.Home) ⊎ IsAway c.presence → ShowsItself c raw mode
    at (inl h) =
        let s : Seen.Home (number_of_image c.image) c.mode ≡ Seen.Home raw mode = sym (view-home c h) ∙ e in
        record { home = h; raw_is = same-raw (number_of_image c.image) raw c.mode mode s; mode_is = same-mode (number_of_image c.image) raw c.mode mode s }
    at (inr a) = let bad : false ≡ true = sym (view-away c a) ∙ ap is_home e in cc

-- ---- what the rules of a step say

faults-grow : (old new : BoardState) (answer : Result ⊤ BoardFault) → OnOk answer (new.faults ≡ old.faults) → OnErr answer (old.faults < new.faults) → old.faults ≤ new.faults
faults-grow old new (Ok u) w f = let e : new.faults ≡ old.faults = w in omega arith
faults-grow old new (Err fault) w f = let e : old.faults < new.faults = f in omega arith

-- A board is home only where it was.
home-stays : (old new : BoardState) (answer : Result ⊤ BoardFault) → KeepsRules old answer new → new.condition.presence ≡ present.Home → old.condition.presence ≡ present.Home
home-stays old new answer r e = at r.presence
  where
    at : (new.condition.presence ≡ old.condition.presence) ⊎ ((old.faults < new.faults) × IsAway new.condition.presence) → old.condition.presence ≡ present.Home
    at (inl same) = sym same ∙ e
    at (inr a) = absurd (subst IsAway e a.1)

-- It is as present as it was where the step went well.
well-present : (old new : BoardState) (u : ⊤) → KeepsRules old (Ok u) new → new.condition.presence ≡ old.condition.presence
well-present old new u r = at r.presence
  where
    at : (new.condition.presence ≡ old.condition.presence) ⊎ ((old.faults < new.faults) × IsAway new.condition.presence) → new.condition.presence ≡ old.condition.presence
    at (inl same) = same
    at (inr a) = let e : new.faults ≡ old.faults = r.well in let l : old.faults < new.faults = a.0 in absurd (omega arith)

alike-at : (p : Presence) (a b : Condition) → is_alike (view_of (record a { presence = p })) (view_of (record b { presence = p })) ≡ true
alike-at present.Home a b = refl
alike-at present.Gone a b = refl
alike-at present.Stranger a b = refl

alike-present : (a b : Condition) → b.presence ≡ a.presence → is_alike (view_of a) (view_of b) ≡ true
alike-present a b e = ap (λ (p : Presence). is_alike (view_of a) (view_of (record b { presence = p }))) e ∙ alike-at a.presence a b

-- ---- the marks of a write

none-of : (xs ys : List Mark) → list_any is_began (xs ++ ys) ≡ false → (list_any is_began xs ≡ false) × (list_any is_began ys ≡ false)
none-of xs ys h = at (list_any is_began xs) (list_any is_began ys) (sym (list_any-append is_began xs ys) ∙ h)
  where
    at : (a b : Bool) → (a || b) ≡ false → (a ≡ false) × (b ≡ false)
    at true b h = cc
    at false b h = (refl, h)

-- Where no write began the image stays.
unbegun-image : (entry : ℕ) (payload : Image) (ms : List Mark) (old new : Image) → list_any is_began ms ≡ false → ImageGave entry payload ms old new → new ≡ old
unbegun-image entry payload ms old new n (inl e) = e
unbegun-image entry payload ms old new n (inr (inl b)) = let bad : false ≡ true = sym n ∙ b.1 in cc
unbegun-image entry payload ms old new n (inr (inr w)) = let b : list_any is_began ms ≡ true = w.1.began in let bad : false ≡ true = sym n ∙ b in cc

first-away : (s f : Seen) → is_home s ≡ false → ShowsFirst s f
first-away (Seen.Home raw mode) f h = cc
first-away Seen.Gone f h = tt
first-away Seen.Stranger f h = tt

first-home : (s f : Seen) (raw : ℕ) (mode : Mode) → s ≡ Seen.Home raw mode → HasRaw f raw → ShowsFirst s f
first-home s f raw mode e h = subst (λ (x : Seen). ShowsFirst x f) (sym e) h

first-of : (s f : Seen) (raw : ℕ) (mode : Mode) → s ≡ Seen.Home raw mode → ShowsFirst s f → HasRaw f raw
first-of s f raw mode e h = subst (λ (x : Seen). ShowsFirst x f) e h

-- The modes that a step leaves are those that its end may show.
mode-map : (a b c : Bool) (old new : Mode) (before : Seen) (raw : ℕ) → before ≡ Seen.Home raw old
    → MatchBool a (new ≡ Mode.Bootloader) (MatchBool b (new ≡ Mode.Runtime) (MatchBool c ((new ≡ old) ⊎ (new ≡ Mode.Bootloader)) (new ≡ old)))
    → MatchBool a (new ≡ Mode.Bootloader) (MatchBool b (new ≡ Mode.Runtime) (MatchBool c (HasMode before new ⊎ (new ≡ Mode.Bootloader)) (HasMode before new)))
mode-map true b c old new before raw e h = h
mode-map false true c old new before raw e h = h
mode-map false false true old new before raw e (inl h) = inl (subst (λ (x : Seen). HasMode x new) (sym e) (sym h))
mode-map false false true old new before raw e (inr h) = inr h
mode-map false false false old new before raw e h = subst (λ (x : Seen). HasMode x new) (sym e) (sym h)

-- What was seen last at home was the last that was shown at home.
before-at : (o : Option Seen) (older shown : Seen) (raw : ℕ) (mode : Mode) → unwrap_or o shown ≡ Seen.Home raw mode → (shown ≡ Seen.Home raw mode → older ≡ Seen.Home raw mode) → home_or o older ≡ Seen.Home raw mode
before-at (Some (Seen.Home r m)) older shown raw mode e h = e
before-at (Some Seen.Gone) older shown raw mode e h = let bad : Seen.Gone ≡ Seen.Home raw mode = e in cc
before-at (Some Seen.Stranger) older shown raw mode e h = let bad : Seen.Stranger ≡ Seen.Home raw mode = e in cc
before-at None older shown raw mode e h = h e

pub seen-home : (basis : Basis) (first : List Seen) (past : List Event) (number raw : ℕ) (mode : Mode) → seen basis past number ≡ Seen.Home raw mode → home_before basis first past number ≡ Seen.Home raw mode
seen-home basis first [] number raw mode e = let bad : Seen.Gone ≡ Seen.Home raw mode = e in cc
seen-home basis first (event ∷ past) number raw mode e =
    before-at (tells basis.facts (live past) (known basis past) event number) (home_before basis first past number) (seen basis past number) raw mode e
    (λ s. seen-home basis first past number raw mode s)

-- ---- behind the step

module _ (basis : Basis) (first : List Seen) (past : List Event) (number entry : ℕ) (op : Op) (payload : Image) (ms : List Mark) (old : BoardState) (answer : Result ⊤ BoardFault) (new : BoardState) (g : StepGave op entry payload ms old answer new) (raw : raw_of entry past ≡ Some (number_of_image payload)) (k : StandsOut basis first past number old []) where
  pub journal-left : new.journal ≡ told basis past number ++ ms
  journal-left = g.journal ∙ ap (λ (x : List Mark). x ++ ms) (k.journal ∙ append-nil (told basis past number))

  unwritten-left : list_any is_began new.journal ≡ false → ShowsFirst (view_of new.condition) (first_of_board first number)
  unwritten-left n =
      let none = none-of old.journal ms (ap (list_any is_began) (sym g.journal) ∙ n) in
      let same : new.condition.image ≡ old.condition.image = unbegun-image entry payload ms old.condition.image new.condition.image none.1 g.image in
      at none.0 same (home-or_away new.condition.presence)
    where
      at : list_any is_began old.journal ≡ false → new.condition.image ≡ old.condition.image → (new.condition.presence ≡ present.Home) ⊎ IsAway new.condition.presence → ShowsFirst (view_of new.condition) (first_of_board first number)
      at none same (inl h) =
          let was = view-home old.condition (home-stays old new answer g.rules h) in
          let f : HasRaw (first_of_board first number) (number_of_image old.condition.image) = first-of (view_of old.condition) (first_of_board first number) (number_of_image old.condition.image) old.condition.mode was (k.unwritten none) in
          first-home (view_of new.condition) (first_of_board first number) (number_of_image new.condition.image) new.condition.mode (view-home new.condition h)
          (subst (λ (i : Image). HasRaw (first_of_board first number) (number_of_image i)) (sym same) f)
      at none same (inr a) = first-away (view_of new.condition) (first_of_board first number) (view-away new.condition a)

  image-left : ImageGave entry payload ms old.condition.image new.condition.image → RawAllowed basis first past number ms (number_of_image new.condition.image)
  image-left (inl e) = subst (λ (i : Image). RawAllowed basis first past number ms (number_of_image i)) (sym e) (raw-wider basis first past number ms (number_of_image old.condition.image) k.image)
  image-left (inr (inl b)) = inr (inl (ap (λ (o : Option ℕ). unwrap_or o 0) b.0, or_left (list_any is_began ms) (began_since basis first past number) b.1))
  image-left (inr (inr w)) =
      inr (inr (entry, payload.digest, Contains-append_right (told basis past number) ms (Mark.Ended entry payload.digest) w.1.ended, raw ∙ ap (λ (i : Image). Some (number_of_image i)) (sym w.0)))

  staged-left : StagedGave entry payload ms old.condition.staged new.condition.staged → (image : Image) → new.condition.staged ≡ Some image → IsWritten past new.journal (number_of_image image)
  staged-left (inl same) image e =
      let w = k.staged image (sym same ∙ e) in
      (w.0, w.1, subst (λ (x : List Mark). Contains x (Mark.Ended w.0 w.1)) (sym g.journal) (Contains-append_left old.journal ms (Mark.Ended w.0 w.1) w.2), w.3)
  staged-left (inr w) image e =
      let same : payload ≡ image = same_Some payload image (sym w.0 ∙ e) in
      (entry, payload.digest, subst (λ (x : List Mark). Contains x (Mark.Ended entry payload.digest)) (sym g.journal) (Contains-append_right old.journal ms (Mark.Ended entry payload.digest) w.1.ended), raw ∙ ap (λ (i : Image). Some (number_of_image i)) same)

  -- Behind the step the board stands to the log, with the step's marks as its tail.
  pub stands-left : StandsOut basis first past number new ms
  stands-left =
      record {
        journal = journal-left;
        unwritten = unwritten-left;
        image = image-left g.image;
        staged = staged-left g.staged;
        faults = (let f = faults-grow old new answer g.rules.well g.rules.failed in let o = k.faults in omega (arith, f, o));
      }

  module _ (shown : view_of old.condition ≡ seen basis past number) where
    -- Where it is home now, it was last shown at home as it was.
    before-left : new.condition.presence ≡ present.Home → seen basis past number ≡ Seen.Home (number_of_image old.condition.image) old.condition.mode
    before-left h = sym shown ∙ view-home old.condition (home-stays old new answer g.rules h)

    mode-left : (r : ℕ) (mode : Mode) → view_of new.condition ≡ Seen.Home r mode → ModeAllowed ms (home_before basis first past number) mode
    mode-left r mode e =
        let s = shows-itself new.condition r mode e in
        let b : home_before basis first past number ≡ Seen.Home (number_of_image old.condition.image) old.condition.mode =
        seen-home basis first past number (number_of_image old.condition.image) old.condition.mode (before-left s.home) in
        mode-map (list_any is_entered ms) (list_any is_left ms) (list_any is_began ms) old.condition.mode mode (home_before basis first past number) (number_of_image old.condition.image) b
        (subst (λ (m : Mode). ModeGave ms old.condition.mode m) s.mode_is g.mode)

    alike-left : (a : Result ⊤ BoardFault) → KeepsRules old a new → OnOk a (IsTrue (is_alike (seen basis past number) (view_of new.condition)))
    alike-left (Ok u) r = subst (λ (x : Seen). is_alike x (view_of new.condition) ≡ true) shown (alike-present old.condition new.condition (well-present old new u r))
    alike-left (Err fault) r = tt

    -- What it shows then may be shown at the step's end.
    pub end-shows : EndShows basis first past number ms answer (view_of new.condition)
    end-shows =
        record {
          stays = alike-left answer g.rules;
          home = home-shown (home-or_away new.condition.presence);
          raw = λ r mode e. let s = shows-itself new.condition r mode e in subst (λ (n : ℕ). RawAllowed basis first past number ms n) s.raw_is (image-left g.image);
          mode = mode-left;
        }
      where
        home-shown : (new.condition.presence ≡ present.Home) ⊎ IsAway new.condition.presence → IsTrue (is_home (view_of new.condition)) → IsTrue (is_home (seen basis past number))
        home-shown (inl h) t = ap is_home (before-left h)
        home-shown (inr a) t = let bad : false ≡ true = sym (view-away new.condition a) ∙ t in cc
