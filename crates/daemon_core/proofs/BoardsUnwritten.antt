-- A board of which no write was told to begin shows the raw version of its first image.
use Rattle.std.proofs.Common.{◌≡◌, ℕ, Bool, true, false, ◌||◌, List, [], ◌∷◌, ◌++◌, refl, ap, sym, ◌∙◌, ◌⊎◌, inl, inr, subst}
use Rattle.std.specs.Prelude.{Option, Some, None, ◌==◌, if◌then◌else◌, option_map, slice_get, unwrap_or}
use Rattle.std.specs.List.{list_any}
use Rattle.std.proofs.lemmas.Bool.{eqb-true, eq-eqb, or_parts, or_right, or_left, or_cases}
use Rattle.std.proofs.lemmas.List.Folds.{list_any-append, list_any_at}
use Rattle.daemon_core.proofs.Beginnings.{shows-itself}
use Rattle.emulated_boards.specs.declared.mark.Mark.{Mark}
use Rattle.fw_facts.specs.Views.{is_home}
use Rattle.fw_facts.specs.declared.seen.Seen.{Seen}
use Rattle.fw_facts.specs.declared.seen.Mode.{Mode}
use Rattle.fw_facts.specs.declared.view.DeviceView.{DeviceView}
use Rattle.history_keeper.specs.declared.row.Row.{Row}
use Rattle.update_log.proofs.Lists.{by_test}
use Rattle.update_log.specs.declared.answer.PlugAnswer.{PlugAnswer}
use Rattle.update_log.specs.declared.event.BoardSeen.{BoardSeen}
use Rattle.update_log.specs.declared.event.Event.{Event}
use Rattle.update_log.specs.declared.event.Op.{Op}
use Rattle.update_log.specs.declared.facts.Facts.{Facts}
use Rattle.update_log.specs.declared.live.OpenStep.{OpenStep}
use Rattle.update_log.specs.Holding.{live}
use Rattle.update_log.specs.Known.{Basis, board_found, board_of, for_board, is_board_of, known, rows, seen, tells, views}
use Rattle.update_log.specs.Legal.{Allowed, IsLegal, PlugAnswered, PlugShows, found_view, open_marks, open_on, plug_refused, unplug_refused}
use Rattle.update_log.specs.Once.{ShowsFirst}
use Rattle.update_log.specs.Shows.{Campaign, HasRaw, IsPrefix, RawAllowed, began_since, digest_of, first_of_board, home_before, home_or, is_began, marks, tells_home, told, told_by}

abbrev pub is_ended : Mark → Bool
is_ended (Mark.Ended entry digest) = true
is_ended _ = false

-- where the end of a write stands, so does a begin
abbrev pub BeginsToo : List Mark → Type 0
BeginsToo ms = list_any is_ended ms ≡ true → list_any is_began ms ≡ true

pub prefix-begins : (op : Op) (entry : ℕ) (digest : List ℕ) (ms : List Mark) → IsPrefix ms (marks op entry digest) → BeginsToo ms
prefix-begins Op.Prepare entry digest [] p e = cc
prefix-begins Op.Prepare entry digest (m ∷ ms) p e = absurd p
prefix-begins Op.Reload entry digest [] p e = cc
prefix-begins Op.Reload entry digest (m ∷ ms) p e = absurd p
prefix-begins Op.Cleanup entry digest [] p e = cc
prefix-begins Op.Cleanup entry digest (m ∷ ms) p e = absurd p
prefix-begins Op.Detach entry digest [] p e = cc
prefix-begins Op.Detach entry digest (m ∷ []) p e = let e' : list_any is_ended (Mark.Entered ∷ []) ≡ true = rw p.0 at e in cc
prefix-begins Op.Detach entry digest (m ∷ m' ∷ ms) p e = absurd p.1
prefix-begins Op.Attach entry digest [] p e = cc
prefix-begins Op.Attach entry digest (m ∷ []) p e = let e' : list_any is_ended (Mark.Left ∷ []) ≡ true = rw p.0 at e in cc
prefix-begins Op.Attach entry digest (m ∷ m' ∷ ms) p e = absurd p.1
prefix-begins Op.Write entry digest [] p e = cc
prefix-begins Op.Write entry digest (m ∷ ms) p e = rw p.0 refl

pub append-begins : (xs ys : List Mark) → BeginsToo xs → BeginsToo ys → BeginsToo (xs ++ ys)
append-begins xs ys f g e = list_any-append is_began xs ys ∙ at (or_cases (list_any is_ended xs) (list_any is_ended ys) (sym (list_any-append is_ended xs ys) ∙ e))
  where
    at : (list_any is_ended xs ≡ true) ⊎ (list_any is_ended ys ≡ true) → (list_any is_began xs || list_any is_began ys) ≡ true
    at (inl h) = or_left (list_any is_began xs) (list_any is_began ys) (f h)
    at (inr h) = or_right (list_any is_began xs) (list_any is_began ys) (g h)

-- a tail of the marks of an open step
pub open-begins : (basis : Basis) (past : List Event) (number : ℕ) (ms : List Mark) → IsPrefix ms (open_marks basis past number) → BeginsToo ms
open-begins basis past number ms p = at (open_on basis past number) p
  where
    none : (ms : List Mark) → IsPrefix ms [] → BeginsToo ms
    none [] p e = cc
    none (m ∷ ms) p e = absurd p

    at : (o : Option OpenStep) → IsPrefix ms (unwrap_or (option_map (λ s. marks s.op s.entry (digest_of (rows basis past) s.entry)) o) []) → BeginsToo ms
    at None p = none ms p
    at (Some s) p = prefix-begins s.op s.entry (digest_of (rows basis past) s.entry) ms p

-- what an event tells of a board
pub told_by-begins : (c : Campaign) (past : List Event) (event : Event) (number : ℕ) → Allowed c past event → BeginsToo (told_by c.basis.facts (rows c.basis past) event number)
told_by-begins c past (Event.Boot n time limit found boards) number (plan, a) = at (slice_get boards number) refl
  where
    at : (o : Option BoardSeen) → slice_get boards number ≡ o → BeginsToo (unwrap_or (option_map (λ b. b.untold) o) [])
    at None e = λ h. cc
    at (Some b) e = let l = a.listed number b e in open-begins c.basis past number b.untold l.untold
told_by-begins c past (Event.End client entry op outcome told shown) number a =
    by_test (is_board_of c.basis.facts (rows c.basis past) entry number) _
    (λ t. rw t (prefix-begins op entry (digest_of (rows c.basis past) entry) told a.told_is))
    (λ f. rw f (λ h. cc))
told_by-begins c past _ number a = λ h. cc

pub told-begins : (c : Campaign) (past : List Event) (number : ℕ) → IsLegal c past → BeginsToo (told c.basis past number)
told-begins c [] number legal = λ h. cc
told-begins c (event ∷ past) number legal =
    append-begins (told c.basis past number) (told_by c.basis.facts (rows c.basis past) event number)
    (told-begins c past number legal.0) (told_by-begins c past event number legal.2)

-- where a begin was told since, one was told
pub since-told : (basis : Basis) (first : List Seen) (past : List Event) (number : ℕ) → began_since basis first past number ≡ true → list_any is_began (told basis past number) ≡ true
since-told basis first [] number h = cc
since-told basis first (event ∷ past) number h =
    list_any-append is_began (told basis past number) (told_by basis.facts (rows basis past) event number) ∙
    by_test (tells_home (tells basis.facts (live past) (known basis past) event number)) _
    (λ t. let bad : false ≡ true = rw t at h in cc)
    (λ f. at (since-told basis first past number) (or_cases (list_any is_began (told_by basis.facts (rows basis past) event number)) (began_since basis first past number) (rw f at h)))
  where
    at : (began_since basis first past number ≡ true → list_any is_began (told basis past number) ≡ true)
        → (list_any is_began (told_by basis.facts (rows basis past) event number) ≡ true) ⊎ (began_since basis first past number ≡ true)
        → (list_any is_began (told basis past number) || list_any is_began (told_by basis.facts (rows basis past) event number)) ≡ true
    at before (inl t) = or_right (list_any is_began (told basis past number)) _ t
    at before (inr s) = or_left (list_any is_began (told basis past number)) _ (before s)

pub has-first : (shown first : Seen) (raw : ℕ) → HasRaw shown raw → ShowsFirst shown first → HasRaw first raw
has-first (Seen.Home r mode) first raw h s = subst (HasRaw first) h s
has-first Seen.Gone first raw h s = absurd h
has-first Seen.Stranger first raw h s = absurd h

-- a raw version that is allowed where no begin stands is that of the first image
pub allowed-first : (basis : Basis) (first : List Seen) (past : List Event) (number : ℕ) (ms : List Mark) (raw : ℕ)
    → RawAllowed basis first past number ms raw → BeginsToo (told basis past number ++ ms) → list_any is_began (told basis past number ++ ms) ≡ false
    → ShowsFirst (home_before basis first past number) (first_of_board first number) → HasRaw (first_of_board first number) raw
allowed-first basis first past number ms raw (inl h) b n s = has-first (home_before basis first past number) (first_of_board first number) raw h s
allowed-first basis first past number ms raw (inr (inl (z, t))) b n s = at (or_cases (list_any is_began ms) (began_since basis first past number) t)
  where
    none : (list_any is_began (told basis past number) ≡ false) × (list_any is_began ms ≡ false)
    none = or_parts (list_any is_began (told basis past number)) (list_any is_began ms) (sym (list_any-append is_began (told basis past number) ms) ∙ n)

    at : (list_any is_began ms ≡ true) ⊎ (began_since basis first past number ≡ true) → HasRaw (first_of_board first number) raw
    at (inl h) = let bad : true ≡ false = sym h ∙ none.1 in cc
    at (inr h) = let bad : true ≡ false = sym (since-told basis first past number h) ∙ none.0 in cc
allowed-first basis first past number ms raw (inr (inr (entry, digest, (k, l, e), r))) b n s =
    let ended : list_any is_ended (told basis past number ++ ms) ≡ true = list_any_at is_ended (told basis past number ++ ms) k (Mark.Ended entry digest) l (ap is_ended e) in
    let bad : true ≡ false = sym (b ended) ∙ n in cc

-- a refused plug isn't done
plug-not_done : (o : Option DeviceView) (shown : Seen) (Shows : Seen → Type 0) → PlugAnswered (plug_refused o) Shows (PlugAnswer.Done shown) → Shows shown
plug-not_done None shown Shows h = cc
plug-not_done (Some view) shown Shows h = at view.claim (is_home view.seen) h
  where
    at : (claim : Option ℕ) (home : Bool) → PlugAnswered (unwrap_or (option_map (λ entry. Some (PlugAnswer.Busy entry)) claim) (if home then Some PlugAnswer.AlreadyThere else None)) Shows (PlugAnswer.Done shown) → Shows shown
    at (Some entry) home h = cc
    at None true h = cc
    at None false h = h

unplug-not_done : (o : Option DeviceView) (shown : Seen) (Shows : Seen → Type 0) → PlugAnswered (unplug_refused o) Shows (PlugAnswer.Done shown) → Shows shown
unplug-not_done None shown Shows h = cc
unplug-not_done (Some view) shown Shows h = at view.claim (is_home view.seen) h
  where
    at : (claim : Option ℕ) (home : Bool) → PlugAnswered (unwrap_or (option_map (λ entry. Some (PlugAnswer.Busy entry)) claim) (if home then None else Some PlugAnswer.NotThere)) Shows (PlugAnswer.Done shown) → Shows shown
    at (Some entry) home h = cc
    at None true h = h
    at None false h = cc

-- what is told of a board alone
pub for-board : (o : Option ℕ) (number : ℕ) (shown told : Seen) → for_board o number shown ≡ Some told → (o ≡ Some number) × (shown ≡ told)
for-board None number shown told h = cc
for-board (Some n) number shown told h =
    by_test (n == number) _
    (λ t. let h' : Some shown ≡ Some told = rw t at h in (ap Some (eqb-true n number t), cc))
    (λ f. let h' : None ≡ Some told = rw f at h in cc)

is-board : (facts : Facts) (rows : List Row) (entry number : ℕ) → board_of facts rows entry ≡ Some number → is_board_of facts rows entry number ≡ true
is-board facts rows entry number e = ap (λ o. unwrap_or (option_map (λ b. b == number) o) false) e ∙ eq-eqb number number refl

-- what an event tells that a board shows has an allowed raw version
pub tells-allowed : (c : Campaign) (past : List Event) (event : Event) (number raw : ℕ) (mode : Mode) → Allowed c past event
    → tells c.basis.facts (live past) (known c.basis past) event number ≡ Some (Seen.Home raw mode)
    → RawAllowed c.basis c.first past number (told_by c.basis.facts (rows c.basis past) event number) raw
tells-allowed c past (Event.Boot n time limit found boards) number raw mode (plan, a) e = at (slice_get boards number) refl e
  where
    at : (o : Option BoardSeen) → slice_get boards number ≡ o → option_map (λ b. b.seen) o ≡ Some (Seen.Home raw mode) → RawAllowed c.basis c.first past number (unwrap_or (option_map (λ b. b.untold) o) []) raw
    at None g e = cc
    at (Some b) g e = let l = a.listed number b g in let s : b.seen ≡ Seen.Home raw mode = cc in l.shown.raw raw mode s
tells-allowed c past (Event.End client entry op outcome told shown) number raw mode a e =
    let f = for-board (board_of c.basis.facts (rows c.basis past) entry) number shown (Seen.Home raw mode) e in
    let t : is_board_of c.basis.facts (rows c.basis past) entry number ≡ true = is-board c.basis.facts (rows c.basis past) entry number f.0 in
    let w = a.shows number t in
    rw t (w.raw raw mode f.1)
tells-allowed c past (Event.Plug client device (PlugAnswer.Done shown)) number raw mode a e =
    let f = for-board (board_found c.basis.facts (live past) (known c.basis past) device) number shown (Seen.Home raw mode) e in
    let p : PlugShows c.basis c.first past device shown = plug-not_done (found_view (views c.basis past) device) shown (PlugShows c.basis c.first past device) a in
    let w = p.fresh number f.0 in
    w.raw raw mode f.1
tells-allowed c past (Event.Unplug client device (PlugAnswer.Done shown)) number raw mode a e =
    let f = for-board (board_found c.basis.facts (live past) (known c.basis past) device) number shown (Seen.Home raw mode) e in
    let p : shown ≡ Seen.Gone = unplug-not_done (found_view (views c.basis past) device) shown (λ s. s ≡ Seen.Gone) a in
    let bad : Seen.Gone ≡ Seen.Home raw mode = sym p ∙ f.1 in cc
tells-allowed c past _ number raw mode a e = cc

-- what a board at home, and what it was last seen to show
pub record Unwritten (basis : Basis) (first : List Seen) (past : List Event) (number : ℕ) : Type 0 where
  pub home : ShowsFirst (home_before basis first past number) (first_of_board first number)
  pub shown : ShowsFirst (seen basis past number) (first_of_board first number)

module _ (c : Campaign) (past : List Event) (event : Event) (number : ℕ) (legal : IsLegal c (event ∷ past)) (n : list_any is_began (told c.basis (event ∷ past) number) ≡ false) where
  none-before : list_any is_began (told c.basis past number) ≡ false
  none-before = (or_parts (list_any is_began (told c.basis past number)) (list_any is_began (told_by c.basis.facts (rows c.basis past) event number)) (sym (list_any-append is_began (told c.basis past number) (told_by c.basis.facts (rows c.basis past) event number)) ∙ n)).0

  module _ (before : Unwritten c.basis c.first past number) where
    first-of : (shown : Seen) → tells c.basis.facts (live past) (known c.basis past) event number ≡ Some shown → ShowsFirst shown (first_of_board c.first number)
    first-of (Seen.Home raw mode) e =
        allowed-first c.basis c.first past number (told_by c.basis.facts (rows c.basis past) event number) raw (tells-allowed c past event number raw mode legal.2 e)
        (told-begins c (event ∷ past) number legal) n before.home
    first-of Seen.Gone e = tt
    first-of Seen.Stranger e = tt

    or-first : (shown older : Seen) → ShowsFirst shown (first_of_board c.first number) → ShowsFirst older (first_of_board c.first number) → ShowsFirst (home_or (Some shown) older) (first_of_board c.first number)
    or-first (Seen.Home raw mode) older s o = s
    or-first Seen.Gone older s o = o
    or-first Seen.Stranger older s o = o

    unwritten-at : (o : Option Seen) → tells c.basis.facts (live past) (known c.basis past) event number ≡ o → Unwritten c.basis c.first (event ∷ past) number
    unwritten-at None e = record { home = rw e before.home; shown = rw e before.shown }
    unwritten-at (Some shown) e = record { home = rw e (or-first shown _ (first-of shown e) before.home); shown = rw e (first-of shown e) }

pub unwritten : (c : Campaign) (past : List Event) (number : ℕ) → IsLegal c past → list_any is_began (told c.basis past number) ≡ false → Unwritten c.basis c.first past number
unwritten c [] number legal n = record { home = shows-itself (first_of_board c.first number); shown = tt }
unwritten c (event ∷ past) number legal n =
    unwritten-at c past event number legal n (unwritten c past number legal.0 (none-before c past event number legal n))
    (tells c.basis.facts (live past) (known c.basis past) event number) refl
