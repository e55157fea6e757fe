-- A first boot is legal, and adds no row.
use Rattle.std.proofs.Common.{◌≡◌, ℕ, suc, zero, ◌+◌, ◌<◌, ◌≤◌, inl, List, [], ◌∷◌, ◌++◌, length, map, take, get_or, refl, sym, ap, ◌∙◌, subst, arith, add-one}
use Rattle.std.specs.Prelude.{Bool, true, false, IsTrue, is_some, if◌then◌else◌, Option, Some, None, All, slice_get, unwrap_or}
use Rattle.std.proofs.Math.Seq.{take-suc}
use Rattle.std.proofs.lemmas.List.{length-take-le}
use Rattle.std.proofs.lemmas.List.Elements.{All-cons, All-head, All-nil, All-tail}
use Rattle.std.proofs.lemmas.Option.{get_or_from_slice_get, slice_get_within}
use Rattle.fw_facts.specs.declared.seen.Mode.{Mode}
use Rattle.fw_facts.specs.declared.seen.Seen.{Seen}
use Rattle.fw_facts.specs.Views.{is_home}
use Rattle.emulated_boards.specs.declared.image.Image.{Image}
use Rattle.emulated_boards.specs.declared.mark.Mark.{Mark}
use Rattle.emulated_boards.specs.Boards.{BoardState}
use Rattle.emulated_boards.specs.Conditions.{fresh, view_of}
use Rattle.update_log.specs.declared.event.BoardSeen.{BoardSeen}
use Rattle.update_log.specs.declared.event.Event.{Event}
use Rattle.update_log.specs.declared.event.Found.{Found}
use Rattle.update_log.specs.declared.facts.BootPlan.{BootPlan}
use Rattle.core_state.specs.Core.{Core, Stands}
use Rattle.update_log.specs.Legal.{IsNext}
use Rattle.update_log.specs.Known.{Basis, rows}
use Rattle.update_log.specs.Legal.{BoardListed, is_absent, is_gone}
use Rattle.update_log.specs.Pasts.{past_of}
use Rattle.update_log.specs.Shows.{HasRaw}
use Rattle.first_boots.specs.FirstBoot.{IsAsMade, IsFirstShown, listed_from, seen_at, shown_by}

-- ---- what is listed

listed_push : (plan : BootPlan) (n m : ℕ) (shown : List Seen) (x : Seen) → m ≡ n + length shown
    → listed_from plan n (shown ++ x ∷ []) ≡ listed_from plan n shown ++ record { board = m; seen = seen_at plan m x; untold = [] } ∷ []
listed_push plan n m [] x e = rw (let z : m ≡ n = omega arith in z) refl
listed_push plan n m (s ∷ shown) x e =
    ap (λ (more : List BoardSeen). record { board = n; seen = seen_at plan n s; untold = [] } ∷ more) (listed_push plan (suc n) m shown x (omega arith))

pub listed_length : (plan : BootPlan) (n : ℕ) (shown : List Seen) → length (listed_from plan n shown) ≡ length shown
listed_length plan n [] = refl
listed_length plan n (s ∷ shown) = ap suc (listed_length plan (suc n) shown)

-- one more turn of the loop that lists them
pub listed_turn : (plan : BootPlan) (shown : List Seen) (i : ℕ) (d seen : Seen) (old new : List BoardSeen) (none : List Mark) → i < length shown
    → old ≡ listed_from plan 0 (take i shown) → seen ≡ seen_at plan i (get_or shown i d) → new ≡ old ++ record { board = i; seen = seen; untold = none } ∷ [] → none ≡ []
    → new ≡ listed_from plan 0 (take (i + 1) shown)
listed_turn plan shown i d seen old new none lt so_far is pushed empty =
    let longer : take (suc i) shown ≡ take i shown ++ get_or shown i d ∷ [] = take-suc shown i d lt in
    let more : listed_from plan 0 (take (suc i) shown) ≡ listed_from plan 0 (take i shown) ++ record { board = i; seen = seen_at plan i (get_or shown i d); untold = [] } ∷ [] =
    ap (listed_from plan 0) longer ∙ listed_push plan 0 i (take i shown) (get_or shown i d) (let n = length-take-le i shown (omega arith) in omega (arith, n)) in
    rw (add-one, more, pushed, so_far, is, empty) refl

-- a board that is listed is the one of that number, as it shows itself where it isn't absent
record IsListed (plan : BootPlan) (n k : ℕ) (shown : List Seen) (b : BoardSeen) : Type 0 where
  show : Seen
  shown_is : slice_get shown k ≡ Some show
  seen_is : b.seen ≡ seen_at plan b.board show
  number_is : b.board ≡ n + k
  untold_is : b.untold ≡ []

listed_at : (plan : BootPlan) (n k : ℕ) (shown : List Seen) (b : BoardSeen) → slice_get (listed_from plan n shown) k ≡ Some b → IsListed plan n k shown b
listed_at plan n k [] b e = cc
listed_at plan n zero (s ∷ shown) b e =
    subst (IsListed plan n zero (s ∷ shown)) (some_same e)
    (record { show = s; shown_is = refl; seen_is = refl; number_is = omega arith; untold_is = refl })
  where
    some_same : {x y : BoardSeen} → Some x ≡ Some y → x ≡ y
    some_same {x = x} e = ap (λ (o : Option BoardSeen). unwrap_or o x) e
listed_at plan n (suc k) (s ∷ shown) b e =
    let h : IsListed plan (suc n) k shown b = listed_at plan (suc n) k shown b e in
    record { show = h.show; shown_is = h.shown_is; seen_is = h.seen_is; number_is = (let m = h.number_is in omega (arith, m)); untold_is = h.untold_is }

-- ---- what is shown

first_at : (shown : List Seen) (k : ℕ) (s : Seen) → All IsFirstShown shown → slice_get shown k ≡ Some s → IsFirstShown s
first_at shown k s all e = subst IsFirstShown (get_or_from_slice_get shown k s s e) (all k s (slice_get_within shown k s e))

first_home : (s : Seen) → IsFirstShown s → IsTrue (is_home s)
first_home (Seen.Home raw Mode.Runtime) h = refl
first_home (Seen.Home raw Mode.Bootloader) h = refl
first_home Seen.Gone h = absurd h
first_home Seen.Stranger h = absurd h

first_mode : (s : Seen) (raw : ℕ) → IsFirstShown s → s ≡ Seen.Home raw Mode.Bootloader → raw ≡ 0
first_mode s raw h e = subst IsFirstShown e h

first_raw : (s : Seen) (raw : ℕ) (mode : Mode) → s ≡ Seen.Home raw mode → HasRaw s raw
first_raw s raw mode e = subst (λ (x : Seen). HasRaw x raw) (sym e) refl

shown_of : (raw : Option ℕ) → IsFirstShown (Seen.Home (unwrap_or raw 0) (if is_some raw then Mode.Runtime else Mode.Bootloader))
shown_of None = refl
shown_of (Some raw) = tt

shown_fresh : (image : Image) → IsFirstShown (view_of (fresh image))
shown_fresh image = shown_of image.raw

-- boards as they are made show themselves so
pub first_shown : (boards : List BoardState) → All IsAsMade boards → All IsFirstShown (map shown_by boards)
first_shown [] all = All-nil IsFirstShown
first_shown (b ∷ boards) all =
    let one : IsAsMade b = All-head IsAsMade b boards all in
    All-cons IsFirstShown (shown_by b) (map shown_by boards) (subst (λ c. IsFirstShown (view_of c)) (sym one.1) (shown_fresh one.0))
    (first_shown boards (All-tail IsAsMade b boards all))

-- ---- the boot

-- of a plan an absent board shows that it is gone, and any other what it shows by itself
presence_so : (absent : Bool) (s : Seen) → IsFirstShown s
    → IsTrue (if absent then is_gone (if absent then Seen.Gone else s) else is_home (if absent then Seen.Gone else s))
presence_so true s fine = refl
presence_so false s fine = first_home s fine

raw_so : (absent : Bool) (s : Seen) (raw : ℕ) (mode : Mode) → (if absent then Seen.Gone else s) ≡ Seen.Home raw mode → HasRaw s raw
raw_so true s raw mode e = cc
raw_so false s raw mode e = first_raw s raw mode e

mode_so : (absent : Bool) (s : Seen) (raw : ℕ) → IsFirstShown s → (if absent then Seen.Gone else s) ≡ Seen.Home raw Mode.Bootloader → raw ≡ 0
mode_so true s raw fine e = cc
mode_so false s raw fine e = first_mode s raw fine e

listed_so : (basis : Basis) (plan : BootPlan) (shown : List Seen) (all : All IsFirstShown shown) (k : ℕ) (b : BoardSeen) → IsListed plan 0 k shown b
    → BoardListed basis shown [] plan k b
listed_so basis plan shown all k b h =
    let fine : IsFirstShown h.show = first_at shown k h.show all h.shown_is in
    let number : b.board ≡ k = (let m = h.number_is in omega (arith, m)) in
    let seen : b.seen ≡ (if is_absent plan k then Seen.Gone else h.show) = h.seen_is ∙ ap (λ n. seen_at plan n h.show) number in
    record {
      number = number;
      presence = rw seen (presence_so (is_absent plan k) h.show fine);
      untold = rw h.untold_is tt;
      shown = record {
        raw = λ raw mode e. inl (rw h.shown_is (raw_so (is_absent plan k) h.show raw mode (sym seen ∙ e)));
        mode = λ raw e. mode_so (is_absent plan k) h.show raw fine (sym seen ∙ e);
      };
    }

pub boot_next : (basis : Basis) (plan : BootPlan) (log : List Event) (shown : List Seen) (listed : List BoardSeen) → log ≡ [] → listed ≡ listed_from plan 0 shown
    → length shown ≡ length basis.facts.sheets → All IsFirstShown shown → IsNext basis (past_of log) (Event.Boot 1 plan.time plan.limit Found.Plain listed)
boot_next basis plan log shown listed l b count all =
    rw (l, b) (
      shown,
      plan ∷ [],
      (
        tt,
        record { booted = λ h. cc; on = λ h. refl },
        (
          plan,
          record {
            number_is = refl;
            planned = refl;
            time_is = refl;
            limit_is = refl;
            count = listed_length plan 0 shown ∙ count;
            listed = λ k b h. listed_so basis plan shown all k b (listed_at plan 0 k shown b h);
            found_is = tt;
          },
        ),
      ),
    )

pub boot_rows : (basis : Basis) (plan : BootPlan) (log : List Event) (listed : List BoardSeen) (core : Core) → log ≡ [] → core.log ≡ log → Stands basis core
    → length (rows basis (Event.Boot 1 plan.time plan.limit Found.Plain listed ∷ past_of log)) ≤ length core.rows + core.row_room
boot_rows basis plan log listed core l same s =
    let kept : core.rows ≡ basis.opening = s.rows ∙ ap (λ (xs : List Event). rows basis (past_of xs)) (same ∙ l) in
    rw (l, kept) (omega arith)

-- A state that stands for no event has the rows before it.
pub rows_before : (basis : Basis) (core : Core) → core.log ≡ [] → Stands basis core → core.rows ≡ basis.opening
rows_before basis core none stands = stands.rows ∙ ap (λ log. rows basis (past_of log)) none
