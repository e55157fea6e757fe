-- The first boot of a machine whose boards are all at home: it is legal.
use Rattle.std.proofs.Common.{◌≡◌, ℕ, zero, suc, ◌==◌, ◌+◌, ◌≤◌, ◌<◌, List, [], ◌∷◌, ◌++◌, length, take, get_or, None, refl, ap, sym, ◌∙◌, subst, arith, inl}
use Rattle.std.proofs.lemmas.Bool.{eqb-true}
use Rattle.std.proofs.lemmas.List.{length-take-le, take_more}
use Rattle.std.specs.Prelude.{Some, map, slice_get}
use Rattle.fw_facts.specs.declared.seen.Mode.{Mode}
use Rattle.fw_facts.specs.declared.seen.Seen.{Seen}
use Rattle.update_log.proofs.Lists.{by_test}
use Rattle.core_state.specs.Core.{Core, Stands}
use Rattle.update_log.specs.Legal.{IsNext}
use Rattle.update_log.specs.Known.{Basis, rows}
use Rattle.update_log.specs.Legal.{BoardListed}
use Rattle.update_log.specs.Pasts.{past_of}
use Rattle.update_log.specs.Shows.{FreshShows}
use Rattle.update_log.specs.declared.event.BoardSeen.{BoardSeen}
use Rattle.update_log.specs.declared.event.Event.{Event}
use Rattle.update_log.specs.declared.event.Found.{Found}
use Rattle.update_log.specs.declared.facts.BootPlan.{BootPlan}
use Rattle.log_stories.proofs.Growing.{runs-next}
use Rattle.log_stories.specs.Stories.{RunsOn, board_shown, boards_from, mode_of}

-- ---- the boards, one by one

boards-push : (number : ℕ) (raws : List ℕ) (raw at : ℕ) → at ≡ number + length raws → boards_from number (raws ++ raw ∷ []) ≡ boards_from number raws ++ board_shown at raw ∷ []
boards-push number [] raw at h = let same : number ≡ at = omega arith in rw same refl
boards-push number (r ∷ raws) raw at h = ap (λ (xs : List BoardSeen). board_shown number r ∷ xs) (boards-push (number + 1) raws raw at (omega arith))

pub boards-more : (raws : List ℕ) (i : ℕ) (boards new : List BoardSeen) (b : BoardSeen) → i < length raws → boards ≡ boards_from 0 (take i raws) → b ≡ board_shown i (get_or raws i 0) → new ≡ boards ++ b ∷ []
    → new ≡ boards_from 0 (take (i + 1) raws)
boards-more raws i boards new b h e s n =
    let raw : ℕ = get_or raws i 0 in
    let more : take (i + 1) raws ≡ take i raws ++ raw ∷ [] = take_more raws i 0 h in
    let long : length (take i raws) ≡ i = length-take-le i raws (omega arith) in
    let at : i ≡ 0 + length (take i raws) = omega (arith, long) in
    n ∙ ap (λ (x : BoardSeen). boards ++ x ∷ []) s ∙ ap (λ (xs : List BoardSeen). xs ++ board_shown i raw ∷ []) e
    ∙ sym (boards-push 0 (take i raws) raw i at) ∙ ap (boards_from 0) (sym more)

length-boards : (number : ℕ) (raws : List ℕ) → length (boards_from number raws) ≡ length raws
length-boards number [] = refl
length-boards number (raw ∷ raws) = ap suc (length-boards (number + 1) raws)

-- ---- each is listed as it may be

abbrev plan : BootPlan
plan = record { time = 1000; limit = None; absent = [] }

abbrev first : List ℕ → List Seen
first raws = map (λ raw. Seen.Home raw (mode_of raw)) raws

record IsShown (first : List Seen) (i number : ℕ) (b : BoardSeen) : Type 0 where
  raw : ℕ
  board : board_shown number raw ≡ b
  seen : slice_get first i ≡ Some (Seen.Home raw (mode_of raw))

shown : (from i number : ℕ) (raws : List ℕ) (b : BoardSeen) → number ≡ from + i → slice_get (boards_from from raws) i ≡ Some b → IsShown (first raws) i number b
shown from i number [] b n h = absurd (cc)
shown from zero number (raw ∷ raws) b n h =
    let same : number ≡ from = omega arith in
    rw same (record { raw = raw; board = cc; seen = refl })
shown from (suc i) number (raw ∷ raws) b n h =
    let s = shown (from + 1) i number raws b (omega arith) h in
    record { raw = s.raw; board = s.board; seen = s.seen }

zero-mode : (raw other : ℕ) → Seen.Home raw (mode_of raw) ≡ Seen.Home other Mode.Bootloader → other ≡ 0
zero-mode raw other e =
    by_test (raw == 0) _
    (λ t. let zero : raw ≡ 0 = eqb-true raw 0 t in cc)
    (λ t. let runtime : mode_of raw ≡ Mode.Runtime = rw t refl in absurd (cc))

fresh : (basis : Basis) (seens : List Seen) (board raw : ℕ) → slice_get seens board ≡ Some (Seen.Home raw (mode_of raw))
    → FreshShows basis seens [] board [] (Seen.Home raw (mode_of raw))
fresh basis seens board raw h = record { raw = λ raw' mode e. rw h (inl (cc)); mode = zero-mode raw }

listed : (basis : Basis) (raws : List ℕ) (board : ℕ) (b : BoardSeen) → slice_get (boards_from 0 raws) board ≡ Some b → BoardListed basis (first raws) [] plan board b
listed basis raws board b h =
    let s = shown 0 board board raws b (omega arith) h in
    subst (λ (x : BoardSeen). BoardListed basis (first raws) [] plan board x) s.board
    (record { number = refl; presence = refl; untold = tt; shown = fresh basis (first raws) board s.raw s.seen })

-- ---- the boot

abbrev pub boot_of : List BoardSeen → Event
boot_of boards = Event.Boot 1 1000 None Found.Plain boards

booted-runs : (basis : Basis) (boards : List BoardSeen) (raws : List ℕ) → length basis.facts.sheets ≡ length raws → boards ≡ boards_from 0 raws → RunsOn basis (boot_of boards ∷ [])
booted-runs basis boards raws s b =
    rw b (
    record {
      first = first raws;
      plans = plan ∷ [];
      legal = (
        tt,
        record { booted = λ h. cc; on = λ h. cc; below = λ h. cc },
        (
          plan,
          record {
            number_is = refl;
            planned = refl;
            time_is = refl;
            limit_is = refl;
            count = length-boards 0 raws ∙ sym s;
            listed = listed basis raws;
            found_is = tt;
          },
        ),
      );
      booted = omega arith;
      on = refl;
      limit = refl;
    }
    )

pub runs-booted : (basis : Basis) (log : List Event) (boards : List BoardSeen) (raws : List ℕ) → length basis.facts.sheets ≡ length raws → log ≡ [] → boards ≡ boards_from 0 raws
    → IsNext basis (past_of log) (boot_of boards)
runs-booted basis log boards raws s l b = rw l (runs-next basis [] (boot_of boards) (booted-runs basis boards raws s b))

pub boot-rows : (basis : Basis) (core : Core) (boards : List BoardSeen) → Stands basis core → core.log ≡ []
    → length (rows basis (boot_of boards ∷ past_of core.log)) ≤ length core.rows + core.row_room
boot-rows basis core boards s l =
    let same : length (rows basis (past_of core.log)) ≡ length core.rows = ap length (sym s.rows) in
    omega (arith, same)

-- the log of a boot alone
pub runs-after : (basis : Basis) (log new : List Event) (boards : List BoardSeen) (raws : List ℕ) → length basis.facts.sheets ≡ length raws → log ≡ [] → boards ≡ boards_from 0 raws
    → new ≡ log ++ boot_of boards ∷ [] → RunsOn basis (past_of new)
runs-after basis log new boards raws s l b e = rw (e, l) (booted-runs basis boards raws s b)
