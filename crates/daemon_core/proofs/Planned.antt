-- Boards at home keep the faults that are planned for them.
use Rattle.std.proofs.Common.{◌≡◌, ◌⊎◌, ℕ, zero, suc, Bool, true, false, List, [], ◌∷◌, length, map, refl, ap, sym, ◌∙◌, subst, inl, inr, ⊎_elim, arith}
use Rattle.std.specs.Prelude.{Option, Some, None, IsSome, MatchBool, unwrap_or, slice_get, slice_set, Result, Ok, Err}
use Rattle.block_pool.specs.Views.{SealedBytes}
use Rattle.device_list.specs.declared.selector.Selector.{Selector}
use Rattle.emulated_boards.specs.Boards.{BoardState}
use Rattle.emulated_boards.specs.declared.condition.Condition.{Condition}
use Rattle.emulated_boards.specs.declared.fault.PlannedFault.{PlannedFault}
use Rattle.update_log.specs.declared.answer.PlugAnswer.{PlugAnswer}
use Rattle.update_log.specs.declared.event.BoardSeen.{BoardSeen}
use Rattle.update_log.specs.declared.facts.BootPlan.{BootPlan}
use Rattle.daemon_core.specs.declared.claimed.Claimed.{Claimed}
use Rattle.daemon_core.specs.declared.claimed.ClaimStop.{ClaimStop}
use Rattle.daemon_core.specs.declared.claimed.Taken.{Taken}
use Rattle.daemon_core.specs.declared.fetched.Fetched.{Fetched}
use Rattle.daemon_core.specs.declared.finished.Finished.{Finished}
use Rattle.daemon_core.specs.declared.finished.FinishStop.{FinishStop}
use Rattle.daemon_core.specs.declared.hold.Ticket.{Ticket}
use Rattle.daemon_core.specs.declared.resumed.ResumeStop.{ResumeStop}
use Rattle.daemon_core.specs.declared.stop.Stop.{Stop}
use Rattle.daemon_core.specs.Booting.{AllStarted, StartedAt}
use Rattle.daemon_core.specs.Claims.{ClaimGave, RoomierBoard, RoomierPlaces, places_without}
use Rattle.daemon_core.specs.Finishes.{FinishedSo}
use Rattle.daemon_core.specs.Housed.{HouseLogView, Housed, Place}
use Rattle.daemon_core.specs.Parts.{AllHome}
use Rattle.daemon_core.specs.Plugging.{BoardMoved, MovedAs}
use Rattle.daemon_core.specs.Quiet.{moves_none}
use Rattle.daemon_core.specs.Resumes.{ResumeGave}
use Rattle.daemon_core.specs.Returns.{SameBoards, place_at, places_with}
use Rattle.daemon_core.proofs.ClaimRoom.{room-at}
use Rattle.daemon_core.specs.Planned.{HasPlan, HavePlans, KeepsPlans, plan_of, plans_in}

-- As a name is picked.
pub plans-picked : (places : List Place) → HavePlans (plans_in places) places
plans-picked [] number b e = cc
plans-picked (place ∷ places) zero b e = ap (λ (o : Option BoardState). Some (plan_of o)) e
plans-picked (place ∷ places) (suc n) b e = plans-picked places n b e

-- The place of a number, where one place is another.
at-set : (places : List Place) (k n : ℕ) (v : Place) → (place_at (slice_set places k v) n ≡ place_at places n) ⊎ ((n ≡ k) × (place_at (slice_set places k v) n ≡ v))
at-set [] k n v = inl refl
at-set (p ∷ ps) zero zero v = inr (refl, refl)
at-set (p ∷ ps) zero (suc n) v = inl refl
at-set (p ∷ ps) (suc k) zero v = inl refl
at-set (p ∷ ps) (suc k) (suc n) v =
    ⊎_elim (λ (e : place_at (slice_set ps k v) n ≡ place_at ps n). inl e)
    (λ (e : (n ≡ k) × (place_at (slice_set ps k v) n ≡ v)). inr (ap suc e.0, e.1)) (at-set ps k n v)

-- The board of a number, in a list of boards.
board-at : (places : List Place) (n : ℕ) → (place_at places n).board ≡ unwrap_or (slice_get (map (λ (p : Place). p.board) places) n) None
board-at [] n = refl
board-at (p ∷ ps) zero = refl
board-at (p ∷ ps) (suc n) = board-at ps n

same-board : (a b : BoardState) → Some a ≡ Some b → a ≡ b
same-board a b e = cc

same-place : (a b : Place) → Some a ≡ Some b → a ≡ b
same-place a b e = cc

none-some : (b : BoardState) → None ≡ Some b → ⊥
none-some b e = cc

module _ (plans : List (List PlannedFault)) where
  -- A board that has the plan of another.
  planned-so : (number : ℕ) (a b : BoardState) → b.plan ≡ a.plan → HasPlan plans number a → HasPlan plans number b
  planned-so number a b e p = p ∙ ap Some (sym e)

  -- All places are as before.
  pub plans-same : (old new : List Place) → new ≡ old → HavePlans plans old → HavePlans plans new
  plans-same old new e h = subst (λ (ps : List Place). HavePlans plans ps) (sym e) h

  -- Each has the board that it had.
  pub plans-stay : (old new : List Place) → SameBoards old new → HavePlans plans old → HavePlans plans new
  plans-stay old new s h = λ n b e.
      h n b (board-at old n ∙ ap (λ (bs : List (Option BoardState)). unwrap_or (slice_get bs n) None) (sym s) ∙ sym (board-at new n) ∙ e)

  -- One place is another.
  plans-set : (places : List Place) (k : ℕ) (v : Place) → ((b : BoardState) → v.board ≡ Some b → HasPlan plans k b) → HavePlans plans places → HavePlans plans (slice_set places k v)
  plans-set places k v own h = λ n b e.
      ⊎_elim
      (λ (s : place_at (slice_set places k v) n ≡ place_at places n). h n b (ap (λ (p : Place). p.board) (sym s) ∙ e))
      (λ (s : (n ≡ k) × (place_at (slice_set places k v) n ≡ v)). subst (λ (i : ℕ). HasPlan plans i b) (sym s.0) (own b (ap (λ (p : Place). p.board) (sym s.1) ∙ e)))
      (at-set places k n v)

  -- A board went out, or came home.
  out-none : (k : ℕ) (b : BoardState) → None ≡ Some b → HasPlan plans k b
  out-none k b e = cc

  plans-without : (places : List Place) (k : ℕ) → HavePlans plans places → HavePlans plans (places_without places k)
  plans-without places k h = plans-set places k (record (place_at places k) { board = None }) (out-none k) h

  pub plans-with : (places : List Place) (k : ℕ) (b : BoardState) → HasPlan plans k b → HavePlans plans places → HavePlans plans (places_with places k b)
  plans-with places k b p h =
      plans-set places k (record (place_at places k) { board = Some b }) (λ x e. subst (λ (y : BoardState). HasPlan plans k y) (same-board b x e) p) h

  -- Boards may have got more room.
  planned-roomier : (number : ℕ) (a : Option BoardState) (b : BoardState) → ((x : BoardState) → a ≡ Some x → HasPlan plans number x) → RoomierBoard a (Some b) → HasPlan plans number b
  planned-roomier number None b h r = absurd r
  planned-roomier number (Some a) b h r = planned-so number a b r.plan (h a refl)

  plans-roomier : (old new : List Place) → RoomierPlaces old new → HavePlans plans old → HavePlans plans new
  plans-roomier old new r h = λ n b e.
      planned-roomier n (place_at old n).board b (h n) (subst (λ (o : Option BoardState). RoomierBoard (place_at old n).board o) e (room-at old new n r))

  -- ---- what each call leaves

  -- The board that was taken.
  pub taken-planned : (places : List Place) (number : ℕ) (taken : Taken) → HavePlans plans places → RoomierBoard (place_at places number).board (Some taken.board) → HasPlan plans number taken.board
  taken-planned places number taken h r = planned-roomier number (place_at places number).board taken.board (h number) r

  pub claim-plans : {K : Type 0} (client : ℕ) (ticket : Ticket) (fetched : Fetched) (result : Result Claimed ClaimStop) (old new : Housed K) → ClaimGave client ticket fetched result old new → HavePlans plans old.places → HavePlans plans new.places
  claim-plans client ticket fetched (Ok (Claimed.Taken taken)) old new g h = plans-roomier (places_without old.places g.2.0) new.places g.2.2 (plans-without old.places g.2.0 h)
  claim-plans client ticket fetched _ old new g h = plans-roomier old.places new.places g.1 h

  pub resume-plans : {K : Type 0} (entry : ℕ) (held : Option (Ticket × Fetched)) (result : Result Claimed ResumeStop) (old new : Housed K) → ResumeGave entry held result old new → HavePlans plans old.places → HavePlans plans new.places
  resume-plans entry held (Ok (Claimed.Taken taken)) old new g h = plans-roomier (places_without old.places g.3.0) new.places g.3.2 (plans-without old.places g.3.0 h)
  resume-plans entry held (Ok (Claimed.Kept kept state)) old new g h = absurd g
  resume-plans entry held (Ok (Claimed.Refused refusal)) old new g h = plans-roomier old.places new.places g.1 h
  resume-plans entry held (Err stopped) old new g h = plans-roomier old.places new.places g.1 h

  pub finish-plans : {K : Type 0} (client entry number : ℕ) (board : BoardState) (payload : SealedBytes) (result : Result Finished FinishStop) (old new : Housed K) → FinishedSo client entry number board payload result old new → HasPlan plans number board → HavePlans plans old.places → HavePlans plans new.places
  finish-plans client entry number board payload (Ok finished) old new f p h =
      plans-same (places_with old.places number board) new.places f.2 (plans-with old.places number board p h)
  finish-plans client entry number board payload (Err stop) old new f p h = plans-same old.places new.places f.1.places h

  -- The board of a device that was moved.
  moved-planned : (move : Condition → Condition) (a : HouseLogView) (device : Selector) (old new : List Place) → (m : BoardMoved move a device old new) → HavePlans plans old → (b : BoardState) → m.after.board ≡ Some b → HasPlan plans m.number b
  moved-planned move a device old new m h b e =
      let before : BoardState = m.moved.0 in
      let after : BoardState = m.moved.1 in
      let w = m.moved.2 in
      let home : (place_at old m.number).board ≡ Some before = ap (λ (o : Option Place). (unwrap_or o (let d : Place = record { board = None; told = 0 } in d)).board) m.there ∙ w.was in
      subst (λ (y : BoardState). HasPlan plans m.number y) (same-board after b (sym w.is ∙ e))
      (planned-so m.number before after w.same.plan (h m.number before home))

  moved-by : (quiet : Bool) (move : Condition → Condition) (a : HouseLogView) (device : Selector) (old new : List Place) → MatchBool quiet (new ≡ old) (BoardMoved move a device old new) → HavePlans plans old → HavePlans plans new
  moved-by true move a device old new m h = plans-same old new m h
  moved-by false move a device old new m h =
      plans-same (slice_set old m.number m.after) new m.places (plans-set old m.number m.after (moved-planned move a device old new m h) h)

  pub moved-plans : (move : Condition → Condition) (a : HouseLogView) (device : Selector) (result : Result PlugAnswer Stop) (old new : List Place) → MovedAs move a device result old new → HavePlans plans old → HavePlans plans new
  moved-plans move a device (Ok answer) old new m h = moved-by (moves_none answer) move a device old new m h
  moved-plans move a device (Err stop) old new m h = plans-same old new m h

  -- A board that a boot started.
  started-planned : (plan : BootPlan) (number : ℕ) (was now : Place) (new : List Place) (listed : List BoardSeen) (b : BoardState) → StartedAt plan number was new listed → slice_get new number ≡ Some now → now.board ≡ Some b → ((x : BoardState) → was.board ≡ Some x → HasPlan plans number x) → HasPlan plans number b
  started-planned plan number was now new listed b (after, seen, there, here, (x, y, w)) e is h =
      let same : after ≡ now = same-place after now (sym there ∙ e) in
      planned-so number x b (ap (λ (z : BoardState). z.plan) (same-board b y (sym is ∙ ap (λ (p : Place). p.board) (sym same) ∙ w.is)) ∙ w.same.plan) (h x w.was)

-- ---- whatever they were

pub keeps-here : (places : List Place) → KeepsPlans places places
keeps-here places plans h = h

pub keeps-both : (old mid new : List Place) → KeepsPlans old mid → KeepsPlans mid new → KeepsPlans old new
keeps-both old mid new a b plans h = b plans (a plans h)

pub keeps-same : (old new : List Place) → new ≡ old → KeepsPlans old new
keeps-same old new e plans h = plans-same plans old new e h

-- A list as long has something at the same place.
pub get-other : {X Y : Type 0} (xs : List X) (ys : List Y) (n : ℕ) (y : Y) → length ys ≡ length xs → slice_get ys n ≡ Some y → (x : X) × (slice_get xs n ≡ Some x)
get-other [] [] zero y e g = cc
get-other [] [] (suc n) y e g = cc
get-other [] (z ∷ ys) n y e g = absurd (omega arith)
get-other (x ∷ xs) [] n y e g = absurd (omega arith)
get-other (x ∷ xs) (z ∷ ys) zero y e g = (x, refl)
get-other (x ∷ xs) (z ∷ ys) (suc n) y e g = get-other xs ys n y (omega arith) g

-- The place of a number, by what stands there.
abbrev place-by : Option Place → Place
place-by o = unwrap_or o (record { board = None; told = 0 })

-- A boot started each board.
pub keeps-started : (plan : BootPlan) (old new : List Place) (listed : List BoardSeen) → AllStarted plan old new listed → KeepsPlans old new
keeps-started plan old new listed s plans h n b e = here (slice_get new n) refl
  where
    here : (o : Option Place) → slice_get new n ≡ o → HasPlan plans n b
    here None q = absurd (none-some b (ap (λ (o : Option Place). (place-by o).board) (sym q) ∙ e))
    here (Some now) q =
        let p = get-other old new n now s.places q in
        started-planned plans plan n p.0 now new listed b (s.each n p.0 p.1) q (ap (λ (o : Option Place). (place-by o).board) (sym q) ∙ e)
        (λ x w. h n x (ap (λ (o : Option Place). (place-by o).board) p.1 ∙ w))

-- The boards at home have the plans that were picked, as all were at home.
some-plan : (a b : List PlannedFault) → Some a ≡ Some b → a ≡ b
some-plan a b e = cc

picked-first : (o : Option BoardState) (plan : List PlannedFault) → IsSome o → Some (plan_of o) ≡ Some plan → (x : BoardState) × (o ≡ Some x) × (x.plan ≡ plan)
picked-first None plan s e = cc
picked-first (Some b) plan s e = (b, refl, some-plan b.plan plan e)

picked-was : (places : List Place) (n : ℕ) (plan : List PlannedFault) → AllHome places → slice_get (plans_in places) n ≡ Some plan → (x : BoardState) × ((place_at places n).board ≡ Some x) × (x.plan ≡ plan)
picked-was [] zero plan a e = cc
picked-was [] (suc n) plan a e = cc
picked-was (p ∷ ps) zero plan a e = picked-first p.board plan a.0 e
picked-was (p ∷ ps) (suc n) plan a e = picked-was ps n plan a.1 e

pub keeps-picked : (old new : List Place) → AllHome old → HavePlans (plans_in old) new → KeepsPlans old new
keeps-picked old new a p plans h n b e =
    let w = picked-was old n b.plan a (p n b e) in
    h n w.0 w.1 ∙ ap Some w.2
