-- What a step that changes one seat leaves as it is at the others.
use Rattle.std.proofs.Common.{◌≡◌, ◌≢◌, ℕ, ◌+◌, ◌<◌, ◌≤◌, ◌⊎◌, List, ◌++◌, length, set, sym, refl, ap, ◌∙◌, subst, ⊎_elim, inl, inr, arith, Some, None}
use Rattle.std.proofs.lemmas.List.Elements.{All-weaker}
use mathlib.Core.Option.{some, some-injective}
use lib.ListN.{get_elem?}
use Rattle.atomic_table.proofs.Lists.{at_set, set_else}
use Rattle.turn_lock.specs.declared.view.Knowledge.{Knowledge}
use Rattle.turn_lock.specs.declared.view.SeatView.{SeatView}
use Rattle.turn_lock.specs.declared.view.SeatView.TheVariants.{Opening, Idle, Waiting, Inside, Closing, Spent}
use Rattle.turn_lock.specs.Lists.{made_by}
use Rattle.turn_lock.specs.Views.{ticket_of}
use Rattle.turn_lock.specs.Rule.{Past, IsTrueOf, AnswersFor, Fits}

module _ {X : Type 0} where
  pub some_is : (x y : X) → Some x ≡ Some y → x ≡ y
  some_is x y e = cc

  pub some_not_none : (x : X) → Some x ≡ None → ⊥
  some_not_none x e = cc

module _ {E : Type 0} where
  -- a spent seat stays spent where one that is not spent changes
  pub spent_stay : (views : List (SeatView E)) (id : ℕ) (v w : SeatView E) → get_elem? views id ≡ some v → ¬ (v ≡ Spent) → (n : ℕ) → get_elem? views n ≡ some Spent → get_elem? (set views id w) n ≡ some Spent
  spent_stay views id v w at alive n spent = set_else views id n w (λ e. let P : ℕ → Type 0 = λ k. get_elem? views k ≡ some Spent in alive (some-injective v Spent (sym at ∙ subst P e spent))) ∙ spent

  -- what holds of each seat still does, if it holds of the one that changes
  pub seats_stay : (K : ℕ → SeatView E → Type 0) (views : List (SeatView E)) (id : ℕ) (w : SeatView E) → K id w → ((j : ℕ) (u : SeatView E) → j ≢ id → get_elem? views j ≡ some u → K j u)
      → (j : ℕ) (u : SeatView E) → get_elem? (set views id w) j ≡ some u → K j u
  seats_stay K views id w here others j u e = ⊎_elim (λ (t : (j ≡ id) × (w ≡ u)). subst (λ (x : ℕ × SeatView E). K x.0 x.1) (λ i. (sym t.0 i, t.1 i)) here)
      (λ (t : (j ≢ id) × (get_elem? views j ≡ some u)). others j u t.0 t.1) (at_set views id j w u e)

  -- tickets are apart
  abbrev pub Apart : List (SeatView E) → Type 0
  Apart views = (i j k : ℕ) (v w : SeatView E) → get_elem? views i ≡ some v → get_elem? views j ≡ some w → ticket_of v ≡ Some k → ticket_of w ≡ Some k → i ≡ j

  -- and still are, if the changed seat's ticket is no other seat's
  pub apart_stays : (views : List (SeatView E)) → Apart views → (id : ℕ) (w : SeatView E) → ((j k : ℕ) (u : SeatView E) → j ≢ id → get_elem? views j ≡ some u → ticket_of u ≡ Some k → ticket_of w ≡ Some k → ⊥) → Apart (set views id w)
  apart_stays views apart id w alone i j k v u ei ej ti tj =
      let K : ℕ → SeatView E → Type 0 = λ a x. ticket_of x ≡ Some k → a ≡ j in
      seats_stay K views id w
      (λ tw. let L : ℕ → SeatView E → Type 0 = λ b y. ticket_of y ≡ Some k → id ≡ b in seats_stay L views id w (λ _. refl) (λ b y ne at ty. absurd (alone b k y ne at ty tw)) j u ej tj)
      (λ a x ne at tx. let L : ℕ → SeatView E → Type 0 = λ b y. ticket_of y ≡ Some k → a ≡ b in
      seats_stay L views id w (λ tw. absurd (alone a k x ne at tx tw)) (λ b y nb bt ty. apart a b k x y at bt tx ty) j u ej tj)
      i v ei ti

module _ {X E : Type 0} (by : E → ℕ) where
  -- what a seat's view says goes on to be true
  pub stays : (past past' : Past X E) (views views' : List (SeatView E)) (j : ℕ) (u : SeatView E)
      → (j ≡ 0 → past'.made ≡ past.made) → past'.start ≡ past.start
      → ((n : ℕ) → get_elem? views (n + 1) ≡ some Spent → get_elem? views' (n + 1) ≡ some Spent)
      → ((h : Knowledge E) → (j ≡ h.number + 1) ⊎ (get_elem? views (h.number + 1) ≡ some Spent) → IsTrueOf by past h → IsTrueOf by past' h)
      → ((k : ℕ) → ticket_of u ≡ Some k → past.ended ≤ k → k < past.drawn → (past'.ended ≤ k) × (k < past'.drawn))
      → ((k : ℕ) (h : Knowledge E) → u ≡ Inside k h → Fits by past views j (Inside k h) → Fits by past' views' j (Inside k h))
      → Fits by past views j u → Fits by past' views' j u
  stays past past' views views' j (Opening made start) made_is begins spent known ticket inside f = (f.0, f.1 ∙ sym (made_is f.0), f.2 ∙ sym begins)
  stays past past' views views' j (Idle h) made_is begins spent known ticket inside f = (f.0, known h (inl f.0) f.1)
  stays past past' views views' j (Waiting k h) made_is begins spent known ticket inside f = let z = ticket k refl f.2 f.3 in (f.0, known h (inl f.0) f.1, z.0, z.1)
  stays past past' views views' j (Inside k h) made_is begins spent known ticket inside f = inside k h refl f
  stays past past' views views' j (Closing hs) made_is begins spent known ticket inside f =
      All-weaker (AnswersFor by past views j) (AnswersFor by past' views' j)
      (λ h a. record { is_true = known h a.joined a.is_true; joined = ⊎_elim (λ here. inl here) (λ gone. inr (spent h.number gone)) a.joined }) hs f
  stays past past' views views' j Spent made_is begins spent known ticket inside f = tt

  -- a pass knows the truth as long as the list is the same
  pub same_known : (past past' : Past X E) → past'.made ≡ past.made → past'.start ≡ past.start → past'.since ≡ past.since → (h : Knowledge E) → IsTrueOf by past h → IsTrueOf by past' h
  same_known past past' made begins since h o = record {
    number = omega (arith, o.number);
    base = o.base ∙ ap length (sym begins);
    seen = (o.seen.0, ap (λ (l : List E). l ++ past'.since) begins ∙ (ap (λ (l : List E). past.start ++ l) since ∙ o.seen.1));
    mine = o.mine ∙ ap (made_by by h.number) (sym since);
  }

  -- a ticket that is out was drawn, and its turn has not ended
  pub ticket_in : (past : Past X E) (views : List (SeatView E)) (j k : ℕ) (u : SeatView E) → Fits by past views j u → ticket_of u ≡ Some k → (past.ended ≤ k) × (k < past.drawn)
  ticket_in past views j k (Waiting n h) f e = let same : n ≡ k = some_is n k e in (omega (arith, f.2), omega (arith, f.3))
  ticket_in past views j k (Inside n h) f e = let same : n ≡ k = some_is n k e in (omega (arith, f.2), omega (arith, f.3))
  ticket_in past views j k _ f e = absurd (some_not_none k (sym e))
