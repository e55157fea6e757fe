-- Split and join keep the rule.
use Rattle.std.proofs.Common.{◌≡◌, ◌≢◌, ℕ, ◌+◌, ◌<◌, List, [], ◌∷◌, ◌++◌, All, length, set, sym, refl, ap, ◌∙◌, subst, ⊎_elim, inl, inr, arith, Option, Some, length-set, length-append}
use Rattle.std.proofs.lemmas.List.Elements.{All-cons, All-nil, All-weaker}
use Rattle.std.proofs.lemmas.List.Sums.{sum_by_push}
use mathlib.Core.Option.{some, some-injective}
use lib.ListN.{get_elem?}
use Rattle.atomic_table.specs.Table.{State, Splits, Joins}
use Rattle.atomic_table.proofs.Lists.{at_set, set_here, set_else, at_longer}
use Rattle.turn_lock.specs.declared.view.Knowledge.{Knowledge}
use Rattle.turn_lock.specs.declared.view.SeatView.{SeatView}
use Rattle.turn_lock.specs.declared.view.SeatView.TheVariants.{Opening, Idle, Inside, Closing, Spent}
use Rattle.turn_lock.specs.Views.{knows, accounts_of, account_count, ticket_of, one_more_made, next_pass, CanTakeIn, taken_in}
use Rattle.turn_lock.specs.Rule.{Past, IsTrueOf, AnswersFor, Fits, TakesTurns}
use Rattle.turn_lock.proofs.Counting.{at_within, at_end, sum_by-set_at, made_by-past}
use Rattle.turn_lock.proofs.Others.{some_not_none, spent_stay, seats_stay, apart_stays, stays}
use Rattle.turn_lock.proofs.Turns.{tickets}

module _ {X E : Type 0} (by : E → ℕ) where
  -- a seat that can take in passes answers for each of its own
  pub answers : (past : Past X E) (views : List (SeatView E)) (seat : ℕ) (v : SeatView E) → CanTakeIn v → Fits by past views seat v → All (AnswersFor by past views seat) (accounts_of v)
  answers past views seat (Idle h) can f = All-cons (AnswersFor by past views seat) h [] (record { is_true = f.1; joined = inl f.0 }) (All-nil (AnswersFor by past views seat))
  answers past views seat (Closing hs) can f = f
  answers past views seat _ can f = absurd can

module _ {E : Type 0} where
  no_ticket : (v : SeatView E) → CanTakeIn v → tickets v ≡ 0
  no_ticket (Idle h) can = refl
  no_ticket (Closing hs) can = refl
  no_ticket _ can = absurd can

module _ {X E : Type 0} (entries : X → List E) (by : E → ℕ) (seats : ℕ) (start : List E) where
  abbrev St : Type 0
  St = State (Option X) (SeatView E)

  abbrev R : St → Type 0
  R = TakesTurns entries by seats start

  -- the next pass is made
  pub splits : (id made : ℕ) (begin : List E) → made < seats → Splits R id (Opening made begin) (one_more_made (Opening made begin)) (next_pass (Opening made begin))
  splits id made begin room s r at =
      let t = r.past in
      let t' : Past X E = record t { made = t.made + 1 } in
      let left : SeatView E = Opening (made + 1) begin in
      let right : SeatView E = Idle (knows made (length begin) begin []) in
      let longer = set s.views id left in
      let views = longer ++ right ∷ [] in
      let f = r.each id (Opening made begin) at in
      let within = r.within in
      let alive : ¬ (Opening made begin ≡ Spent) = λ e. cc in
      let known : (g : Knowledge E) → IsTrueOf by t g → IsTrueOf by t' g = λ g o. record { number = omega (arith, o.number); base = o.base; seen = o.seen; mine = o.mine } in
      let fresh : IsTrueOf by t' (knows made (length begin) begin []) = record { number = omega (arith, f.1); base = ap length f.2; seen = (t.since, ap (λ (l : List E). l ++ t.since) (sym f.2)); mine = sym (made_by-past by t.made made t.since (omega (arith, f.1)) r.makers) } in
      let width : length longer ≡ t.made + 1 = length-set s.views id left ∙ r.sized in
      let count = sum_by-set_at tickets s.views id (Opening made begin) left at in
      let more = sum_by_push tickets longer right in
      let out = r.out in
      let answered = sum_by-set_at account_count s.views id (Opening made begin) left at in
      let one_more = sum_by_push account_count longer right in
      let was = r.answered in
      let spent : (n : ℕ) → get_elem? s.views (n + 1) ≡ some Spent → get_elem? views (n + 1) ≡ some Spent = λ n e. at_longer longer (right ∷ []) (n + 1) Spent (spent_stay s.views id (Opening made begin) left at alive (n + 1) e) in
      record {
        past = t';
        start_is = r.start_is;
        bells = r.bells;
        words = r.words;
        slot = r.slot;
        value = r.value;
        away = λ gone. let a = r.away gone in (
          a.0,
          a.1,
          a.2,
          at_longer longer (right ∷ []) a.0 (Inside a.1 a.2) (set_else s.views id a.0 left (λ e. let Q : ℕ → Type 0 = λ i. get_elem? s.views i ≡ some (Inside a.1 a.2) in
              let two : Inside a.1 a.2 ≡ Opening made begin = some-injective (Inside a.1 a.2) (Opening made begin) (sym (subst Q e a.3) ∙ at) in cc) ∙ a.3),
        );
        out = omega arith;
        apart = λ i j k v u ei ej ti tj. ⊎_elim
            (λ here. ⊎_elim (λ there. apart_stays s.views r.apart id left (λ a n x ne ax tx tw. some_not_none n (sym tw)) i j k v u here there ti tj)
            (λ last. absurd (some_not_none k (sym (ap ticket_of last.1 ∙ tj)))) (at_end longer right u j ej))
            (λ last. absurd (some_not_none k (sym (ap ticket_of last.1 ∙ ti)))) (at_end longer right v i ei);
        sized = length-append longer (right ∷ []) ∙ ap (λ (n : ℕ). n + 1) width;
        within = (omega (arith, f.1), within.1);
        answered = omega arith;
        each = λ j u e. ⊎_elim
            (λ here. seats_stay (Fits by t' views) s.views id left (f.0, ap (λ (n : ℕ). n + 1) f.1, f.2)
            (λ i v ne iv. stays by t t' s.views views i v (λ zero_is. absurd (ne (zero_is ∙ sym f.0))) refl spent (λ g _ o. known g o)
            (λ k _ low high. (low, high)) (λ k g _ z. (z.0, known g z.1, z.2, z.3, z.4, z.5)) (r.each i v iv)) j u here)
            (λ last. let P : SeatView E → Type 0 = λ v. Fits by t' views j v in subst P last.1 (last.0 ∙ (width ∙ ap (λ (n : ℕ). n + 1) (sym f.1)), fresh)) (at_end longer right u j e);
        makers = All-weaker (λ (e : E). by e < t.made) (λ (e : E). by e < t.made + 1) (λ e low. omega arith) t.since r.makers;
      }

  -- a seat takes in a pass
  pub joins : (id other : ℕ) (v : SeatView E) (h : Knowledge E) → CanTakeIn v → Joins R id v other (Idle h) (taken_in v (Idle h)) Spent
  joins id other v h can s r at ne there =
      let t = r.past in
      let both : SeatView E = Closing (h ∷ accounts_of v) in
      let once = set s.views id both in
      let views = set once other Spent in
      let was : get_elem? s.views other ≡ some (Idle h) = sym (set_else s.views id other both ne) ∙ there in
      let alive : ¬ (v ≡ Spent) = λ e. subst CanTakeIn e can in
      let alive' : ¬ (Idle h ≡ Spent) = λ e. cc in
      let none_out = no_ticket v can in
      let count = sum_by-set_at tickets s.views id v both at in
      let more = sum_by-set_at tickets once other (Idle h) Spent there in
      let out = r.out in
      let answered = sum_by-set_at account_count s.views id v both at in
      let answered' = sum_by-set_at account_count once other (Idle h) Spent there in
      let for_all = r.answered in
      let spent : (n : ℕ) → get_elem? s.views (n + 1) ≡ some Spent → get_elem? views (n + 1) ≡ some Spent =
      λ n e. spent_stay once other (Idle h) Spent there alive' (n + 1) (spent_stay s.views id v both at alive (n + 1) e) in
      let back : (i k : ℕ) (u : SeatView E) → get_elem? views i ≡ some u → ticket_of u ≡ Some k → get_elem? s.views i ≡ some u = λ i k u e tu.
      ⊎_elim (λ gone. absurd (some_not_none k (sym (ap ticket_of gone.1 ∙ tu))))
      (λ old. ⊎_elim (λ mine. absurd (some_not_none k (sym (ap ticket_of mine.1 ∙ tu)))) (λ same. same.1) (at_set s.views id i both u old.1))
      (at_set once other i Spent u e) in
      let f = r.each id v at in
      let g = r.each other (Idle h) was in
      record {
        past = t;
        start_is = r.start_is;
        bells = r.bells;
        words = r.words;
        slot = r.slot;
        value = r.value;
        away = λ gone. let a = r.away gone in
            let Q : ℕ → Type 0 = λ i. get_elem? s.views i ≡ some (Inside a.1 a.2) in
            let here : a.0 ≢ id = λ e. let two : Inside a.1 a.2 ≡ v = some-injective (Inside a.1 a.2) v (sym (subst Q e a.3) ∙ at) in subst CanTakeIn (sym two) can in
            let over : a.0 ≢ other = λ e. let two : Inside a.1 a.2 ≡ Idle h = some-injective (Inside a.1 a.2) (Idle h) (sym (subst Q e a.3) ∙ was) in cc in
            (a.0, a.1, a.2, set_else once other a.0 Spent over ∙ (set_else s.views id a.0 both here ∙ a.3));
        out = omega arith;
        apart = λ i j k x y ei ej ti tj. r.apart i j k x y (back i k x ei ti) (back j k y ej tj) ti tj;
        sized = length-set once other Spent ∙ (length-set s.views id both ∙ r.sized);
        within = r.within;
        answered = omega arith;
        each = seats_stay (Fits by t views) once other Spent tt
            (λ j u apart. let K : ℕ → SeatView E → Type 0 = λ i x. i ≢ other → Fits by t views i x in
            λ e. seats_stay K s.views id both
            (λ _. All-cons (AnswersFor by t views id) h (accounts_of v)
            (record { is_true = g.1; joined = inr (let P : ℕ → Type 0 = λ n. get_elem? views n ≡ some Spent in subst P g.0 (set_here once other Spent (at_within once other (Idle h) there))) })
            (All-weaker (AnswersFor by t s.views id) (AnswersFor by t views id) (λ q a. record { is_true = a.is_true; joined = ⊎_elim (λ own. inl own) (λ gone. inr (spent q.number gone)) a.joined }) (accounts_of v) (answers by t s.views id v can f)))
            (λ i x ni ix no. stays by t t s.views views i x (λ _. refl) refl spent (λ _ _ o. o) (λ k _ low high. (low, high)) (λ k q _ z. z) (r.each i x ix))
            j u e apart);
        makers = r.makers;
      }
