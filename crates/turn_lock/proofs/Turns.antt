-- Draw, look, pass on and ring keep the rule.
use Rattle.std.proofs.Common.{All, zero, suc, ◌<◌, ◌≤◌, drop, ◌≡◌, ◌≢◌, ℕ, ◌+◌, ◌%◌, ◌^◌, eqb, List, [], ◌∷◌, ◌++◌, get_or, set, sym, refl, ap, ◌∙◌, subst, ⊎_elim, arith, cond, Option, Some, None, IfSome, length-set, append-nil, append_assoc}
use Rattle.std.proofs.lemmas.List.Elements.{filter-append, All-nil, All-cons, All-append, All-weaker}
use Rattle.std.proofs.lemmas.List.Sums.{count_by-le-length}
use mathlib.Core.Logic.{dite}
use mathlib.Core.Option as maybe
use mathlib.Core.Option.{none, some, some-injective}
use native.Mathlib.Decide.{ℕ_discrete}
use lib.ListN.{get_elem?}
use Rattle.atomic_table.specs.Table.{State, Step, keeps, takes, gives, stepped, Allows}
use Rattle.atomic_table.proofs.Lists.{set_here, set_else, set_again, one_turn}
use Rattle.turn_lock.specs.declared.view.Knowledge.{Knowledge}
use Rattle.turn_lock.specs.declared.view.SeatView.{SeatView}
use Rattle.turn_lock.specs.declared.view.SeatView.TheVariants.{Idle, Waiting, Inside, Spent}
use Rattle.turn_lock.specs.Lists.{BeginsWith, made_by, beyond, AddsAtMostOne}
use Rattle.turn_lock.specs.Views.{saw, grown, own_of, account_count, has_ticket, ticket_of}
use Rattle.turn_lock.specs.Steps.{Seated, Draws, Looks, PassesOn, Rings}
use Rattle.turn_lock.specs.Rule.{Past, slot_of, list_of, IsTrueOf, Fits, TakesTurns}
use Rattle.turn_lock.proofs.Counting.{at_within, beyond_append, sum_by-set_at, made_by-own, made_by-other, ring_more}
use Rattle.turn_lock.proofs.Others.{some_is, some_not_none, spent_stay, seats_stay, apart_stays, stays, same_known, ticket_in}

module _ {E : Type 0} where
  abbrev pub tickets : SeatView E → ℕ
  tickets v = cond (has_ticket v) 1 0

module _ {X : Type 0} where
  -- the value in the slot that was taken last
  abbrev carried_value : List (ℕ × Option X) → Option X
  carried_value [] = None
  carried_value (x ∷ xs) = x.1

module _ {X E : Type 0} (entries : X → List E) (by : E → ℕ) (seats : ℕ) (start : List E) where
  abbrev St : Type 0
  St = State (Option X) (SeatView E)

  abbrev R : St → Type 0
  R = TakesTurns entries by seats start

  -- the value is away while a seat is inside, and the ticket of that seat has its turn
  inside_away : (s : St) (r : R s) (j k : ℕ) (h : Knowledge E) → get_elem? s.views j ≡ some (Inside k h) → (k ≡ r.past.ended) × (r.past.home ≡ None)
  inside_away s r j k h at = let f = r.each j (Inside k h) at in (f.2, f.5)

  pub draws : (slots id : ℕ) (me : Seated X E) (h : Knowledge E) → me ≡ (Idle h, []) → (st : Step (Option X)) → Allows R slots id me 0 (λ n. (n + 1) % 2 ^ 64) (Draws st me)
  draws slots id me h is st = let P : Seated X E → Type 0 = λ m. Allows R slots id m 0 (λ n. (n + 1) % 2 ^ 64) (Draws st m) in subst P (sym is) (λ s r sized at fits.
      let t = r.past in
      let t' : Past X E = record t { drawn = t.drawn + 1 } in
      let w : SeatView E = Waiting t.drawn h in
      let f = r.each id (Idle h) at in
      let count = sum_by-set_at tickets s.views id (Idle h) w at in
      let answered = sum_by-set_at account_count s.views id (Idle h) w at in
      let word : get_or s.words 0 0 ≡ t.drawn % 2 ^ 64 = ap (λ (ws : List ℕ). get_or ws 0 0) r.words in
      let out = r.out in
      let was = r.answered in
      let alive : ¬ (Idle h ≡ Spent) = λ e. cc in
      let known : (g : Knowledge E) → IsTrueOf by t g → IsTrueOf by t' g = same_known by t t' refl refl refl in (
        w,
        keeps,
        tt,
        record {
          past = t';
          start_is = r.start_is;
          bells = r.bells;
          words = let Q : List ℕ → Type 0 = λ ws. set ws 0 ((get_or ws 0 0 + 1) % 2 ^ 64) ≡ ((t.drawn + 1) % 2 ^ 64) ∷ (t.ended % 2 ^ 64) ∷ r.bells in
              subst Q (sym r.words) (ap (λ (n : ℕ). n ∷ (t.ended % 2 ^ 64) ∷ r.bells) (ring_more t.drawn));
          slot = r.slot;
          value = r.value;
          away = λ gone. let a = r.away gone in (
            a.0,
            a.1,
            a.2,
            set_else s.views id a.0 w (λ e. let Q : ℕ → Type 0 = λ i. get_elem? s.views i ≡ some (Inside a.1 a.2) in
                let two : Inside a.1 a.2 ≡ Idle h = some-injective (Inside a.1 a.2) (Idle h) (sym (subst Q e a.3) ∙ at) in cc) ∙ a.3,
          );
          out = omega arith;
          apart = apart_stays s.views r.apart id w (λ j k u ne ju tu tw. let z = ticket_in by t s.views j k u (r.each j u ju) tu in let same : t.drawn ≡ k = some_is t.drawn k tw in omega arith);
          sized = length-set s.views id w ∙ r.sized;
          within = r.within;
          answered = omega arith;
          each = seats_stay (Fits by t' (set s.views id w)) s.views id w (f.0, known h f.1, omega arith, omega arith)
              (λ j u ne ju. stays by t t' s.views (set s.views id w) j u (λ _. refl) refl (λ n. spent_stay s.views id (Idle h) w at alive (n + 1)) (λ g _ o. known g o)
              (λ k _ low high. (low, omega arith)) (λ k g _ z. (z.0, known g z.1, z.2, omega (arith, z.3), z.4, z.5)) (r.each j u ju));
          makers = r.makers;
        },
        (λ h' e. (t.drawn, sym word, ap (λ (x : Seated X E). (Waiting t.drawn (own_of x.0), [])) e)),
      ))

  -- the value is at home where a waiting seat's turn comes
  home_comes : (s : St) (r : R s) (id k : ℕ) (h : Knowledge E) → get_elem? s.views id ≡ some (Waiting k h) → k ≡ r.past.ended → ¬ (r.past.home ≡ None)
  home_comes s r id k h at now gone = let a = r.away gone in
      let in_turn = inside_away s r a.0 a.1 a.2 a.3 in
      let one : a.0 ≡ id = r.apart a.0 id k (Inside a.1 a.2) (Waiting k h) a.3 at (ap (λ (n : ℕ). Some n) (in_turn.0 ∙ sym now)) refl in
      let Q : ℕ → Type 0 = λ i. get_elem? s.views i ≡ some (Inside a.1 a.2) in
      let two : Inside a.1 a.2 ≡ Waiting k h = some-injective (Inside a.1 a.2) (Waiting k h) (sym (subst Q one a.3) ∙ at) in cc

  -- a ticket that is out is no more than 2 ^ 64 past the turns ended, so its remainder tells its turn
  its_turn : (s : St) (r : R s) (id k : ℕ) (h : Knowledge E) → get_elem? s.views id ≡ some (Waiting k h) → get_or s.words 1 0 ≡ k % 2 ^ 64 → k ≡ r.past.ended
  its_turn s r id k h at e =
      let t = r.past in
      let f = r.each id (Waiting k h) at in
      let word : get_or s.words 1 0 ≡ t.ended % 2 ^ 64 = ap (λ (ws : List ℕ). get_or ws 1 0) r.words in
      let few = count_by-le-length has_ticket s.views in
      let sized = r.sized in
      let within = r.within in
      let out = r.out in
      sym (one_turn t.ended k 18446744073709551616 f.2 (omega (arith, f.3)) (sym word ∙ e))

  same_words : (ws : List ℕ) (a b : ℕ) (bells : List ℕ) → ws ≡ a ∷ b ∷ bells → set ws 1 (get_or ws 1 0) ≡ a ∷ b ∷ bells
  same_words ws a b bells e = let Q : List ℕ → Type 0 = λ us. set us 1 (get_or us 1 0) ≡ a ∷ b ∷ bells in subst Q (sym e) refl

  -- the turn has come: the value goes out
  comes : (slots id k : ℕ) (h : Knowledge E) (s : St) (r : R s) (at : get_elem? s.views id ≡ some (Waiting k h)) → k ≡ r.past.ended
      → (home : Option X) → r.past.home ≡ home
      → (x : X) × (get_elem? s.homes 0 ≡ some (some (Some x))) × R (stepped s 1 (get_or s.words 1 0) id [] (Inside k (saw h (entries x))) (takes 0 (Some x))) × BeginsWith (entries x) h.seen × (h.mine ≡ made_by by h.number (drop h.base (entries x)))
  comes slots id k h s r at now None is = absurd (home_comes s r id k h at now is)
  comes slots id k h s r at now (Some x) is =
      let t = r.past in
      let t' : Past X E = record t { home = None } in
      let stands : entries x ≡ list_of t = let Q : Option X → Type 0 = λ o. IfSome o (λ y. entries y ≡ list_of t) in subst Q is r.value in
      let homes : s.homes ≡ some (Some x) ∷ [] = r.slot ∙ ap (λ (o : Option X). slot_of o ∷ []) is in
      let f = r.each id (Waiting k h) at in
      let w : SeatView E = Inside k (saw h (entries x)) in
      let known : (g : Knowledge E) → IsTrueOf by t g → IsTrueOf by t' g = same_known by t t' refl refl refl in
      let mine : IsTrueOf by t' (saw h (entries x)) = record { number = f.1.number; base = f.1.base; seen = ([], sym (append-nil (entries x) ∙ stands)); mine = f.1.mine } in
      let alive : ¬ (Waiting k h ≡ Spent) = λ e. cc in
      let count = sum_by-set_at tickets s.views id (Waiting k h) w at in
      let answered = sum_by-set_at account_count s.views id (Waiting k h) w at in
      let out = r.out in
      let was = r.answered in (
        x,
        ap (λ (hs : List (maybe.Option (Option X))). get_elem? hs 0) homes,
        record {
          past = t';
          start_is = r.start_is;
          bells = r.bells;
          words = same_words s.words _ _ _ r.words;
          slot = let Q : List (maybe.Option (Option X)) → Type 0 = λ hs. set hs 0 none ≡ none ∷ [] in subst Q (sym homes) refl;
          value = tt;
          away = λ _. (id, k, saw h (entries x), set_here s.views id w (at_within s.views id (Waiting k h) at));
          out = omega arith;
          apart = apart_stays s.views r.apart id w (λ j n u ne ju tu tw. ne (r.apart j id n u (Waiting k h) ju at tu tw));
          sized = length-set s.views id w ∙ r.sized;
          within = r.within;
          answered = omega arith;
          each = seats_stay (Fits by t' (set s.views id w)) s.views id w (f.0, mine, now, f.3, stands, refl)
              (λ j u ne ju. stays by t t' s.views (set s.views id w) j u (λ _. refl) refl (λ n. spent_stay s.views id (Waiting k h) w at alive (n + 1)) (λ g _ o. known g o)
              (λ n _ low high. (low, high)) (λ n g _ z. (z.0, known g z.1, z.2, z.3, z.4, refl)) (r.each j u ju));
          makers = r.makers;
        },
        (f.1.seen.0, stands ∙ f.1.seen.1),
        f.1.mine ∙ ap (made_by by h.number) (sym (ap (drop h.base) stands ∙ (ap (λ (n : ℕ). drop n (list_of t)) f.1.base ∙ beyond_append t.start t.since))),
      )

  pub looks : (slots id : ℕ) (me : Seated X E) (k : ℕ) (h : Knowledge E) → me ≡ (Waiting k h, []) → (st : Step (Option X)) → Allows R slots id me 1 (λ n. n) (Looks entries by st me)
  looks slots id me k h is st = let P : Seated X E → Type 0 = λ m. Allows R slots id m 1 (λ n. n) (Looks entries by st m) in subst P (sym is) (λ s r sized at fits.
      let n = get_or s.words 1 0 in
      let same_seat : (k' : ℕ) (h' : Knowledge E) → (Waiting k h, []) ≡ (Waiting k' h', []) → (k ≡ k') × (h ≡ h') = λ k' h' e. (some_is k k' (ap (λ (x : Seated X E). ticket_of x.0) e), ap (λ (x : Seated X E). own_of x.0) e) in
      dite (ℕ_discrete n (k % 2 ^ 64))
      (λ e. let z = comes slots id k h s r at (its_turn s r id k h at e) r.past.home refl in (
        Inside k (saw h (entries z.0)),
        takes 0 (Some z.0),
        z.1,
        z.2,
        (λ k' h' same. let i = same_seat k' h' same in (
          (λ _. (
            z.0,
            record {
              value = (k, ap (λ (g : Knowledge E). (Inside k (saw g (entries z.0)), (0, Some z.0) ∷ [])) i.1);
              begins = (z.3.0, z.3.1 ∙ ap (λ (g : Knowledge E). g.seen ++ z.3.0) i.1);
              mine = let S : Knowledge E → Type 0 = λ g. g.mine ≡ made_by by g.number (drop g.base (entries z.0)) in subst S i.1 z.4;
            },
          )),
          (λ no. absurd (no (e ∙ ap (λ (m : ℕ). m % 2 ^ 64) i.0))),
        )),
      ))
      (λ no. (
        Waiting k h,
        keeps,
        tt,
        (let still : stepped s 1 n id [] (Waiting k h) keeps ≡ s = λ i. record { words = (same_words s.words _ _ _ r.words ∙ sym r.words) i; homes = s.homes; views = set_again s.views id (Waiting k h) at i } in
            subst R (sym still) r),
        (λ k' h' same. let i = same_seat k' h' same in ((λ e. absurd (no (e ∙ ap (λ (m : ℕ). m % 2 ^ 64) (sym i.0)))), (λ _. refl))),
      )))

  -- the entries are all of this number
  record AreOf (number : ℕ) (more : List E) : Type 0 where
    all : All (λ (e : E). by e ≡ number) more
    own : made_by by number more ≡ more
    others : (m : ℕ) → m ≢ number → made_by by m more ≡ []

  -- the turn ends, with what the list has beyond what the seat saw
  ends_turn : (slots id k : ℕ) (h : Knowledge E) (x : X) (more : List E) → entries x ≡ h.seen ++ more → AreOf h.number more → (st : Step (Option X))
      → Allows R slots id (Inside k h, (0, Some x) ∷ []) 1 (λ n. (n + 1) % 2 ^ 64) (PassesOn entries st (Inside k h, (0, Some x) ∷ []))
  ends_turn slots id k h x more is one st s r sized at fits =
      let t = r.past in
      let f = r.each id (Inside k h) at in
      let t' : Past X E = record t { ended = t.ended + 1; since = t.since ++ more; home = Some x } in
      let w : SeatView E = Idle (grown h (entries x)) in
      let out = r.out in
      let was = r.answered in
      let count = sum_by-set_at tickets s.views id (Inside k h) w at in
      let answered = sum_by-set_at account_count s.views id (Inside k h) w at in
      let alive : ¬ (Inside k h ≡ Spent) = λ e. cc in
      let list_is : entries x ≡ list_of t' = is ∙ (ap (λ (l : List E). l ++ more) f.4 ∙ append_assoc t.start t.since more) in
      let other : (g : Knowledge E) → g.number ≢ h.number → IsTrueOf by t g → IsTrueOf by t' g = λ g ne o. record {
        number = o.number;
        base = o.base;
        seen = (o.seen.0 ++ more, sym (append_assoc t.start t.since more) ∙ (ap (λ (l : List E). l ++ more) o.seen.1 ∙ append_assoc g.seen o.seen.0 more));
        mine = o.mine ∙ (sym (append-nil (made_by by g.number t.since)) ∙ (ap (λ (l : List E). made_by by g.number t.since ++ l) (sym (one.others g.number ne)) ∙ sym (filter-append (λ e. eqb (by e) g.number) t.since more)));
      } in
      let mine : IsTrueOf by t' (grown h (entries x)) = record {
        number = f.1.number;
        base = f.1.base;
        seen = ([], sym (append-nil (entries x) ∙ list_is));
        mine = ap (λ (l : List E). h.mine ++ l) (ap (beyond h.seen) is ∙ beyond_append h.seen more)
            ∙ (ap (λ (l : List E). l ++ more) f.1.mine ∙ (ap (λ (l : List E). made_by by h.number t.since ++ l) (sym one.own) ∙ sym (filter-append (λ e. eqb (by e) h.number) t.since more)));
      } in
      let homes : s.homes ≡ none ∷ [] = r.slot ∙ ap (λ (o : Option X). slot_of o ∷ []) f.5 in (
        w,
        gives,
        tt,
        record {
          past = t';
          start_is = r.start_is;
          bells = r.bells;
          words = let Q : List ℕ → Type 0 = λ ws. set ws 1 ((get_or ws 1 0 + 1) % 2 ^ 64) ≡ (t.drawn % 2 ^ 64) ∷ ((t.ended + 1) % 2 ^ 64) ∷ r.bells in
              subst Q (sym r.words) (ap (λ (n : ℕ). (t.drawn % 2 ^ 64) ∷ n ∷ r.bells) (ring_more t.ended));
          slot = let Q : List (maybe.Option (Option X)) → Type 0 = λ hs. set hs 0 (some (Some x)) ≡ some (Some x) ∷ [] in subst Q (sym homes) refl;
          value = list_is;
          away = λ gone. absurd (some_not_none x gone);
          out = omega arith;
          apart = apart_stays s.views r.apart id w (λ j n u ne ju tu tw. some_not_none n (sym tw));
          sized = length-set s.views id w ∙ r.sized;
          within = r.within;
          answered = omega arith;
          each = seats_stay (Fits by t' (set s.views id w)) s.views id w (f.0, mine)
              (λ j u ne ju. stays by t t' s.views (set s.views id w) j u (λ _. refl) refl (λ n. spent_stay s.views id (Inside k h) w at alive (n + 1))
              (λ g way o. other g (λ same. ⊎_elim (λ here. ne (here ∙ (ap (λ (n : ℕ). n + 1) same ∙ sym f.0)))
              (λ gone. let Q : ℕ → Type 0 = λ i. get_elem? s.views i ≡ some Spent in
              alive (some-injective (Inside k h) Spent (sym at ∙ subst Q (ap (λ (n : ℕ). n + 1) same ∙ sym f.0) gone))) way) o)
              (λ n tu low high. let apart : n ≢ t.ended = λ e. ne (r.apart j id n u (Inside k h) ju at tu (ap (λ (i : ℕ). Some i) (f.2 ∙ sym e))) in (omega arith, high))
              (λ n g same z. absurd (ne (r.apart j id n u (Inside k h) ju at (ap ticket_of same) (ap (λ (i : ℕ). Some i) (f.2 ∙ sym z.2))))) (r.each j u ju));
          makers = let P : E → Type 0 = λ e. by e < t.made in All-append P t.since more r.makers (All-weaker (λ (e : E). by e ≡ h.number) P (λ e is. let o = f.1.number in omega arith) more one.all);
        },
        (λ h' x' same. let hand_is : h ≡ h' = ap (λ (m : Seated X E). own_of m.0) same.1 in
            let Q : Seated X E → Option X = λ m. carried_value m.1 in
            let value_is : x ≡ x' = some_is x x' (ap Q same.1) in λ i. (Idle (grown (hand_is i) (entries (value_is i))), [])),
      )

  pub passes_on : (slots id : ℕ) (me : Seated X E) (k : ℕ) (h : Knowledge E) (x : X) → me ≡ (Inside k h, (0, Some x) ∷ []) → AddsAtMostOne by h.number h.seen (entries x) → (st : Step (Option X))
      → Allows R slots id me 1 (λ n. (n + 1) % 2 ^ 64) (PassesOn entries st me)
  passes_on slots id me k h x is adds st = let P : Seated X E → Type 0 = λ m. Allows R slots id m 1 (λ n. (n + 1) % 2 ^ 64) (PassesOn entries st m) in subst P (sym is)
      (⊎_elim
      (λ same. ends_turn slots id k h x [] (same ∙ sym (append-nil h.seen)) (record { all = All-nil (λ (e : E). by e ≡ h.number); own = refl; others = λ m _. refl }) st)
      (λ more. ends_turn slots id k h x (more.0 ∷ []) more.2 (record { all = All-cons (λ (e : E). by e ≡ h.number) more.0 [] more.1 (All-nil (λ (e : E). by e ≡ h.number)); own = made_by-own by h.number more.0 more.1; others = λ m ne. made_by-other by m h.number more.0 more.1 ne }) st)
      adds)

  -- a word past the two that count
  bells_change : (ws : List ℕ) (a b : ℕ) (bells : List ℕ) (word n : ℕ) → 2 ≤ word → ws ≡ a ∷ b ∷ bells → (after : List ℕ) × (set ws word n ≡ a ∷ b ∷ after)
  bells_change ws a b bells zero n low is = absurd (omega arith)
  bells_change ws a b bells (suc zero) n low is = absurd (omega arith)
  bells_change ws a b bells (suc (suc i)) n low is = (set bells i n, ap (λ (us : List ℕ). set us (suc (suc i)) n) is)

  -- a bell may get any number
  pub rings : (slots id word : ℕ) (me : Seated X E) (f : ℕ → ℕ) → 2 ≤ word → (st : Step (Option X)) → Allows R slots id me word f (Rings st me)
  rings slots id word me f low st = λ s r sized at fits.
      let n = f (get_or s.words word 0) in
      let changed = bells_change s.words _ _ r.bells word n low r.words in
      let rung : St = record { words = set s.words word n; homes = s.homes; views = s.views } in
      let kept : R rung = record {
        past = r.past;
        start_is = r.start_is;
        bells = changed.0;
        words = changed.1;
        slot = r.slot;
        value = r.value;
        away = r.away;
        out = r.out;
        apart = r.apart;
        sized = r.sized;
        within = r.within;
        answered = r.answered;
        each = r.each;
        makers = r.makers;
      } in
      let same : rung ≡ stepped s word n id me.1 me.0 keeps = λ i. record { words = set s.words word n; homes = s.homes; views = sym (set_again s.views id me.0 at) i } in
      (me.0, keeps, tt, subst R same kept, refl)
