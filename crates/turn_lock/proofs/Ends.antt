-- The table as it is laid, and what it shows once one seat took in all passes.
use Rattle.std.proofs.Common.{◌≡◌, ◌≢◌, ℕ, zero, suc, ◌^◌, ◌<◌, List, [], ◌∷◌, ◌++◌, All, map, length, sym, refl, ap, ◌∙◌, subst, arith, Option, Some, None, IfSome, append-nil}
use Rattle.std.proofs.lemmas.List.{length-map}
use Rattle.std.proofs.lemmas.List.Elements.{All-weaker, All-cons, All-nil, All-head, All-tail, All-same}
use mathlib.Core.Option as maybe
use mathlib.Core.Option.{some, some-injective, some-ne-none}
use lib.ListN.{get_elem?}
use Rattle.atomic_table.specs.Table.{State, opening, Final, Seen}
use Rattle.turn_lock.specs.declared.view.Knowledge.{Knowledge}
use Rattle.turn_lock.specs.declared.view.SeatView.{SeatView}
use Rattle.turn_lock.specs.declared.view.SeatView.TheVariants.{Opening, Inside}
use Rattle.turn_lock.specs.Lists.{BeginsWith, beyond, made_by}
use Rattle.turn_lock.specs.Shown.{PassView, HasItsEntries}
use Rattle.turn_lock.specs.Views.{accounts_of, account_count, ticket_of, CanTakeIn, knowledge_of}
use Rattle.turn_lock.specs.Rule.{slot_of, list_of, AnswersFor, Fits, TakesTurns}
use Rattle.turn_lock.proofs.Counting.{beyond_append, two-le-sum_by}
use Rattle.turn_lock.proofs.Others.{some_not_none}
use Rattle.turn_lock.proofs.Passes.{answers}

-- what `close` says of the value and of the passes
pub record IsClosed {X E : Type 0} (entries : X → List E) (by : E → ℕ) (seats : ℕ) (start : List E) (passes : List (PassView E)) (x : X) : Type 0 where
  pub begins : BeginsWith (entries x) start
  pub seen : All (λ (p : PassView E). BeginsWith (entries x) p.seen) passes
  pub mine : All (HasItsEntries by start (entries x)) passes
  pub makers : All (λ (e : E). by e < seats) (beyond start (entries x))

module _ {A B : Type 0} (P : B → Type 0) (f : A → B) where
  -- what holds of each image
  All-of_map : (xs : List A) → All P (map f xs) → All (λ (x : A). P (f x)) xs
  All-of_map [] all = All-nil (λ (x : A). P (f x))
  All-of_map (x ∷ xs) all = All-cons (λ (y : A). P (f y)) x xs (All-head P (f x) (map f xs) all) (All-of_map xs (All-tail P (f x) (map f xs) all))

module _ {X E : Type 0} (entries : X → List E) (by : E → ℕ) (seats : ℕ) (start : List E) where
  abbrev St : Type 0
  St = State (Option X) (SeatView E)

  abbrev R : St → Type 0
  R = TakesTurns entries by seats start

  only : (k n : ℕ) (u : SeatView E) → get_elem? (Opening 0 start ∷ []) n ≡ some u → ticket_of u ≡ Some k → ⊥
  only k zero u e t = some_not_none k (sym (ap ticket_of (some-injective (Opening 0 start) u e) ∙ t))
  only k (suc n) u e t = some-ne-none u (sym e)

  only_opener : (x : X) (n : ℕ) (u : SeatView E) → get_elem? (Opening 0 start ∷ []) n ≡ some u
      → Fits by (record { drawn = 0; ended = 0; made = 0; start = start; since = []; home = Some x }) (Opening 0 start ∷ []) n u
  only_opener x zero u e = let P : SeatView E → Type 0 = Fits by (record { drawn = 0; ended = 0; made = 0; start = start; since = []; home = Some x }) (Opening 0 start ∷ []) 0 in
      subst P (some-injective (Opening 0 start) u e) (refl, refl, refl)
  only_opener x (suc n) u e = absurd (some-ne-none u (sym e))

  -- the table at the start
  pub starts : (x : X) → entries x ≡ start → seats < 2 ^ 32 → (bells : List ℕ) → R (opening (0 ∷ 0 ∷ bells) (Some x ∷ []) (Opening 0 start))
  starts x is low bells = record {
    past = record { drawn = 0; ended = 0; made = 0; start = start; since = []; home = Some x };
    start_is = refl;
    bells = bells;
    words = refl;
    slot = refl;
    value = is ∙ sym (append-nil start);
    away = λ gone. absurd (some_not_none x gone);
    out = refl;
    apart = λ i j k v w ei ej ti tj. absurd (only k i v ei ti);
    sized = refl;
    within = (omega arith, low);
    answered = refl;
    each = only_opener x;
    makers = All-nil (λ (e : E). by e < 0);
  }

  -- where a seat answers for all passes, no other is inside, so the value is at home
  home_at_end : (id : ℕ) (v : SeatView E) → CanTakeIn v → length (accounts_of v) ≡ seats → (s : St) (r : R s) → get_elem? s.views id ≡ some v → ¬ (r.past.home ≡ None)
  home_at_end id v can all s r at gone =
      let a = r.away gone in
      let Q : ℕ → Type 0 = λ i. get_elem? s.views i ≡ some (Inside a.1 a.2) in
      let apart : id ≢ a.0 = λ e. let two : Inside a.1 a.2 ≡ v = some-injective (Inside a.1 a.2) v (sym (subst Q (sym e) a.3) ∙ at) in subst CanTakeIn (sym two) can in
      let both = two-le-sum_by account_count s.views id a.0 v (Inside a.1 a.2) apart at a.3 in
      let answered = r.answered in
      let within = r.within in omega arith

  ends_at : (id : ℕ) (v : SeatView E) (ps : List (PassView E)) (xs : List (Option X)) → CanTakeIn v → accounts_of v ≡ map knowledge_of ps → length ps ≡ seats
      → (s : St) (r : R s) → get_elem? s.views id ≡ some v → ((k : ℕ) (y : Option X) → get_elem? s.homes k ≡ some (some y) → get_elem? xs k ≡ some y)
      → (home : Option X) → r.past.home ≡ home
      → (x : X) × (get_elem? xs 0 ≡ some (Some x)) × IsClosed entries by seats start ps x
  ends_at id v ps xs can accounts count s r at vals None is = absurd (home_at_end id v can (ap length accounts ∙ (length-map ps knowledge_of ∙ count)) s r at is)
  ends_at id v ps xs can accounts count s r at vals (Some x) is =
      let t = r.past in
      let within = r.within in
      let homes : s.homes ≡ some (Some x) ∷ [] = r.slot ∙ ap (λ (o : Option X). slot_of o ∷ []) is in
      let stands : entries x ≡ list_of t = let Q : Option X → Type 0 = λ o. IfSome o (λ y. entries y ≡ list_of t) in subst Q is r.value in
      let list : entries x ≡ start ++ t.since = stands ∙ ap (λ (l : List E). l ++ t.since) r.start_is in
      let since : beyond start (entries x) ≡ t.since = ap (λ (l : List E). beyond start l) list ∙ beyond_append start t.since in
      let A : Knowledge E → Type 0 = AnswersFor by t s.views id in
      let all : All (λ (p : PassView E). A (knowledge_of p)) ps = All-of_map A knowledge_of ps (let P : List (Knowledge E) → Type 0 = All A in subst P accounts (answers by t s.views id v can (r.each id v at))) in (
        x,
        vals 0 (Some x) (ap (λ (hs : List (maybe.Option (Option X))). get_elem? hs 0) homes),
        record {
          begins = (t.since, list);
          seen = All-weaker (λ (p : PassView E). A (knowledge_of p)) (λ (p : PassView E). BeginsWith (entries x) p.seen) (λ p a. (a.is_true.seen.0, stands ∙ a.is_true.seen.1)) ps all;
          mine = All-weaker (λ (p : PassView E). A (knowledge_of p)) (HasItsEntries by start (entries x))
              (λ p a. a.is_true.mine ∙ ap (made_by by p.number) (sym since)) ps all;
          makers = All-same (λ (e : E). by e < seats) (beyond start (entries x)) t.since since (All-weaker (λ (e : E). by e < t.made) (λ (e : E). by e < seats) (λ e low. omega arith) t.since r.makers);
        },
      )

  -- the table at the end, once a seat took in all passes
  pub ends : (id : ℕ) (v : SeatView E) (ps : List (PassView E)) (ws : List ℕ) (xs : List (Option X)) → CanTakeIn v → accounts_of v ≡ map knowledge_of ps → length ps ≡ seats
      → Final (Seen R id v) ws xs → (x : X) × (get_elem? xs 0 ≡ some (Some x)) × IsClosed entries by seats start ps x
  ends id v ps ws xs can accounts count z = ends_at id v ps xs can accounts count z.0 z.1.0 z.1.1 z.4 z.1.0.past.home refl
