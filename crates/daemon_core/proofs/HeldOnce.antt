-- What is out, is out once: a client has one hold at most, or a live entry, and an entry is live once.
use Rattle.std.proofs.Common.{◌≡◌, ℕ, suc, Bool, true, false, not, List, [], ◌∷◌, ◌++◌, refl, ap, sym, ◌∙◌, subst, ◌≤◌, ◌+◌, arith, length}
use Rattle.std.specs.Prelude.{Some, None, ◌==◌, find, filter, sum_by}
use Rattle.std.specs.List.{AllByRecursion, list_any}
use Rattle.std.proofs.lemmas.Bool.{eqb-true, eq-eqb}
use Rattle.std.proofs.lemmas.List.Sums.{sum_by-cons}
use Rattle.history_keeper.specs.declared.row.RowState.{RowState}
use Rattle.history_keeper.specs.Histories.{IsHistory}
use Rattle.update_log.proofs.LegalOnce.{live-others, past-kept}
use Rattle.update_log.proofs.Lists.{All-filter, All-map, All-push, by_test, eqb-other, find-filter_none, find-push_other}
use Rattle.update_log.proofs.MarksKept.{filter-fewer, how_many-append}
use Rattle.update_log.proofs.Rows.{accepted-claim}
use Rattle.update_log.specs.Holding.{blocks_fetched, blocks_fetched_if, hold, holds, live, without_client, without_entry}
use Rattle.update_log.specs.Known.{rows, target, views}
use Rattle.update_log.specs.Legal.{Allowed, IsLegal, next_entry}
use Rattle.update_log.specs.Once.{how_many, is_pending, takes}
use Rattle.update_log.specs.Shows.{Campaign}
use Rattle.update_log.specs.Verdicts.{verdict}
use Rattle.update_log.specs.declared.answer.AskAnswer.{AskAnswer}
use Rattle.update_log.specs.declared.answer.ClaimAnswer.{ClaimAnswer}
use Rattle.update_log.specs.declared.answer.ResumeAnswer.{ResumeAnswer}
use Rattle.update_log.specs.declared.decision.Stage.{Stage}
use Rattle.update_log.specs.declared.event.Back.{Back}
use Rattle.update_log.specs.declared.event.Event.{Event}
use Rattle.update_log.specs.declared.live.Held.{Held}
use Rattle.update_log.specs.declared.live.LiveEntry.{LiveEntry}
use Rattle.daemon_core.proofs.OwedLists.{filter-all}

-- What is out once.
pub record OutOnce (past : List Event) : Type 0 where
  pub holds_once : (client : ℕ) → how_many (λ (h : Held). h.client == client) (holds past) ≤ 1
  pub live_once : (entry : ℕ) → how_many (λ (l : LiveEntry). l.entry == entry) (live past) ≤ 1
  pub apart : AllByRecursion (λ (l : LiveEntry). hold past l.client ≡ None) (live past)

none-found : {X : Type 0} (p q : X → Bool) (xs : List X) → find p xs ≡ None → find p (filter q xs) ≡ None
none-found p q [] h = refl
none-found p q (x ∷ xs) h =
    by_test (p x) _
    (λ t. let bad : Some x ≡ None = rw t at h in cc)
    (λ t. let rest : find p (filter q xs) ≡ None = none-found p q xs (rw t at h) in by_test (q x) _ (λ u. rw (u, t) rest) (λ u. rw u rest))

none-left : {X : Type 0} (p : X → Bool) (xs : List X) → how_many p (filter (λ x. not (p x)) xs) ≡ 0
none-left p [] = refl
none-left p (x ∷ xs) =
    let rest : how_many p (filter (λ x. not (p x)) xs) ≡ 0 = none-left p xs in
    by_test (p x) _ (λ t. rw t rest) (λ t. rw (t, t) rest)

none-many : {X : Type 0} (p : X → Bool) (xs : List X) → AllByRecursion (λ x. p x ≡ false) xs → how_many p xs ≡ 0
none-many p [] a = refl
none-many p (x ∷ xs) a = let h : p x ≡ false = a.0 in rw h (none-many p xs a.1)

one-many : {X : Type 0} (p : X → Bool) (x : X) → how_many p (x ∷ []) ≤ 1
one-many p x = by_test (p x) _ (λ t. rw t (omega arith)) (λ t. rw t (omega arith))

other-many : {X : Type 0} (p : X → Bool) (x : X) → p x ≡ false → how_many p (x ∷ []) ≡ 0
other-many p x h = rw h refl

-- a client gets a hold, of whom none was left
held-once : (hs : List Held) (h : Held) (client : ℕ) → ((c : ℕ) → how_many (λ (x : Held). x.client == c) hs ≤ 1) → h.client ≡ client → (c : ℕ) → how_many (λ (x : Held). x.client == c) (without_client client hs ++ h ∷ []) ≤ 1
held-once hs h client k own c =
    let sum = how_many-append (λ (x : Held). x.client == c) (without_client client hs) (h ∷ []) in
    let fewer = filter-fewer (λ (x : Held). not (x.client == client)) (λ (x : Held). x.client == c) hs in
    let one = one-many (λ (x : Held). x.client == c) h in
    by_test (client == c) _
    (λ t. let s : client ≡ c = eqb-true client c t in
    let none : how_many (λ (x : Held). x.client == client) (without_client client hs) ≡ 0 = none-left (λ (x : Held). x.client == client) hs in
    let none' : how_many (λ (x : Held). x.client == c) (without_client client hs) ≡ 0 = subst (λ (n : ℕ). how_many (λ (x : Held). x.client == n) (without_client client hs) ≡ 0) s none in
    omega (arith, sum, none', one))
    (λ t. let f : (h.client == c) ≡ false = ap (λ (n : ℕ). n == c) own ∙ t in
    let none = other-many (λ (x : Held). x.client == c) h f in
    omega (arith, sum, fewer, none, k c))

fewer-holds : (hs : List Held) (client : ℕ) → ((c : ℕ) → how_many (λ (x : Held). x.client == c) hs ≤ 1) → (c : ℕ) → how_many (λ (x : Held). x.client == c) (without_client client hs) ≤ 1
fewer-holds hs client k c = let fewer = filter-fewer (λ (x : Held). not (x.client == client)) (λ (x : Held). x.client == c) hs in omega (arith, fewer, k c)

fewer-live : (ls : List LiveEntry) (entry : ℕ) → ((e : ℕ) → how_many (λ (x : LiveEntry). x.entry == e) ls ≤ 1) → (e : ℕ) → how_many (λ (x : LiveEntry). x.entry == e) (without_entry entry ls) ≤ 1
fewer-live ls entry k e = let fewer = filter-fewer (λ (x : LiveEntry). not (x.entry == entry)) (λ (x : LiveEntry). x.entry == e) ls in omega (arith, fewer, k e)

-- an entry is taken that wasn't live
live-push_once : (ls : List LiveEntry) (l : LiveEntry) → ((e : ℕ) → how_many (λ (x : LiveEntry). x.entry == e) ls ≤ 1) → AllByRecursion (λ (x : LiveEntry). (l.entry == x.entry) ≡ false) ls → (e : ℕ) → how_many (λ (x : LiveEntry). x.entry == e) (ls ++ l ∷ []) ≤ 1
live-push_once ls l k a e =
    let sum = how_many-append (λ (x : LiveEntry). x.entry == e) ls (l ∷ []) in
    let one = one-many (λ (x : LiveEntry). x.entry == e) l in
    by_test (l.entry == e) _
    (λ t. let s : l.entry ≡ e = eqb-true l.entry e t in
    let none : how_many (λ (x : LiveEntry). x.entry == e) ls ≡ 0 = none-many (λ (x : LiveEntry). x.entry == e) ls
    (All-map (λ (x : LiveEntry). (l.entry == x.entry) ≡ false) (λ (x : LiveEntry). (x.entry == e) ≡ false) ls a
    (λ x h. eqb-other x.entry e (λ q. let bad : (l.entry == x.entry) ≡ true = eq-eqb l.entry x.entry (s ∙ sym q) in let b : true ≡ false = sym bad ∙ h in cc))) in
    omega (arith, sum, none, one))
    (λ t. let none = other-many (λ (x : LiveEntry). x.entry == e) l t in omega (arith, sum, none, k e))

-- a client without a live entry
not-client : (ls : List LiveEntry) (client : ℕ) → list_any (λ l. l.client == client) ls ≡ false → AllByRecursion (λ (l : LiveEntry). (l.client == client) ≡ false) ls
not-client [] client h = tt
not-client (l ∷ ls) client h =
    by_test (l.client == client) _
    (λ t. let bad : true ≡ false = rw t at h in cc)
    (λ t. (t, not-client ls client (rw t at h)))

both-apart : (past : List Event) (h : Held) (ls : List LiveEntry) → AllByRecursion (λ (l : LiveEntry). (l.client == h.client) ≡ false) ls → AllByRecursion (λ (l : LiveEntry). hold past l.client ≡ None) ls
    → AllByRecursion (λ (l : LiveEntry). find (λ (x : Held). x.client == l.client) (without_client h.client (holds past) ++ h ∷ []) ≡ None) ls
both-apart past h [] a b = tt
both-apart past h (l ∷ ls) a b =
    let f : (h.client == l.client) ≡ false = eqb-other h.client l.client (λ s. let bad : (l.client == h.client) ≡ true = eq-eqb l.client h.client (sym s) in let n : (l.client == h.client) ≡ false = a.0 in let q : true ≡ false = sym bad ∙ n in cc) in (
      find-push_other (λ (x : Held). x.client == l.client) (without_client h.client (holds past)) h f
          ∙ none-found (λ (x : Held). x.client == l.client) (λ (x : Held). not (x.client == h.client)) (holds past) b.0,
      both-apart past h ls a.1 b.1,
    )

fewer-apart : (past : List Event) (client : ℕ) (ls : List LiveEntry) → AllByRecursion (λ (l : LiveEntry). hold past l.client ≡ None) ls → AllByRecursion (λ (l : LiveEntry). find (λ (x : Held). x.client == l.client) (without_client client (holds past)) ≡ None) ls
fewer-apart past client ls a = All-map _ _ ls a (λ l h. none-found (λ (x : Held). x.client == l.client) (λ (x : Held). not (x.client == client)) (holds past) h)

once-step : (c : Campaign) (past : List Event) (event : Event) → IsHistory c.basis.opening → IsLegal c past → Allowed c past event → OutOnce past → OutOnce (event ∷ past)
once-step c past (Event.Boot number time limit found boards) v l a k = record { holds_once = λ _. omega arith; live_once = λ _. omega arith; apart = tt }
once-step c past (Event.Ask client request pending (AskAnswer.Hold blocks release)) v l a k =
    let h : Held = record { client = client; request = request; pending = pending; blocks = blocks; release = release } in
    record {
      holds_once = held-once (holds past) h client k.holds_once refl;
      live_once = k.live_once;
      apart = both-apart past h (live past) (not-client (live past) client a.free.live) k.apart;
    }
once-step c past (Event.Claim client request fetched (ClaimAnswer.Entry entry)) v l a k =
    let w = past-kept c past v l in
    let ca = a.1 in
    let d = accepted-claim fetched (target c.basis.facts (views c.basis past) request) (next_entry c.basis past) (verdict c.basis past client request (Stage.Claim a.0.release)) entry ca.answer_is in
    let next : entry ≡ length (rows c.basis past) + 1 = d.4 in
    record {
      holds_once = fewer-holds (holds past) client k.holds_once;
      live_once = live-push_once (live past) (record { client = client; entry = entry; blocks = blocks_fetched fetched }) k.live_once
          (All-map _ _ (live past) w.steps.live_is (λ x u. eqb-other entry x.entry (λ s. let le : x.entry ≤ length (rows c.basis past) = u.known in omega arith)));
      apart = All-push _ (live past) (record { client = client; entry = entry; blocks = blocks_fetched fetched }) (fewer-apart past client (live past) k.apart) (find-filter_none (λ (x : Held). x.client == client) (holds past));
    }
once-step c past (Event.Claim client request fetched (ClaimAnswer.Kept entry state)) v l a k =
    record { holds_once = fewer-holds (holds past) client k.holds_once; live_once = k.live_once; apart = fewer-apart past client (live past) k.apart }
once-step c past (Event.Claim client request fetched (ClaimAnswer.Refused refusal)) v l a k =
    record { holds_once = fewer-holds (holds past) client k.holds_once; live_once = k.live_once; apart = fewer-apart past client (live past) k.apart }
once-step c past (Event.Resume client entry fetched ResumeAnswer.Begun stored) v l a k =
    let w = past-kept c past v l in
    let ra = a.1 in
    let pending : is_pending a.0.state ≡ true = (let p : a.0.state ≡ RowState.Pending = ra.pending in rw p refl) in
    let none : how_many (takes entry) past ≡ 0 = w.waiting.untaken entry a.0 ra.row_is pending in
    record {
      holds_once = fewer-holds (holds past) client k.holds_once;
      live_once = live-push_once (live past) (record { client = client; entry = entry; blocks = blocks_fetched_if fetched }) k.live_once (live-others c.basis past entry none w.taken.live_taken);
      apart = All-push _ (live past) (record { client = client; entry = entry; blocks = blocks_fetched_if fetched }) (fewer-apart past client (live past) k.apart) (find-filter_none (λ (x : Held). x.client == client) (holds past));
    }
once-step c past (Event.Resume client entry fetched (ResumeAnswer.Refused refusal) stored) v l a k =
    record { holds_once = fewer-holds (holds past) client k.holds_once; live_once = k.live_once; apart = fewer-apart past client (live past) k.apart }
once-step c past (Event.Finish client entry state stored) v l a k =
    record { holds_once = k.holds_once; live_once = fewer-live (live past) entry k.live_once; apart = All-filter _ _ (λ (x : LiveEntry). not (x.entry == entry)) (live past) k.apart (λ x h _. h) }
once-step c past (Event.GiveBack client (Back.Tag tag)) v l a k =
    record { holds_once = fewer-holds (holds past) client k.holds_once; live_once = k.live_once; apart = fewer-apart past client (live past) k.apart }
once-step c past (Event.GiveBack client (Back.Pending entry)) v l a k =
    record { holds_once = fewer-holds (holds past) client k.holds_once; live_once = k.live_once; apart = fewer-apart past client (live past) k.apart }
once-step c past (Event.GiveBack client (Back.Entry entry)) v l a k =
    record { holds_once = fewer-holds (holds past) client k.holds_once; live_once = fewer-live (live past) entry k.live_once; apart = All-filter _ _ (λ (x : LiveEntry). not (x.entry == entry)) (live past) (fewer-apart past client (live past) k.apart) (λ x h _. h) }
once-step c past _ v l a k = record { holds_once = k.holds_once; live_once = k.live_once; apart = k.apart }

pub out-once : (c : Campaign) (past : List Event) → IsHistory c.basis.opening → IsLegal c past → OutOnce past
out-once c [] v l = record { holds_once = λ _. omega arith; live_once = λ _. omega arith; apart = tt }
out-once c (event ∷ past) v l = once-step c past event v l.0 l.2 (out-once c past v l.0)

-- What a filter takes away from a sum, where it takes one.
pub sum-once : {X : Type 0} (f : X → ℕ) (p : X → Bool) (xs : List X) (x : X) → find p xs ≡ Some x → how_many p xs ≤ 1 → sum_by f (filter (λ y. not (p y)) xs) + f x ≡ sum_by f xs
sum-once f p [] x h k = cc
sum-once f p (y ∷ ys) x h k =
    by_test (p y) _
    (λ t. let h' : Some y ≡ Some x = rw t at h in
    let s : y ≡ x = cc in
    let e : f y ≡ f x = ap f s in
    let none : how_many p ys ≡ 0 = (let k' : suc (how_many p ys) ≤ 1 = rw t at k in omega arith) in
    let rest : filter (λ z. not (p z)) ys ≡ ys = filter-all p ys (not-found p ys none) in
    let n : filter (λ z. not (p z)) (y ∷ ys) ≡ ys = rw t rest in
    let sums = ap (sum_by f) n in
    omega (arith, sums, sum_by-cons f y ys, e))
    (λ t. let k' : how_many p ys ≤ 1 = rw t at k in
    let rest : sum_by f (filter (λ z. not (p z)) ys) + f x ≡ sum_by f ys = sum-once f p ys x (rw t at h) k' in
    let n : filter (λ z. not (p z)) (y ∷ ys) ≡ y ∷ filter (λ z. not (p z)) ys = rw t refl in
    let sums = ap (sum_by f) n in
    omega (arith, sums, rest, sum_by-cons f y ys, sum_by-cons f y (filter (λ z. not (p z)) ys)))
  where
    not-found : {X : Type 0} (p : X → Bool) (xs : List X) → how_many p xs ≡ 0 → find p xs ≡ None
    not-found p [] h = refl
    not-found p (x ∷ xs) h =
        by_test (p x) _
        (λ t. let bad : suc (how_many p xs) ≡ 0 = rw t at h in absurd (omega arith))
        (λ t. let h' : how_many p xs ≡ 0 = rw t at h in rw t (not-found p xs h'))
