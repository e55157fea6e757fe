-- No entry is marked by two calls: the marks only grow, and a call marks none that it finds.
use Rattle.std.proofs.Common.{◌≡◌, ◌≢◌, ℕ, zero, suc, ◌+◌, ◌<◌, arith, List, [], ◌∷◌, ◌++◌, length, get_or, sym, ap, subst, ◌∙◌, ◌⊎◌, inl, inr}
use Rattle.std.specs.Prelude.{All, AllPairs, Contains, Option, Some, None, slice_get, flat_map}
use Rattle.std.specs.List.{AllAdjacentBelow}
use Rattle.std.proofs.lemmas.List.Elements.{All-append, All-cons, All-nil, All-contains, All-head, All-map, All-tail, All-weaker, Contains-append_left, Contains-append_right, Contains-get_or}
use Rattle.std.proofs.lemmas.List.Kept.{AllPairs-cons}
use Rattle.history_keeper.specs.declared.row.Row.{Row}
use Rattle.report_queue.specs.Calls.{Call, Leaves, Follows, Begins}
use Rattle.report_queue.specs.Laws.{MarkedOnce, SentOnce}
use Rattle.report_queue.specs.Marking.{with_doubt}
use Rattle.report_queue.specs.Sending.{entries_of}
use Rattle.report_queue.proofs.Pairs.{pairs_none, pairs_append, pairs_map}

-- ---- marks stay

doubt_keeps : (doubt : Option ℕ) (marks : List ℕ) (e : ℕ) → Contains marks e → Contains (with_doubt doubt marks) e
doubt_keeps None marks e h = h
doubt_keeps (Some x) marks e h = Contains-append_left marks (x ∷ []) e h

along : (old new : List ℕ) (e : ℕ) → new ≡ old → Contains old e → Contains new e
along old new e same h = let P : List ℕ → Type 0 = λ marks. Contains marks e in subst P (sym same) h

either_keeps : (old new : List ℕ) (doubt : Option ℕ) (e : ℕ) → (new ≡ old) ⊎ (new ≡ with_doubt doubt old) → Contains old e → Contains new e
either_keeps old new doubt e (inl same) h = along old new e same h
either_keeps old new doubt e (inr made) h = along (with_doubt doubt old) new e made (doubt_keeps doubt old e h)

module _ (call : Call) (l : Leaves call) where
  found_keeps : (e : ℕ) → Contains call.before.entries e → Contains call.found e
  found_keeps e h = either_keeps call.before.entries call.found call.before.doubt e l.found h

  after_keeps : (e : ℕ) → Contains call.found e → Contains call.after.entries e
  after_keeps e h = along (call.found ++ entries_of call.sent) call.after.entries e l.marked (Contains-append_left call.found (entries_of call.sent) e h)

  sent_marked : (e : ℕ) → Contains (entries_of call.sent) e → Contains call.after.entries e
  sent_marked e h = along (call.found ++ entries_of call.sent) call.after.entries e l.marked (Contains-append_right call.found (entries_of call.sent) e h)

  -- none that it found is sent
  sent_new : (e : ℕ) → Contains call.found e → Contains (entries_of call.sent) e → ⊥
  sent_new e found sent =
      let P : ℕ → Type 0 = λ n. Contains call.found n → ⊥ in
      All-contains P (entries_of call.sent) e (All-map P (λ (row : Row). row.entry) call.sent l.sent.unmarked) sent found

-- ---- calls one behind the other

-- these marks stand before the first call
abbrev Before : List ℕ → List Call → Type 0
Before marks [] = Unit {0}
Before marks (call ∷ calls) = (e : ℕ) → Contains marks e → Contains call.before.entries e

next_follows : (call next : Call) (calls : List Call) → AllAdjacentBelow Follows (call ∷ next ∷ calls) (length (call ∷ next ∷ calls)) → Follows call next
next_follows call next calls h = h 0 call (omega arith)

rest_follows : (call : Call) (calls : List Call) → AllAdjacentBelow Follows (call ∷ calls) (length (call ∷ calls)) → AllAdjacentBelow Follows calls (length calls)
rest_follows call calls h k d within =
    let far : suc k + 1 ≡ suc (k + 1) = omega arith in
    let step : Follows (get_or calls k d) (get_or (call ∷ calls) (suc k + 1) d) = h (suc k) d (omega arith) in
    let P : ℕ → Type 0 = λ n. Follows (get_or calls k d) (get_or (call ∷ calls) n d) in
    subst P far step

-- what a call left stands before the next one
left_before : (call : Call) (calls : List Call) (marks : List ℕ) → ((e : ℕ) → Contains marks e → Contains call.after.entries e) → AllAdjacentBelow Follows (call ∷ calls) (length (call ∷ calls)) → Before marks calls
left_before call [] marks h f = tt
left_before call (next ∷ calls) marks h f = λ e there. either_keeps call.after.entries next.before.entries call.after.doubt e (next_follows call next calls f) (h e there)

-- the calls send none of the marks that stand before the first
apart : (calls : List Call) (marks : List ℕ) → All Leaves calls → AllAdjacentBelow Follows calls (length calls) → Before marks calls
    → All (λ call. (e : ℕ) → Contains marks e → Contains (entries_of call.sent) e → ⊥) calls
apart [] marks each follow before = All-nil (λ (call : Call). (e : ℕ) → Contains marks e → Contains (entries_of call.sent) e → ⊥)
apart (call ∷ calls) marks each follow before =
    let l : Leaves call = All-head Leaves call calls each in
    All-cons (λ (c : Call). (e : ℕ) → Contains marks e → Contains (entries_of c.sent) e → ⊥) call calls
    (λ e there sent. sent_new call l e (found_keeps call l e (before e there)) sent)
    (apart calls marks (All-tail Leaves call calls each) (rest_follows call calls follow)
    (left_before call calls marks (λ e there. after_keeps call l e (found_keeps call l e (before e there))) follow))

-- the calls behind a call send none of the entries that it sent
behind : (call : Call) (calls : List Call) → All Leaves (call ∷ calls) → AllAdjacentBelow Follows (call ∷ calls) (length (call ∷ calls))
    → All (λ other. (e : ℕ) → Contains call.after.entries e → Contains (entries_of other.sent) e → ⊥) calls
behind call calls each follow =
    apart calls call.after.entries (All-tail Leaves call calls each) (rest_follows call calls follow) (left_before call calls call.after.entries (λ e there. there) follow)

-- ---- the laws

sent-apart : (calls : List Call) → All Leaves calls → AllAdjacentBelow Follows calls (length calls)
    → AllPairs (λ one other. (e : ℕ) → Contains (entries_of one.sent) e → Contains (entries_of other.sent) e → ⊥) calls
sent-apart [] each follow = pairs_none (λ (one other : Call). (e : ℕ) → Contains (entries_of one.sent) e → Contains (entries_of other.sent) e → ⊥)
sent-apart (call ∷ calls) each follow =
    let l : Leaves call = All-head Leaves call calls each in
    AllPairs-cons (λ (one other : Call). (e : ℕ) → Contains (entries_of one.sent) e → Contains (entries_of other.sent) e → ⊥) call calls
    (All-weaker (λ (other : Call). (e : ℕ) → Contains call.after.entries e → Contains (entries_of other.sent) e → ⊥) (λ (other : Call). (e : ℕ) → Contains (entries_of call.sent) e → Contains (entries_of other.sent) e → ⊥)
    (λ other h e there sent. h e (sent_marked call l e there) sent) calls (behind call calls each follow))
    (sent-apart calls (All-tail Leaves call calls each) (rest_follows call calls follow))

begun-sent : (call : Call) (e : ℕ) → Begins call e → Contains (entries_of call.sent) e
begun-sent call e b = at_place call.sent b.at b.row b.sent b.is_its
  where
    at_place : (rows : List Row) (at : ℕ) (row : Row) → slice_get rows at ≡ Some row → row.entry ≡ e → Contains (entries_of rows) e
    at_place [] at row there is = cc
    at_place (r ∷ rows) zero row there is = (0, omega arith, let same : r ≡ row = cc in ap (λ (x : Row). x.entry) same ∙ is)
    at_place (r ∷ rows) (suc at) row there is =
        let rest : Contains (entries_of rows) e = at_place rows at row there is in
        (suc rest.0, omega (arith, rest.1), rest.2)

pub sent-once : SentOnce
sent-once calls t i j d before within = λ e one other.
    sent-apart calls t.each t.follow i j d before within e (begun-sent (get_or calls i d) e one) (begun-sent (get_or calls j d) e other)

-- the entries of one call rise
distinct_in : (call : Call) → Leaves call → AllPairs (λ a b. a ≢ b) (entries_of call.sent)
distinct_in call l = pairs_map (λ (a b : ℕ). a ≢ b) (λ (row : Row). row.entry) call.sent
    (λ i j d before within. λ same. let less : (get_or call.sent i d).entry < (get_or call.sent j d).entry = l.sent.rising i j d before within in omega (arith, same))

-- what holds of none of the calls' entries holds of none of them joined
none_joined : (marks : List ℕ) (calls : List Call) → All (λ call. (e : ℕ) → Contains marks e → Contains (entries_of call.sent) e → ⊥) calls
    → All (λ e. Contains marks e → ⊥) (flat_map (λ call. entries_of call.sent) calls)
none_joined marks [] h = All-nil (λ (e : ℕ). Contains marks e → ⊥)
none_joined marks (call ∷ calls) h =
    All-append (λ (e : ℕ). Contains marks e → ⊥) (entries_of call.sent) (flat_map (λ (c : Call). entries_of c.sent) calls)
    (λ k d within. λ there. All-head (λ (c : Call). (e : ℕ) → Contains marks e → Contains (entries_of c.sent) e → ⊥) call calls h (get_or (entries_of call.sent) k d) there (Contains-get_or (entries_of call.sent) k d within))
    (none_joined marks calls (All-tail (λ (c : Call). (e : ℕ) → Contains marks e → Contains (entries_of c.sent) e → ⊥) call calls h))

marked-in : (calls : List Call) → All Leaves calls → AllAdjacentBelow Follows calls (length calls) → AllPairs (λ a b. a ≢ b) (flat_map (λ call. entries_of call.sent) calls)
marked-in [] each follow = pairs_none (λ (a b : ℕ). a ≢ b)
marked-in (call ∷ calls) each follow =
    let l : Leaves call = All-head Leaves call calls each in
    let others : All (λ (e : ℕ). Contains call.after.entries e → ⊥) (flat_map (λ (c : Call). entries_of c.sent) calls) = none_joined call.after.entries calls (behind call calls each follow) in
    pairs_append (λ (a b : ℕ). a ≢ b) (entries_of call.sent) (flat_map (λ (c : Call). entries_of c.sent) calls)
    (distinct_in call l)
    (marked-in calls (All-tail Leaves call calls each) (rest_follows call calls follow))
    (λ k d within. λ m e far. λ same.
    let there : Contains call.after.entries (get_or (entries_of call.sent) k d) = sent_marked call l (get_or (entries_of call.sent) k d) (Contains-get_or (entries_of call.sent) k d within) in
    let P : ℕ → Type 0 = λ n. Contains call.after.entries n in
    others m e far (subst P same there))

pub marked-once : MarkedOnce
marked-once calls t = marked-in calls t.each t.follow
