-- What a client has out, besides a live entry: nothing.
use Rattle.std.proofs.Common.{◌≡◌, ℕ, Bool, true, false, not, List, [], ◌∷◌, ◌++◌, refl, ap, sym, ◌∙◌, subst, ◌≤◌, ◌+◌, arith, suc}
use Rattle.std.specs.Prelude.{Option, Some, None, ◌==◌, find, filter}
use Rattle.std.specs.List.{AllByRecursion, list_any}
use Rattle.std.proofs.lemmas.Bool.{eqb-true}
use Rattle.fw_facts.specs.declared.seen.Seen.{Seen}
use Rattle.history_keeper.specs.declared.row.RowState.{RowState}
use Rattle.history_keeper.specs.Histories.{IsHistory}
use Rattle.update_log.proofs.Lists.{All-find, by_test, eqb-self, find-filter_none}
use Rattle.update_log.proofs.MarksKept.{any-many, filter-fewer, find-many, how_many-append}
use Rattle.update_log.specs.Holding.{blocks_fetched, blocks_fetched_if, hold, holds, live, live_entry, without_entry}
use Rattle.update_log.specs.Legal.{Allowed, IsFree, IsLegal, ResumeFetched}
use Rattle.update_log.specs.Once.{how_many}
use Rattle.update_log.specs.Shows.{campaign_on, Campaign}
use Rattle.update_log.specs.Known.{Basis}
use Rattle.update_log.specs.declared.answer.ClaimAnswer.{ClaimAnswer}
use Rattle.update_log.specs.declared.answer.ResumeAnswer.{ResumeAnswer}
use Rattle.update_log.specs.declared.event.Back.{Back}
use Rattle.update_log.specs.declared.event.Event.{Event}
use Rattle.update_log.specs.declared.event.Stored.{Stored}
use Rattle.update_log.specs.declared.live.Held.{Held}
use Rattle.update_log.specs.declared.live.LiveEntry.{LiveEntry}
use Rattle.update_log.specs.declared.refusal.FetchNote.{FetchNote}
use Rattle.daemon_core.proofs.HeldOnce.{out-once}
use Rattle.daemon_core.specs.HouseLog.{IsLegalSo}

-- How many live entries a client has.
abbrev of_client : ℕ → List LiveEntry → ℕ
of_client client entries = how_many (λ (l : LiveEntry). l.client == client) entries

-- Each client has one at most.
abbrev OneEach : List Event → Type 0
OneEach past = (client : ℕ) → of_client client (live past) ≤ 1

one-more : (l : LiveEntry) (client : ℕ) → of_client client (l ∷ []) ≤ 1
one-more l client = by_test (l.client == client) _ (λ t. rw t (omega arith)) (λ t. rw t (omega arith))

none-more : (l : LiveEntry) (client : ℕ) → (l.client == client) ≡ false → of_client client (l ∷ []) ≡ 0
none-more l client h = rw h refl

-- One that is taken by a client which had none.
pushed : (entries : List LiveEntry) (l : LiveEntry) → ((client : ℕ) → of_client client entries ≤ 1) → of_client l.client entries ≡ 0 → (client : ℕ) → of_client client (entries ++ l ∷ []) ≤ 1
pushed entries l each none client =
    let sum : of_client client (entries ++ l ∷ []) ≡ of_client client entries + of_client client (l ∷ []) = how_many-append (λ (x : LiveEntry). x.client == client) entries (l ∷ []) in
    let one : of_client client (l ∷ []) ≤ 1 = one-more l client in
    let was : of_client client entries ≤ 1 = each client in
    by_test (l.client == client) _
    (λ t. let s : l.client ≡ client = eqb-true l.client client t in
    let none' : of_client client entries ≡ 0 = subst (λ (n : ℕ). of_client n entries ≡ 0) s none in omega arith)
    (λ t. let other : of_client client (l ∷ []) ≡ 0 = none-more l client t in omega arith)

fewer : (entries : List LiveEntry) (entry : ℕ) → ((client : ℕ) → of_client client entries ≤ 1) → (client : ℕ) → of_client client (without_entry entry entries) ≤ 1
fewer entries entry each client =
    let less : of_client client (without_entry entry entries) ≤ of_client client entries = filter-fewer (λ (x : LiveEntry). not (x.entry == entry)) (λ (x : LiveEntry). x.client == client) entries in
    let was : of_client client entries ≤ 1 = each client in omega arith

-- A client that has a hold has no live entry.
held-none : (past : List Event) (client : ℕ) (held : Held) (entries : List LiveEntry) → hold past client ≡ Some held → AllByRecursion (λ (l : LiveEntry). hold past l.client ≡ None) entries → of_client client entries ≡ 0
held-none past client held [] h a = refl
held-none past client held (l ∷ entries) h a =
    let rest : of_client client entries ≡ 0 = held-none past client held entries h a.1 in
    by_test (l.client == client) _
    (λ t. let s : l.client ≡ client = eqb-true l.client client t in
    let none : hold past client ≡ None = subst (λ (n : ℕ). hold past n ≡ None) s a.0 in
    let bad : Some held ≡ None = sym h ∙ none in cc)
    (λ t. rw t rest)

resume-held : (basis : Basis) (past : List Event) (entry : ℕ) (fetched : Option FetchNote) → ResumeFetched basis past entry fetched ResumeAnswer.Begun → (held : Held) × (hold past 0 ≡ Some held)
resume-held basis past entry (Some note) r = (r.0, r.1)
resume-held basis past entry None r = absurd r.2

each-step : (c : Campaign) (past : List Event) (event : Event) → IsHistory c.basis.opening → IsLegal c past → Allowed c past event → OneEach past → OneEach (event ∷ past)
each-step c past (Event.Boot number time limit found boards) v l a k = λ client. omega arith
each-step c past (Event.Claim client request fetched (ClaimAnswer.Entry entry)) v l a k =
    let o = out-once c past v l in
    pushed (live past) (record { client = client; entry = entry; blocks = blocks_fetched fetched }) k (held-none past client a.0 (live past) a.1.held_is o.apart)
each-step c past (Event.Resume client entry fetched ResumeAnswer.Begun stored) v l a k =
    let o = out-once c past v l in
    let r = a.1 in
    let h = resume-held c.basis past entry fetched r.fetched_is in
    let none : of_client 0 (live past) ≡ 0 = held-none past 0 h.0 (live past) h.1 o.apart in
    pushed (live past) (record { client = client; entry = entry; blocks = blocks_fetched_if fetched }) k (subst (λ (n : ℕ). of_client n (live past) ≡ 0) (sym r.client_is) none)
each-step c past (Event.Finish client entry state stored) v l a k = fewer (live past) entry k
each-step c past (Event.GiveBack client (Back.Entry entry)) v l a k = fewer (live past) entry k
each-step c past _ v l a k = k

one-each : (c : Campaign) (past : List Event) → IsHistory c.basis.opening → IsLegal c past → OneEach past
one-each c [] v l = λ client. omega arith
one-each c (event ∷ past) v l = each-step c past event v l.0 l.2 (one-each c past v l.0)

-- Where one element passes at most, none is left without it.
none-passes : {X : Type 0} (q : X → Bool) (xs : List X) → how_many q xs ≡ 0 → list_any q xs ≡ false
none-passes q xs h =
    by_test (list_any q xs) _
    (λ t. let one : 1 ≤ how_many q xs = any-many q xs t in absurd (omega arith))
    (λ f. f)

none-left : {X : Type 0} (p q : X → Bool) (xs : List X) (x : X) → find p xs ≡ Some x → q x ≡ true → how_many q xs ≤ 1 → list_any q (filter (λ y. not (p y)) xs) ≡ false
none-left p q [] x h t few = cc
none-left p q (y ∷ ys) x h t few =
    by_test (p y) _
    (λ u. let e : Some y ≡ Some x = rw u at h in
    let s : y ≡ x = cc in
    let v : q y ≡ true = ap q s ∙ t in
    let few' : suc (how_many q ys) ≤ 1 = rw v at few in
    let none : how_many q ys ≡ 0 = omega arith in
    let less : how_many q (filter (λ z. not (p z)) ys) ≤ how_many q ys = filter-fewer (λ z. not (p z)) q ys in
    let none' : how_many q (filter (λ z. not (p z)) ys) ≡ 0 = omega arith in
    rw u (none-passes q (filter (λ z. not (p z)) ys) none'))
    (λ u. let h' : find p ys ≡ Some x = rw u at h in
    let one : 1 ≤ how_many q ys = find-many p q ys x h' t in
    by_test (q y) _
    (λ v. let few' : suc (how_many q ys) ≤ 1 = rw v at few in absurd (omega arith))
    (λ v. let few' : how_many q ys ≤ 1 = rw v at few in
    let rest : list_any q (filter (λ z. not (p z)) ys) ≡ false = none-left p q ys x h' t few' in rw (u, v) rest))

-- A client with a live entry has no hold, and no other live entry.
pub record HasOnly (past : List Event) (client entry : ℕ) : Type 0 where
  pub no_hold : hold past client ≡ None
  pub no_other : list_any (λ l. l.client == client) (without_entry entry (live past)) ≡ false

has-only : (c : Campaign) (past : List Event) (client entry : ℕ) (l : LiveEntry) → IsHistory c.basis.opening → IsLegal c past → live_entry past entry ≡ Some l → l.client ≡ client → HasOnly past client entry
has-only c past client entry l v legal h own =
    let o = out-once c past v legal in
    let apart : hold past l.client ≡ None = All-find (λ (x : LiveEntry). hold past x.client ≡ None) (λ (x : LiveEntry). x.entry == entry) (live past) l o.apart h in
    let mine : (l.client == client) ≡ true = ap (λ (n : ℕ). n == client) own ∙ eqb-self client in
    record {
      no_hold = subst (λ (n : ℕ). hold past n ≡ None) own apart;
      no_other = none-left (λ (x : LiveEntry). x.entry == entry) (λ (x : LiveEntry). x.client == client) (live past) l h mine (one-each c past v legal client);
    }

pub only-so : (basis : Basis) (first : List Seen) (past : List Event) (client entry : ℕ) (l : LiveEntry) → IsHistory basis.opening → IsLegalSo basis first past → live_entry past entry ≡ Some l → l.client ≡ client → HasOnly past client entry
only-so basis first past client entry l v (plans, legal) h own = has-only (campaign_on basis first plans) past client entry l v legal h own

-- So it has nothing out once that entry was finished or given back.
pub finish-frees : (past : List Event) (client entry : ℕ) (state : RowState) (stored : Stored) → HasOnly past client entry → IsFree (Event.Finish client entry state stored ∷ past) client
finish-frees past client entry state stored o = record { hold = o.no_hold; live = o.no_other }

pub back-frees : (past : List Event) (client entry : ℕ) → HasOnly past client entry → IsFree (Event.GiveBack client (Back.Entry entry) ∷ past) client
back-frees past client entry o = record { hold = find-filter_none (λ (h : Held). h.client == client) (holds past); live = o.no_other }

-- Nor has a client with a hold any live entry.
pub held-free : (basis : Basis) (first : List Seen) (past : List Event) (client : ℕ) (held : Held) → IsHistory basis.opening → IsLegalSo basis first past → hold past client ≡ Some held → list_any (λ l. l.client == client) (live past) ≡ false
held-free basis first past client held v (plans, legal) h =
    let o = out-once (campaign_on basis first plans) past v legal in
    none-passes (λ (l : LiveEntry). l.client == client) (live past) (held-none past client held (live past) h o.apart)
