-- All clients of a boot, by the log as the daemon closed.
use Rattle.std.proofs.Common.{◌≡◌, ℕ, ◌<◌, ◌≤◌, ◌+◌, ◌-◌, suc, Bool, List, [], ◌∷◌, ◌++◌, All, map, length, get_or, refl, ap, sym, ◌∙◌, subst, ⊎_elim, arith}
use Rattle.std.proofs.lemmas.Bool.{cases_lt}
use Rattle.std.proofs.lemmas.List.{get_or-map, length-map}
use Rattle.std.proofs.lemmas.List.Elements.{All-cons, All-head, All-nil, All-tail}
use Rattle.std.proofs.lemmas.List.FromFn.{get_or-range_with_len}
use Rattle.std.specs.List.{list_any, range_with_len}
use Rattle.update_log.proofs.Lists.{any-here}
use Rattle.update_log.specs.declared.event.Event.{Event}
use Rattle.update_log.specs.Pasts.{off}
use Rattle.client_scripts.specs.declared.item.Item.{Item}
use Rattle.client_plays.specs.Faults.{Counted, FaultsTold, ShelvesCount, shelf_faults}
use Rattle.client_plays.specs.Has.{shelves_told}
use Rattle.client_plays.specs.Moments.{Grew, mine}
use Rattle.client_plays.specs.Plays.{Plays}
use Rattle.client_plays.specs.Scripts.{PlayedSo, items_of}
use Rattle.client_plays.specs.Tools.{Files, means_of}
use Rattle.plugin_trait.specs.Steps.{PluginSteps}
use Rattle.client_plays.proofs.ShelfCounts.{count-client, count-quiet}
use Rattle.turn_lock.specs.Lists.{BeginsWith, beyond}
use Rattle.turn_lock.specs.Shown.{HasItsEntries, IsFresh, LockId, PassView}
use Rattle.shared_daemon.specs.declared.entry.Entry.{Entry}
use Rattle.shared_daemon.specs.Closings.{IsFreePass}
use Rattle.shared_daemon.specs.Entries.{maker_of, past_seen}
use Rattle.shared_daemon.specs.Names.{HasNothing, IsLogOf, IsPass, Name}
use Rattle.shared_daemon.proofs.Closed.{passes-count}
use Rattle.client_threads.specs.declared.clients.Client.{Client}
use Rattle.client_threads.specs.Clients.{MayPlay, PlayedBehind, PlayedScript}
use Rattle.daemon_tasks.proofs.OnePass.{fresh-free, stranger-quiet, unused-quiet}
use Rattle.client_threads.proofs.OneClient.{one-played, one-told}
use Rattle.daemon_tasks.proofs.Pasts.{log-grew}
use Rattle.client_threads.proofs.Plays.{items-beyond, nothing-so}
use Rattle.client_threads.proofs.ShelfFaults.{count-dealt}

-- What holds of each image.
pub mapped : {A B : Type 0} (Q : B → Type 0) (f : A → B) (xs : List A) → All Q (map f xs) → (i : ℕ) (d : A) → i < length xs → Q (f (get_or xs i d))
mapped Q f xs all i d low =
    subst Q (get_or-map f xs i d (f d) low) (all i (f d) (let n : length (map f xs) ≡ length xs = length-map xs f in omega arith))

pub to-mapped : {A B : Type 0} (Q : B → Type 0) (f : A → B) (xs : List A) → ((x : A) (i : ℕ) → i < length xs → Q (f (get_or xs i x))) → All Q (map f xs)
to-mapped Q f [] each = All-nil Q
to-mapped Q f (x ∷ xs) each = All-cons Q (f x) (map f xs) (each x 0 (omega arith)) (to-mapped Q f xs (λ y i low. each y (suc i) (omega arith)))

-- What holds of each place of a slice holds of each of the list that was lent.
pub each-lent : {A : Type 0} (Q : A → A → Type 0) (old lent given new : List A) → lent ≡ old → new ≡ given → ((i : ℕ) (d : A) → i < length lent → Q (get_or lent i d) (get_or given i d)) → (i : ℕ) (d : A) → i < length old → Q (get_or old i d) (get_or new i d)
each-lent {A = A} Q old lent given new e n each i d low =
    subst (λ (l : List A). Q (get_or l i d) (get_or new i d)) e
    (subst (λ (l : List A). Q (get_or lent i d) (get_or l i d)) (sym n) (each i d (subst (λ (l : List A). i < length l) (sym e) low)))

-- The numbers of clients.
abbrev number_of : PassView Entry → ℕ
number_of pass = pass.number

module _ {P : Type 0} (own : PassView Entry) (seats : ℕ) where
  pub own-number : (cs : List (Client P)) → map number_of (own ∷ map (λ (c : Client P). c.pass) cs) ≡ range_with_len 0 seats → 0 < seats → own.number ≡ 0
  own-number cs e low = ap (λ (l : List ℕ). get_or l 0 0) e ∙ get_or-range_with_len 0 seats 0 0 low

  pub numbered : (cs : List (Client P)) (i : ℕ) (d : Client P) → map number_of (own ∷ map (λ (c : Client P). c.pass) cs) ≡ range_with_len 0 seats → i < length cs → i + 1 < seats → (get_or cs i d).pass.number ≡ i + 1
  numbered cs i d e low high =
      let pass : Client P → PassView Entry = λ c. c.pass in
      let at : get_or (map number_of (map pass cs)) i 0 ≡ number_of (get_or (map pass cs) i (pass d)) =
      get_or-map number_of (map pass cs) i (pass d) 0 (let n : length (map pass cs) ≡ length cs = length-map cs pass in omega arith) in
      ap number_of (sym (get_or-map pass cs i d (pass d) low))
      ∙ sym at
      ∙ ap (λ (l : List ℕ). get_or l (suc i) 0) e
      ∙ get_or-range_with_len 0 seats (suc i) 0 (omega arith)
      ∙ (omega arith)

-- As the daemon began: its passes were dealt out.
module _ {P : Type 0} (lock : LockId) (name : Name) (of_boot : List (List Item)) (own : PassView Entry) (cs : List (Client P)) where
  pub record Dealt : Type 0 where
    pub begun : map number_of (own ∷ map (λ (c : Client P). c.pass) cs) ≡ range_with_len 0 (length of_boot + 1)
    pub are : All (IsPass lock name) (own ∷ map (λ (c : Client P). c.pass) cs)
    pub fresh : All (IsFresh name.start) (own ∷ map (λ (c : Client P). c.pass) cs)
    pub count : length cs ≡ length of_boot

  count-so : (n : ℕ) → length (own ∷ map (λ (c : Client P). c.pass) cs) ≡ n + 1 → length cs ≡ n
  count-so n e = let m : length (map (λ (c : Client P). c.pass) cs) ≡ length cs = length-map cs (λ (c : Client P). c.pass) in omega arith

  pub dealt-so : (passes : List (PassView Entry)) → passes ≡ own ∷ map (λ (c : Client P). c.pass) cs → map number_of passes ≡ range_with_len 0 (length of_boot + 1) → All (IsPass lock name) passes → All (IsFresh name.start) passes → Dealt
  dealt-so passes e n a f =
      let numbers : map number_of (own ∷ map (λ (c : Client P). c.pass) cs) ≡ range_with_len 0 (length of_boot + 1) = ap (map number_of) (sym e) ∙ n in
      record {
        begun = numbers;
        are = subst (λ (l : List (PassView Entry)). All (IsPass lock name) l) e a;
        fresh = subst (λ (l : List (PassView Entry)). All (IsFresh name.start) l) e f;
        count = count-so (length of_boot) (passes-count name [] (own ∷ map (λ (c : Client P). c.pass) cs) (length of_boot + 1) numbers);
      }

  pub may-play : HasNothing name.start → Dealt → All (MayPlay lock name) cs
  may-play n dealt i d low =
      let pass : Client P → PassView Entry = λ c. c.pass in
      let is_fresh : IsFresh name.start (get_or cs i d).pass = mapped (IsFresh name.start) pass cs (All-tail (IsFresh name.start) own (map pass cs) dealt.fresh) i d low in
      let number : (get_or cs i d).pass.number ≡ i + 1 = numbered own (length of_boot + 1) cs i d dealt.begun low (let k = dealt.count in omega arith) in
      record {
        pass = mapped (IsPass lock name) pass cs (All-tail (IsPass lock name) own (map pass cs) dealt.are) i d low;
        free = fresh-free name.start (get_or cs i d).pass n is_fresh;
        numbered = omega arith;
      }

-- As it closed.
module _ {P : Type 0} (files : P → Files) (plugins : ℕ → PluginSteps) (faults : P → ℕ) (lock : LockId) (name : Name) (of_boot : List (List Item)) (own : PassView Entry) (old new : List (Client P)) where
  abbrev passes : List (Client P) → List (PassView Entry)
  passes clients = own ∷ map (λ (c : Client P). c.pass) clients

  pub record AllPlayed : Type 0 where
    pub dealt : Dealt lock name of_boot own old
    pub count : length new ≡ length old
    pub played : (i : ℕ) (d : Client P) → i < length old → PlayedScript files plugins faults lock name of_boot (get_or old i d) (get_or new i d)

  own-is : AllPlayed → IsPass lock name own
  own-is a = All-head (IsPass lock name) own (map (λ (c : Client P). c.pass) old) a.dealt.are

  pub start-log : AllPlayed → IsLogOf name name.start
  start-log a = subst (λ (list : List Entry). IsLogOf name list) (All-head (IsFresh name.start) own (map (λ (c : Client P). c.pass) old) a.dealt.fresh).0 (own-is a).log

  -- The passes may close the daemon.
  pub closing-passes : AllPlayed → All (IsPass lock name) (passes new)
  closing-passes a =
      All-cons (IsPass lock name) own (map (λ (c : Client P). c.pass) new) (own-is a)
      (to-mapped (IsPass lock name) (λ (c : Client P). c.pass) new (λ d i low. (a.played i d (let n = a.count in omega arith)).pass))

  pub closing-free : AllPlayed → HasNothing name.start → All IsFreePass (passes new)
  closing-free a n =
      All-cons IsFreePass own (map (λ (c : Client P). c.pass) new)
      (fresh-free name.start own n (All-head (IsFresh name.start) own (map (λ (c : Client P). c.pass) old) a.dealt.fresh))
      (to-mapped IsFreePass (λ (c : Client P). c.pass) new (λ d i low. (a.played i d (let n = a.count in omega arith)).went.did.free))

  same-numbers : (xs ys : List (Client P)) → length ys ≡ length xs → ((i : ℕ) (d : Client P) → i < length xs → (get_or ys i d).pass.number ≡ (get_or xs i d).pass.number) → map number_of (map (λ (c : Client P). c.pass) ys) ≡ map number_of (map (λ (c : Client P). c.pass) xs)
  same-numbers [] [] n each = refl
  same-numbers [] (y ∷ ys) n each = absurd (omega arith)
  same-numbers (x ∷ xs) [] n each = absurd (omega arith)
  same-numbers (x ∷ xs) (y ∷ ys) n each =
      ap (λ (k : ℕ). k ∷ map number_of (map (λ (c : Client P). c.pass) ys)) (each 0 x (omega arith))
      ∙ ap (λ (l : List ℕ). x.pass.number ∷ l) (same-numbers xs ys (omega arith) (λ i d low. each (suc i) d (omega arith)))

  pub closing-numbers : AllPlayed → map number_of (passes new) ≡ range_with_len 0 (length of_boot + 1)
  closing-numbers a = ap (λ (l : List ℕ). own.number ∷ l) (same-numbers old new a.count (λ i d low. (a.played i d low).went.did.same)) ∙ a.dealt.begun

  -- What they did.
  module _ (told : ℕ → Files) (log : List Entry) (a : AllPlayed) (l : IsLogOf name log) (seen : All (λ (p : PassView Entry). BeginsWith log p.seen) (passes new)) (mine_are : All (HasItsEntries maker_of name.start log) (passes new))
      (makers : All (λ (e : Entry). maker_of e < length of_boot + 1) (beyond name.start log)) (shelves : (i : ℕ) (d : Client P) → i < length old → told (i + 1) ≡ files (get_or old i d).shelf) where
    one : (client i : ℕ) (d : Client P) → client ≡ i + 1 → i < length old → mine client (past_seen name.start) ≡ []
        → PlayedSo (off (past_seen log)) (list_any (λ (c : Client P). c.wanting) new) client (Plays name.basis (means_of (told client) plugins) client) (items_of of_boot client) (mine client (past_seen log))
    one client i d e low none =
        let pass : Client P → PassView Entry = λ c. c.pass in
        let many : length new ≡ length old = a.count in
        let c : Client P = get_or old i d in
        let n : Client P = get_or new i d in
        let number : c.pass.number ≡ client = numbered own (length of_boot + 1) old i d a.dealt.begun low (let k = a.dealt.count in omega arith) ∙ sym e in
        let shelf : files c.shelf ≡ told client = sym (shelves i d low) ∙ ap told (sym e) in
        let wanting : Bool = list_any (λ (c : Client P). c.wanting) new in
        let P' : ℕ → Files → Type 0 = λ k fs. PlayedSo (off (past_seen log)) wanting k (Plays name.basis (means_of fs plugins) k) (items_of of_boot k) (mine k (past_seen log)) in
        subst (λ (fs : Files). P' client fs) shelf
        (subst (λ (k : ℕ). P' k (files c.shelf)) number
        (one-played name log (start-log a) l files plugins faults lock of_boot c n (a.played i d low)
        (mapped (IsFresh name.start) pass old (All-tail (IsFresh name.start) own (map pass old) a.dealt.fresh) i d low)
        (mapped (λ (p : PassView Entry). BeginsWith log p.seen) pass new (All-tail (λ (p : PassView Entry). BeginsWith log p.seen) own (map pass new) seen) i d (omega arith))
        (mapped (HasItsEntries maker_of name.start log) pass new (All-tail (HasItsEntries maker_of name.start log) own (map pass new) mine_are) i d (omega arith))
        wanting (λ w. any-here (λ (c : Client P). c.wanting) new i d (omega arith) w)
        (ap (λ (k : ℕ). mine k (past_seen name.start)) number ∙ none)))

    some : (client i : ℕ) (xs : List (Client P)) → xs ≡ old → client ≡ i + 1 → i < length old → mine client (past_seen name.start) ≡ []
        → PlayedSo (off (past_seen log)) (list_any (λ (c : Client P). c.wanting) new) client (Plays name.basis (means_of (told client) plugins) client) (items_of of_boot client) (mine client (past_seen log))
    some client i [] s e low none = let n : 0 ≡ length old = ap length s in absurd (omega arith)
    some client i (d ∷ xs) s e low none = one client i d e low none

    stranger : (client : ℕ) → length of_boot + 1 ≤ client → mine client (past_seen name.start) ≡ []
        → PlayedSo (off (past_seen log)) (list_any (λ (c : Client P). c.wanting) new) client (Plays name.basis (means_of (told client) plugins) client) (items_of of_boot client) (mine client (past_seen log))
    stranger client high none =
        nothing-so (off (past_seen log)) (list_any (λ (c : Client P). c.wanting) new) client (Plays name.basis (means_of (told client) plugins) client) (items_of of_boot client) (mine client (past_seen log))
        (items-beyond of_boot client (omega arith))
        (stranger-quiet name log (start-log a) l (length of_boot + 1) client high makers ∙ none)

    pub played-behind : PlayedBehind (list_any (λ (c : Client P). c.wanting) new) name (λ client. means_of (told client) plugins) of_boot log
    played-behind =
        record {
          daemon =
              let zero-own : own.number ≡ 0 = own-number own (length of_boot + 1) old a.dealt.begun (omega arith) in
              subst (λ (k : ℕ). mine k (past_seen log) ≡ mine k (past_seen name.start)) zero-own
              (unused-quiet name log (start-log a) l own (All-head (IsFresh name.start) own (map (λ (c : Client P). c.pass) old) a.dealt.fresh)
              (All-head (HasItsEntries maker_of name.start log) own (map (λ (c : Client P). c.pass) new) mine_are));
          clients = λ client c none.
              ⊎_elim
              (λ (low : client < length of_boot + 1). some client (client - 1) old refl (omega arith) (let k = a.dealt.count in omega arith) none)
              (λ (high : length of_boot + 1 ≤ client). stranger client high none)
              (cases_lt client (length of_boot + 1));
        }

    -- What the daemon itself did.
    daemon-quiet : mine 0 (past_seen log) ≡ mine 0 (past_seen name.start)
    daemon-quiet = played-behind.daemon

    -- What the log tells of the clients' shelves.
    client-told : (i : ℕ) (d : Client P) → i < length old → FaultsTold (mine (suc i) (past_seen name.start)) (mine (suc i) (past_seen log)) (faults (get_or old i d).shelf) (faults (get_or new i d).shelf)
    client-told i d low =
        let pass : Client P → PassView Entry = λ c. c.pass in
        let many : length new ≡ length old = a.count in
        let c : Client P = get_or old i d in
        let n : Client P = get_or new i d in
        let number : c.pass.number ≡ i + 1 = numbered own (length of_boot + 1) old i d a.dealt.begun low (let k = a.dealt.count in omega arith) in
        let next : i + 1 ≡ suc i = omega arith in
        subst (λ (k : ℕ). FaultsTold (mine k (past_seen name.start)) (mine k (past_seen log)) (faults c.shelf) (faults n.shelf)) (number ∙ next)
        (one-told name log (start-log a) l files plugins faults lock of_boot c n (a.played i d low)
        (mapped (IsFresh name.start) pass old (All-tail (IsFresh name.start) own (map pass old) a.dealt.fresh) i d low)
        (mapped (λ (p : PassView Entry). BeginsWith log p.seen) pass new (All-tail (λ (p : PassView Entry). BeginsWith log p.seen) own (map pass new) seen) i d (omega arith))
        (mapped (HasItsEntries maker_of name.start log) pass new (All-tail (HasItsEntries maker_of name.start log) own (map pass new) mine_are) i d (omega arith)))

    pub shelves-behind : (all now rest : List P) → all ≡ map (λ (c : Client P). c.shelf) old ++ rest → now ≡ map (λ (c : Client P). c.shelf) new ++ rest
        → ShelvesCount (past_seen name.start) (past_seen log) (shelves_told files faults all) (shelves_told files faults now)
    shelves-behind all now rest e o =
        let start : List Event = past_seen name.start in
        let grew : Grew start (past_seen log) = log-grew name log (start-log a) l in
        let shelf : Client P → P = λ c. c.shelf in
        let Q : ℕ → ℕ → ℕ → Type 0 = λ place x y. Counted (shelf_faults place start) (shelf_faults place (past_seen log)) x y in
        subst (λ (ps : List P). ShelvesCount start (past_seen log) (shelves_told files faults ps) (shelves_told files faults now)) (sym e)
        (subst (λ (ps : List P). ShelvesCount start (past_seen log) (shelves_told files faults (map shelf old ++ rest)) (shelves_told files faults ps)) (sym o)
        (count-dealt files faults shelf Q rest old new a.count
        (λ i d low. count-client start (past_seen log) grew i (faults (get_or old i d).shelf) (faults (get_or new i d).shelf) daemon-quiet (client-told i d low))
        (λ i x high. count-quiet start (past_seen log) grew i x x daemon-quiet
        (stranger-quiet name log (start-log a) l (length of_boot + 1) (suc i) (let k = a.dealt.count in omega arith) makers) (omega arith))))
