-- What a turn of the lock makes of what a pass saw.
use Rattle.std.proofs.Common.{◌≡◌, ℕ, Bool, true, false, List, [], ◌∷◌, ◌++◌, length, drop, refl, ap, sym, ◌∙◌, subst, inl, inr, ⊎_elim, append-nil}
use Rattle.std.specs.Prelude.{Result, Ok, Err}
use Rattle.history_keeper.specs.Signs.{KeeperSigns}
use Rattle.update_log.specs.declared.event.Event.{Event}
use Rattle.update_log.specs.Pasts.{off}
use Rattle.daemon_core.specs.declared.off.Off.{Off}
use Rattle.daemon_core.specs.declared.stop.Stop.{Stop}
use Rattle.daemon_core.specs.HouseLog.{Appended, IsHouseLog, Unchanged}
use Rattle.daemon_core.specs.Goes.{TurnedOrOff}
use Rattle.daemon_core.specs.Housed.{HouseLogView, Housed, past_in}
use Rattle.daemon_core.specs.Turns.{Turned, WentOff}
use Rattle.turn_lock.specs.Lists.{AddsAtMostOne, BeginsWith, beyond, made_by}
use Rattle.turn_lock.specs.Shown.{LockId, PassView, TurnView, IsReady}
use Rattle.turn_lock.proofs.Counting.{beyond_append, made_by-own}
use Rattle.shared_daemon.specs.declared.entry.Entry.{Entry}
use Rattle.shared_daemon.specs.Calls.{Adds, AddsNone, AddsOn, Begins, FoundOff, Took, TurnedIn, TurnedOrOffIn, WasSeen}
use Rattle.shared_daemon.specs.Entries.{chronicle, entries_in, entry_of, maker_of, past_seen}
use Rattle.shared_daemon.specs.Names.{IsLogOf, IsPass, KeepsName, Name}
use Rattle.shared_daemon.proofs.Logs.{begins-all, begins-trans, beyond-longer, entries-appended, entries-same, made_by-append, past-entries}
use Rattle.shared_daemon.proofs.Seeing.{log-named, others-since}

-- The log of a house after a call, with its makers.
pub off-in : (a : HouseLogView) (b : Bool) → IsHouseLog a → off (past_in a) ≡ b → off (past_seen (entries_in a)) ≡ b
off-in a b k e = ap off (past-entries a k) ∙ e

pub found-off : (client : ℕ) (old new : HouseLogView) → IsHouseLog old → WentOff client old new → FoundOff client (entries_in old) (entries_in new)
found-off client old new k w =
    ⊎_elim (λ (u : (off (past_in old) ≡ true) × Unchanged old new). inl (off-in old true k u.0, entries-same old new u.1))
    (λ (a : (off (past_in old) ≡ false) × Appended client Event.Cut old new). inr (off-in old false k a.0, entries-appended client Event.Cut old new k a.1)) w

pub turned-in : {A : Type 0} (client : ℕ) (event : A → Event) (result : Result A Stop) (old new : HouseLogView) → IsHouseLog old → Turned client event result old new → TurnedIn client event result (entries_in old) (entries_in new)
turned-in client event (Ok a) old new k t = (off-in old false k t.0.on, entries-appended client (event a) old new k t.1)
turned-in client event (Err Stop.Off) old new k t = found-off client old new k t
turned-in client event (Err Stop.NoMemory) old new k t = (off-in old false k t.0, entries-same old new t.1)

pub went-in : {A : Type 0} (client : ℕ) (event : A → Event) (result : Result A Off) (old new : HouseLogView) → IsHouseLog old → TurnedOrOff client event result old new → TurnedOrOffIn client event result (entries_in old) (entries_in new)
went-in client event (Ok a) old new k t = (off-in old false k t.0.on, entries-appended client (event a) old new k t.1)
went-in client event (Err stop) old new k t = found-off client old new k t

-- The same of a house that is opened as these.
pub turned-named : {A K : Type 0} (client : ℕ) (event : A → Event) (result : Result A Stop) (self inside new : Housed K) → inside ≡ self → IsHouseLog inside.house_log → Turned client event result inside.house_log new.house_log → TurnedIn client event result (chronicle self) (chronicle new)
turned-named {A} {K} client event result self inside new e k t =
    subst (λ (h : Housed K). TurnedIn client event result (chronicle h) (chronicle new)) e (turned-in client event result inside.house_log new.house_log k t)

pub went-named : {A K : Type 0} (client : ℕ) (event : A → Event) (result : Result A Off) (self inside new : Housed K) → inside ≡ self → IsHouseLog inside.house_log → TurnedOrOff client event result inside.house_log new.house_log → TurnedOrOffIn client event result (chronicle self) (chronicle new)
went-named {A} {K} client event result self inside new e k t =
    subst (λ (h : Housed K). TurnedOrOffIn client event result (chronicle h) (chronicle new)) e (went-in client event result inside.house_log new.house_log k t)

pub adds-named : {K : Type 0} (client : ℕ) (event : Event) (self inside new : Housed K) → inside ≡ self → IsHouseLog inside.house_log → Appended client event inside.house_log new.house_log → Adds client event (chronicle self) (chronicle new)
adds-named {K} client event self inside new e k a =
    subst (λ (h : Housed K). Adds client event (chronicle h) (chronicle new)) e (entries-appended client event inside.house_log new.house_log k a)

-- Each adds at most one entry, of the client.
pub adds-off : (client : ℕ) (met log : List Entry) → FoundOff client met log → AddsAtMostOne maker_of client met log
adds-off client met log f =
    ⊎_elim (λ (u : (off (past_seen met) ≡ true) × (log ≡ met)). inl u.1)
    (λ (a : (off (past_seen met) ≡ false) × (log ≡ met ++ entry_of client Event.Cut ∷ [])). inr (entry_of client Event.Cut, refl, a.1)) f

pub adds-on : (client : ℕ) (event : Event) (met log : List Entry) → AddsOn client event met log → AddsAtMostOne maker_of client met log
adds-on client event met log a = inr (entry_of client event, refl, a.1)

pub adds-none : (client : ℕ) (met log : List Entry) → AddsNone met log → AddsAtMostOne maker_of client met log
adds-none client met log a = inl a.1

pub turned-adds : {A : Type 0} (client : ℕ) (event : A → Event) (result : Result A Stop) (met log : List Entry) → TurnedIn client event result met log → AddsAtMostOne maker_of client met log
turned-adds client event (Ok a) met log t = adds-on client (event a) met log t
turned-adds client event (Err Stop.Off) met log t = adds-off client met log t
turned-adds client event (Err Stop.NoMemory) met log t = adds-none client met log t

pub went-adds : {A : Type 0} (client : ℕ) (event : A → Event) (result : Result A Off) (met log : List Entry) → TurnedOrOffIn client event result met log → AddsAtMostOne maker_of client met log
went-adds client event (Ok a) met log t = adds-on client (event a) met log t
went-adds client event (Err stop) met log t = adds-off client met log t

-- What is added is the client's own.
pub added-begins : (n : ℕ) (met log : List Entry) → AddsAtMostOne maker_of n met log → BeginsWith log met
added-begins n met log a =
    ⊎_elim (λ (e : log ≡ met). ([], e ∙ sym (append-nil met))) (λ (x : (entry : Entry) × (maker_of entry ≡ n) × (log ≡ met ++ entry ∷ [])). (x.0 ∷ [], x.2)) a

pub added-own : (n : ℕ) (met log : List Entry) → AddsAtMostOne maker_of n met log → made_by maker_of n (beyond met log) ≡ beyond met log
added-own n met log a =
    let P : List Entry → Type 0 = λ l. made_by maker_of n l ≡ l in
    ⊎_elim
    (λ (e : log ≡ met). subst P (sym (ap (λ (l : List Entry). beyond met l) (e ∙ sym (append-nil met)) ∙ beyond_append met [])) refl)
    (λ (x : (entry : Entry) × (maker_of entry ≡ n) × (log ≡ met ++ entry ∷ [])). subst P (sym (ap (λ (l : List Entry). beyond met l) x.2 ∙ beyond_append met (x.0 ∷ []))) (made_by-own maker_of n x.0 x.1)) a

module _ {X : Type 0} (name : Name) (old : PassView Entry) (turn : TurnView X Entry) where
  -- As a turn begins.
  pub begun : {K : Type 0} (signs : KeeperSigns K) (h : Housed K) (lock : LockId) → IsPass lock name old → KeepsName signs name h → IsHouseLog h.house_log → turn.number ≡ old.number → turn.base ≡ old.base → turn.mine ≡ old.mine → turn.seen ≡ chronicle h
      → BeginsWith turn.seen old.seen → turn.mine ≡ made_by maker_of turn.number (drop turn.base turn.seen) → Begins name old turn
  begun signs h lock p n k number base mine list begins own =
      let at : turn.base ≡ length name.start = base ∙ p.base in
      let owns : turn.mine ≡ made_by maker_of turn.number (beyond name.start turn.seen) = own ∙ ap (λ (b : ℕ). made_by maker_of turn.number (drop b turn.seen)) at in
      let same : made_by maker_of old.number (beyond name.start old.seen) ≡ made_by maker_of old.number (beyond name.start turn.seen) =
      sym p.mine ∙ sym mine ∙ owns ∙ ap (λ (i : ℕ). made_by maker_of i (beyond name.start turn.seen)) number in
      let whole : IsLogOf name (chronicle h) = log-named signs name h n k (subst (λ (l : List Entry). BeginsWith l name.start) list (begins-trans turn.seen old.seen name.start begins p.log.begins)) in
      record {
        number = number;
        base = at;
        mine = mine;
        own = owns;
        meets = record { begins = begins; others = others-since name old.number old.seen turn.seen p.log begins same; log = subst (λ (l : List Entry). IsLogOf name l) (sym list) whole };
      }

  -- The value may change in it.
  pub begins-still : (value : X) → Begins name old turn → Begins name old (record turn { value = value })
  begins-still value b = record { number = b.number; base = b.base; mine = b.mine; own = b.own; meets = b.meets }

  -- What the client saw, in words of the turn.
  pub was-seen : (Holds : ℕ → List Entry → Type 0) (lock : LockId) (n : ℕ) (at : List Entry) → IsPass lock name old → Begins name old turn → n ≡ old.number → turn.seen ≡ at → Holds old.number old.seen → WasSeen name n (Holds n) at
  was-seen Holds lock n at p b e list h =
      let W : ℕ → List Entry → Type 0 = λ i l. WasSeen name i (Holds i) l in
      subst (λ (i : ℕ). W i at) (sym e) (subst (λ (l : List Entry). W old.number l) list (record { seen = old.seen; log = p.log; meets = b.meets; holds = h }))

  -- As it ends.
  pub adds : (n : ℕ) (at log : List Entry) → Begins name old turn → n ≡ old.number → turn.seen ≡ at → AddsAtMostOne maker_of n at log → AddsAtMostOne maker_of turn.number turn.seen log
  adds n at log b e list a =
      subst (λ (i : ℕ). AddsAtMostOne maker_of i turn.seen log) (e ∙ sym b.number)
      (subst (λ (l : List Entry). AddsAtMostOne maker_of n l log) (sym list) a)

  pub took : (did : ℕ → List Entry → List Entry → Type 0) (new : PassView Entry) (n : ℕ) (at log : List Entry) → Begins name old turn → n ≡ old.number → turn.seen ≡ at → did n at log → new.seen ≡ log → new.mine ≡ turn.mine ++ beyond turn.seen log → Took name (did old.number) old new
  took did new n at log b e list d seen mine =
      record {
        met = turn.seen;
        meets = b.meets;
        does =
            subst (λ (l : List Entry). did old.number turn.seen l) (sym seen)
            (subst (λ (l : List Entry). did old.number l log) (sym list) (subst (λ (i : ℕ). did i at log) e d));
        mine = mine ∙ ap (λ (l : List Entry). l ++ beyond turn.seen log) b.mine ∙ ap (λ (l : List Entry). old.mine ++ beyond turn.seen l) (sym seen);
      }

  pub still-pass : (lock : LockId) (new : PassView Entry) (log : List Entry) → Begins name old turn → IsLogOf name log → AddsAtMostOne maker_of turn.number turn.seen log → IsReady lock new → new.number ≡ turn.number → new.base ≡ turn.base → new.seen ≡ log
      → new.mine ≡ turn.mine ++ beyond turn.seen log → IsPass lock name new
  still-pass lock new log b l a ready number base seen mine =
      let n : ℕ = turn.number in
      let front : BeginsWith log turn.seen = added-begins n turn.seen log a in
      let rest : List Entry = beyond turn.seen log in
      let longer : beyond name.start log ≡ beyond name.start turn.seen ++ rest = beyond-longer log turn.seen name.start b.meets.log.begins (begins-all log turn.seen front) in
      let owns : turn.mine ++ rest ≡ made_by maker_of n (beyond name.start log) =
      ap (λ (x : List Entry). x ++ rest) b.own
      ∙ ap (λ (x : List Entry). made_by maker_of n (beyond name.start turn.seen) ++ x) (sym (added-own n turn.seen log a))
      ∙ sym (made_by-append n (beyond name.start turn.seen) rest)
      ∙ ap (λ (x : List Entry). made_by maker_of n x) (sym longer) in
      record {
        ready = ready;
        base = base ∙ b.base;
        log = subst (λ (x : List Entry). IsLogOf name x) (sym seen) l;
        mine = mine ∙ owns ∙ ap (λ (x : List Entry). made_by maker_of n (beyond name.start x)) (sym seen) ∙ ap (λ (i : ℕ). made_by maker_of i (beyond name.start new.seen)) (sym number);
      }
