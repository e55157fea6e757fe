-- A client's own moments, by what its pass saw before and sees now.
use Rattle.std.proofs.Common.{◌≡◌, ℕ, ◌≤◌, ◌+◌, Bool, true, false, List, [], ◌∷◌, ◌++◌, map, filter, reverse, refl, ap, sym, ◌∙◌, subst, inl, inr, arith, append-nil, append_assoc}
use Rattle.std.proofs.lemmas.List.{reverse-append, append_cancel_left}
use Rattle.std.proofs.lemmas.List.Elements.{filter-append}
use Rattle.std.specs.Prelude.{Option, Some, None, IfSome, ◌==◌, option_map, unwrap_or}
use Rattle.std.specs.List.{AllByRecursion}
use Rattle.daemon_core.proofs.HouseLogKept.{boots-same}
use Rattle.daemon_core.proofs.OwedLists.{filter-yes, filter-no}
use Rattle.shared_daemon.proofs.Others.{some-boots}
use Rattle.update_log.proofs.Lists.{by_test}
use Rattle.update_log.specs.declared.event.Event.{Event}
use Rattle.update_log.specs.declared.event.Op.{Op}
use Rattle.update_log.specs.Pasts.{boots, client_of, is_boot, is_of, past_of}
use Rattle.client_plays.specs.Moments.{Moment, at, mine}
use Rattle.client_plays.proofs.MomentLaws.{is_of-own, mine-other, mine-own}
use Rattle.turn_lock.specs.Lists.{BeginsWith, beyond, made_by}
use Rattle.turn_lock.specs.Shown.{LockId, PassView}
use Rattle.shared_daemon.specs.declared.entry.Entry.{Entry}
use Rattle.shared_daemon.specs.Calls.{Adds, FoundOff, Meets, Took}
use Rattle.shared_daemon.specs.Entries.{AllMade, entry_of, events, maker_of, past_seen}
use Rattle.shared_daemon.specs.Names.{IsLogOf, IsPass, Name}
use Rattle.shared_daemon.proofs.Logs.{begins-all, beyond-longer, events-append, made-back, made_by-append}
use Rattle.claim_runs.specs.Made.{StepMade, cut_events, start_events, step_events}
use Rattle.claim_runs.specs.Ran.{Gained}
use Rattle.claim_runs.proofs.Kept.{past-added}
use Rattle.script_runs.specs.Passes.{own}

filter-cons : {X : Type 0} (p : X → Bool) (x : X) (xs ys : List X) → filter p xs ≡ filter p ys → filter p (x ∷ xs) ≡ filter p (x ∷ ys)
filter-cons p x xs ys e =
    by_test (p x) _
    (λ t. filter-yes p x xs t ∙ ap (λ (l : List _). x ∷ l) e ∙ sym (filter-yes p x ys t))
    (λ f. filter-no p x xs f ∙ e ∙ sym (filter-no p x ys f))

-- What a client gained as its own, between two pasts of one boot: moments, of those of these events that
-- are its own.
pub record OwnGained (client : ℕ) (more : List Event) (old new : List Event) : Type 0 where
  pub moments : List Moment
  pub own_are : mine client new ≡ mine client old ++ moments
  pub events_are : map (λ (m : Moment). m.event) moments ≡ filter (is_of client) more

-- The oldest of the newer events goes first.
turned : (event : Event) (rest past : List Event) → reverse (event ∷ rest) ++ past ≡ reverse rest ++ (event ∷ past)
turned event rest past =
    ap (λ (l : List Event). l ++ past) (reverse-append (event ∷ []) rest) ∙ append_assoc (reverse rest) (event ∷ []) past

-- Where there are as many boots, none is among the newer events.
pub one-more : (past : List Event) (event : Event) → is_boot event ≡ true → boots (event ∷ past) ≡ boots past + 1
one-more past event b = rw b refl

too-many : (a b c : ℕ) → b ≡ c + 1 → b ≤ a → a ≡ c → ⊥
too-many a b c e l s = omega arith

no-boots : (rest past : List Event) → boots (reverse rest ++ past) ≡ boots past → AllByRecursion (λ e. is_boot e ≡ false) rest
no-boots [] past h = tt
no-boots (event ∷ rest) past h =
    let h' : boots (reverse rest ++ (event ∷ past)) ≡ boots past = sym (ap boots (turned event rest past)) ∙ h in
    by_test (is_boot event) _
    (λ t. absurd (too-many (boots (reverse rest ++ (event ∷ past))) (boots (event ∷ past)) (boots past) (one-more past event t) (some-boots (reverse rest) (event ∷ past)) h'))
    (λ f. (f, no-boots rest (event ∷ past) (h' ∙ sym (boots-same past event f))))

-- A past that grew by these events, of which none is a boot.
grown : (client : ℕ) (rest past : List Event) → AllByRecursion (λ e. is_boot e ≡ false) rest → OwnGained client rest past (reverse rest ++ past)
grown client [] past b = record { moments = []; own_are = sym (append-nil (mine client past)); events_are = refl }
grown client (event ∷ rest) past b =
    let k : OwnGained client rest (event ∷ past) (reverse rest ++ (event ∷ past)) = grown client rest (event ∷ past) b.1 in
    let all : mine client (reverse (event ∷ rest) ++ past) ≡ mine client (event ∷ past) ++ k.moments = ap (mine client) (turned event rest past) ∙ k.own_are in
    by_test (is_of client event) (OwnGained client (event ∷ rest) past (reverse (event ∷ rest) ++ past))
    (λ t. record {
      moments = at past event ∷ k.moments;
      own_are = all
          ∙ ap (λ (l : List Moment). l ++ k.moments) (mine-own client past event b.0 t)
          ∙ append_assoc (mine client past) (at past event ∷ []) k.moments;
      events_are = ap (λ (l : List Event). event ∷ l) k.events_are ∙ sym (filter-yes (is_of client) event rest t);
    })
    (λ f. record {
      moments = k.moments;
      own_are = all ∙ ap (λ (l : List Moment). l ++ k.moments) (mine-other client past event b.0 f);
      events_are = k.events_are ∙ sym (filter-no (is_of client) event rest f);
    })

-- What a client didn't make is none of its own.
not-made : (o : Option ℕ) (maker client : ℕ) → IfSome o (λ c. c ≡ maker) → (maker == client) ≡ false → unwrap_or (option_map (λ c. c == client) o) false ≡ false
not-made None maker client m n = refl
not-made (Some c) maker client m n = ap (λ (x : ℕ). x == client) m ∙ n

own-made : (client : ℕ) (list : List Entry) → AllMade list → filter (is_of client) (events list) ≡ filter (is_of client) (events (made_by maker_of client list))
own-made client [] m = refl
own-made client (x ∷ list) m =
    let p : Entry → Bool = λ e. maker_of e == client in
    let rest : filter (is_of client) (events list) ≡ filter (is_of client) (events (made_by maker_of client list)) = own-made client list m.1 in
    by_test (x.maker == client) _
    (λ t. filter-cons (is_of client) x.event (events list) (events (made_by maker_of client list)) rest
    ∙ sym (ap (λ (l : List Entry). filter (is_of client) (events l)) (filter-yes p x list t)))
    (λ f. filter-no (is_of client) x.event (events list) (not-made (client_of x.event) x.maker client m.0 f)
    ∙ rest
    ∙ sym (ap (λ (l : List Entry). filter (is_of client) (events l)) (filter-no p x list f)))

events-made : (client : ℕ) (more : List Event) → events (map (entry_of client) more) ≡ more
events-made client [] = refl
events-made client (event ∷ more) = ap (λ (l : List Event). event ∷ l) (events-made client more)

-- A log that grew: the client gained what it made itself.
log-grown : (name : Name) (client : ℕ) (seen met : List Entry) → IsLogOf name seen → IsLogOf name met → BeginsWith met seen → OwnGained client (events (made_by maker_of client (beyond seen met))) (past_seen seen) (past_seen met)
log-grown name client seen met l n b =
    let more : List Entry = beyond seen met in
    let whole : met ≡ seen ++ more = begins-all met seen b in
    let back : past_seen met ≡ reverse (events more) ++ past_seen seen = ap past_of (ap events whole ∙ events-append seen more) ∙ reverse-append (events seen) (events more) in
    let quiet : AllByRecursion (λ e. is_boot e ≡ false) (events more) = no-boots (events more) (past_seen seen) (sym (ap boots back) ∙ n.boots_are ∙ sym l.boots_are) in
    let g : OwnGained client (events more) (past_seen seen) (reverse (events more) ++ past_seen seen) = grown client (events more) (past_seen seen) quiet in
    record {
      moments = g.moments;
      own_are = ap (mine client) back ∙ g.own_are;
      events_are = g.events_are ∙ own-made client more (made-back seen more (subst AllMade whole n.made));
    }

-- Where others alone made what came since, a client's own moments are the same.
no-moments : (moments : List Moment) → map (λ (m : Moment). m.event) moments ≡ [] → moments ≡ []
no-moments [] e = refl
no-moments (m ∷ moments) e = cc

pub mine-met : (name : Name) (client : ℕ) (seen met : List Entry) → IsLogOf name seen → Meets name client seen met → mine client (past_seen met) ≡ mine client (past_seen seen)
mine-met name client seen met l m =
    let g : OwnGained client (events (made_by maker_of client (beyond seen met))) (past_seen seen) (past_seen met) = log-grown name client seen met l m.log m.begins in
    let none : g.moments ≡ [] = no-moments g.moments (g.events_are ∙ ap (λ (x : List Entry). filter (is_of client) (events x)) m.others) in
    g.own_are ∙ ap (λ (x : List Moment). mine client (past_seen seen) ++ x) none ∙ append-nil (mine client (past_seen seen))

-- A turn.
module _ {did : List Entry → List Entry → Type 0} (name : Name) (lock : LockId) (old new : PassView Entry) (p : IsPass lock name old) (same : new.number ≡ old.number) (t : Took name did old new) where
  -- What it met.
  pub own-met : mine old.number (past_seen t.met) ≡ own old
  own-met = mine-met name old.number old.seen t.met p.log t.meets

  own-now : (past : List Event) → past_seen new.seen ≡ past → own new ≡ mine old.number past
  own-now past e = ap (λ (n : ℕ). mine n (past_seen new.seen)) same ∙ ap (mine old.number) e

  -- It put an event of the client behind the log, or one of nobody, or none.
  pub own-event : (event : Event) → is_boot event ≡ false → client_of event ≡ Some old.number → Adds old.number event t.met new.seen → own new ≡ own old ++ at (past_seen t.met) event ∷ []
  own-event event b o a =
      own-now (event ∷ past_seen t.met) (past-added old.number event t.met new.seen a)
      ∙ mine-own old.number (past_seen t.met) event b (is_of-own old.number event o)
      ∙ ap (λ (l : List Moment). l ++ at (past_seen t.met) event ∷ []) own-met

  pub own-cut : Adds old.number Event.Cut t.met new.seen → own new ≡ own old
  own-cut a =
      own-now (Event.Cut ∷ past_seen t.met) (past-added old.number Event.Cut t.met new.seen a)
      ∙ mine-other old.number (past_seen t.met) Event.Cut refl refl
      ∙ own-met

  pub own-none : new.seen ≡ t.met → own new ≡ own old
  own-none e = own-now (past_seen t.met) (ap (λ (l : List Entry). past_seen l) e) ∙ own-met

  -- It was answered off.
  pub own-off : FoundOff old.number t.met new.seen → own new ≡ own old
  own-off (inl u) = own-none u.1
  own-off (inr c) = own-cut c.1

-- What a pass gained as its own.
made-since : (lock : LockId) (name : Name) (old new : PassView Entry) (more : List Event) → IsPass lock name old → IsPass lock name new → Gained more old new → made_by maker_of old.number (beyond old.seen new.seen) ≡ map (entry_of old.number) more
made-since lock name old new more p q g =
    let rest : List Entry = beyond old.seen new.seen in
    let whole : new.seen ≡ old.seen ++ rest = begins-all new.seen old.seen g.seen in
    let longer : beyond name.start new.seen ≡ beyond name.start old.seen ++ rest = beyond-longer new.seen old.seen name.start p.log.begins whole in
    let now : new.mine ≡ made_by maker_of old.number (beyond name.start new.seen) = q.mine ∙ ap (λ (n : ℕ). made_by maker_of n (beyond name.start new.seen)) g.same in
    let parts : new.mine ≡ old.mine ++ made_by maker_of old.number rest =
    now
    ∙ ap (λ (l : List Entry). made_by maker_of old.number l) longer
    ∙ made_by-append old.number (beyond name.start old.seen) rest
    ∙ ap (λ (l : List Entry). l ++ made_by maker_of old.number rest) (sym p.mine) in
    append_cancel_left old.mine (made_by maker_of old.number rest) (map (entry_of old.number) more) (sym parts ∙ g.mine_are)

-- What a pass gained as its own moments, of the events that it gained as its own: a cut is nobody's.
pub record OwnOf (more : List Event) (old new : PassView Entry) : Type 0 where
  pub moments : List Moment
  pub own_are : own new ≡ own old ++ moments
  pub events_are : map (λ (m : Moment). m.event) moments ≡ filter (is_of old.number) more

pub own-gained : (lock : LockId) (name : Name) (old new : PassView Entry) (more : List Event) → IsPass lock name old → IsPass lock name new → Gained more old new → OwnOf more old new
own-gained lock name old new more p q g =
    let k : OwnGained old.number (events (made_by maker_of old.number (beyond old.seen new.seen))) (past_seen old.seen) (past_seen new.seen) = log-grown name old.number old.seen new.seen p.log q.log g.seen in
    record {
      moments = k.moments;
      own_are = ap (λ (n : ℕ). mine n (past_seen new.seen)) g.same ∙ k.own_are;
      events_are = k.events_are
          ∙ ap (λ (l : List Entry). filter (is_of old.number) (events l)) (made-since lock name old new more p q g)
          ∙ ap (filter (is_of old.number)) (events-made old.number more);
    }

-- Which events of a run of a claim are the client's own: all but the cut.
own-own : (client : ℕ) (event : Event) (rest : List Event) → client_of event ≡ Some client → filter (is_of client) (event ∷ rest) ≡ event ∷ filter (is_of client) rest
own-own client event rest o = filter-yes (is_of client) event rest (is_of-own client event o)

pub own-steps : (client entry : ℕ) (steps : List StepMade) → filter (is_of client) (step_events client entry steps) ≡ step_events client entry steps
own-steps client entry [] = refl
own-steps client entry (s ∷ steps) =
    let start : Event = Event.Start client entry s.op in
    let end : Event = Event.End client entry s.op s.outcome s.told s.seen in
    own-own client start (end ∷ step_events client entry steps) refl
    ∙ ap (λ (l : List Event). start ∷ l) (own-own client end (step_events client entry steps) refl ∙ ap (λ (l : List Event). end ∷ l) (own-steps client entry steps))

pub own-started : (client entry : ℕ) (started : Option Op) → filter (is_of client) (start_events client entry started) ≡ start_events client entry started
own-started client entry None = refl
own-started client entry (Some op) = own-own client (Event.Start client entry op) [] refl

pub own-cut_events : (client : ℕ) (cut : Bool) → filter (is_of client) (cut_events cut) ≡ []
own-cut_events client true = refl
own-cut_events client false = refl

-- Of an entry that was finished, and of one that was given back.
pub own-finished : (client entry : ℕ) (steps : List StepMade) (event : Event) → client_of event ≡ Some client → filter (is_of client) (step_events client entry steps ++ event ∷ []) ≡ step_events client entry steps ++ event ∷ []
own-finished client entry steps event o =
    filter-append (is_of client) (step_events client entry steps) (event ∷ [])
    ∙ ap (λ (l : List Event). l ++ filter (is_of client) (event ∷ [])) (own-steps client entry steps)
    ∙ ap (λ (l : List Event). step_events client entry steps ++ l) (own-own client event [] o)

pub own-back : (client entry : ℕ) (steps : List StepMade) (started : Option Op) (cut : Bool) (event : Event) → client_of event ≡ Some client
    → filter (is_of client) (step_events client entry steps ++ (start_events client entry started ++ (cut_events cut ++ event ∷ []))) ≡ step_events client entry steps ++ (start_events client entry started ++ event ∷ [])
own-back client entry steps started cut event o =
    let p : Event → Bool = is_of client in
    let start : List Event = start_events client entry started in
    let front : List Event = step_events client entry steps in
    let last : filter p (cut_events cut ++ event ∷ []) ≡ event ∷ [] =
    filter-append p (cut_events cut) (event ∷ []) ∙ ap (λ (l : List Event). l ++ filter p (event ∷ [])) (own-cut_events client cut) ∙ own-own client event [] o in
    let middle : filter p (start ++ (cut_events cut ++ event ∷ [])) ≡ start ++ event ∷ [] =
    filter-append p start (cut_events cut ++ event ∷ [])
    ∙ ap (λ (l : List Event). l ++ filter p (cut_events cut ++ event ∷ [])) (own-started client entry started)
    ∙ ap (λ (l : List Event). start ++ l) last in
    filter-append p front (start ++ (cut_events cut ++ event ∷ []))
    ∙ ap (λ (l : List Event). l ++ filter p (start ++ (cut_events cut ++ event ∷ []))) (own-steps client entry steps)
    ∙ ap (λ (l : List Event). front ++ l) middle
