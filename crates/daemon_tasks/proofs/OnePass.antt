-- What a pass did, by the log as the daemon closed.
use Rattle.std.proofs.Common.{◌≡◌, ℕ, ◌<◌, ◌≤◌, true, List, [], ◌++◌, All, ap, sym, ◌∙◌, subst}
use Rattle.std.specs.Prelude.{◌==◌}
use Rattle.std.specs.List.{list_any}
use Rattle.update_log.specs.declared.live.Held.{Held}
use Rattle.update_log.specs.declared.live.LiveEntry.{LiveEntry}
use Rattle.update_log.specs.Holding.{hold_of}
use Rattle.update_log.specs.Legal.{IsFree}
use Rattle.update_log.specs.Pasts.{off}
use Rattle.client_plays.specs.Faults.{FaultsTold}
use Rattle.client_plays.specs.Moments.{Moment, mine}
use Rattle.turn_lock.specs.Lists.{BeginsWith, beyond, made_by}
use Rattle.turn_lock.specs.Shown.{HasItsEntries, IsFresh, LockId, PassView}
use Rattle.turn_lock.proofs.Counting.{made_by-past}
use Rattle.shared_daemon.specs.declared.entry.Entry.{Entry}
use Rattle.shared_daemon.specs.Calls.{Meets}
use Rattle.shared_daemon.specs.Closings.{IsFreePass}
use Rattle.shared_daemon.specs.Entries.{maker_of, past_seen}
use Rattle.shared_daemon.specs.Names.{HasNothing, IsLogOf, IsPass, Name}
use Rattle.shared_daemon.proofs.Seeing.{others-since, stays}
use Rattle.script_runs.specs.Passes.{own}
use Rattle.script_runs.proofs.OwnMoments.{mine-met}

-- Where nobody has anything out, a pass has nothing out.
pub fresh-free : (start : List Entry) (pass : PassView Entry) → HasNothing start → IsFresh start pass → IsFreePass pass
fresh-free start pass n f =
    subst (λ (list : List Entry). IsFree (past_seen list) pass.number) (sym f.0)
    (record {
      hold = ap (λ (h : List Held). hold_of h pass.number) n.0;
      live = ap (λ (l : List LiveEntry). list_any (λ e. e.client == pass.number) l) n.1;
    })

module _ (name : Name) (log : List Entry) (s : IsLogOf name name.start) (l : IsLogOf name log) where
  -- Who made none of the entries since did nothing.
  quiet : (client : ℕ) → made_by maker_of client (beyond name.start log) ≡ [] → mine client (past_seen log) ≡ mine client (past_seen name.start)
  quiet client none = mine-met name client name.start log s (record { begins = l.begins; others = none; log = l })

  -- A pass that was never used.
  pub unused-quiet : (pass : PassView Entry) → IsFresh name.start pass → HasItsEntries maker_of name.start log pass → mine pass.number (past_seen log) ≡ mine pass.number (past_seen name.start)
  unused-quiet pass f m = quiet pass.number (sym m ∙ f.2)

  -- A number that no pass has.
  pub stranger-quiet : (seats client : ℕ) → seats ≤ client → All (λ (e : Entry). maker_of e < seats) (beyond name.start log) → mine client (past_seen log) ≡ mine client (past_seen name.start)
  stranger-quiet seats client high makers = quiet client (made_by-past maker_of seats client (beyond name.start log) high makers)

  -- A pass that was used.
  module _ (lock : LockId) (old new : PassView Entry) (q : IsPass lock name new) (same : new.number ≡ old.number) (f : IsFresh name.start old) (b : BeginsWith log new.seen) (m : HasItsEntries maker_of name.start log new) where
    met : Meets name new.number new.seen log
    met =
        record {
          begins = b;
          others = others-since name new.number new.seen log q.log b (sym q.mine ∙ m);
          log = l;
        }

    own-then : own old ≡ mine old.number (past_seen name.start)
    own-then = ap (λ (list : List Entry). mine old.number (past_seen list)) f.0

    own-now : mine old.number (past_seen log) ≡ own new
    own-now =
        ap (λ (n : ℕ). mine n (past_seen log)) (sym same)
        ∙ mine-met name new.number new.seen log q.log met

    -- Its own moments since the daemon began are all that its client did.
    pub own-after : (moments : List Moment) → own new ≡ own old ++ moments → mine old.number (past_seen log) ≡ mine old.number (past_seen name.start) ++ moments
    own-after moments e = own-now ∙ e ∙ ap (λ (x : List Moment). x ++ moments) own-then

    -- The faults of its shelf that the log tells of it were counted.
    pub own-counted : (x y : ℕ) → FaultsTold (own old) (own new) x y → FaultsTold (mine old.number (past_seen name.start)) (mine old.number (past_seen log)) x y
    own-counted x y t =
        subst (λ (ms : List Moment). FaultsTold ms (mine old.number (past_seen log)) x y) own-then
        (subst (λ (ms : List Moment). FaultsTold (own old) ms x y) (sym own-now) t)

    -- A boot that it saw off is off.
    pub off-later : off (past_seen new.seen) ≡ true → off (past_seen log) ≡ true
    off-later = (stays name new.number new.seen log q.log met).is_off
