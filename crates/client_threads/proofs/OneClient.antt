-- What a client did, by the log as the daemon closed.
use Rattle.std.proofs.Common.{◌≡◌, ℕ, Bool, true, List, [], ◌++◌, ap, sym, ◌∙◌, subst}
use Rattle.update_log.specs.Pasts.{off}
use Rattle.client_scripts.specs.declared.item.Item.{Item}
use Rattle.client_plays.specs.Faults.{FaultsTold}
use Rattle.client_plays.specs.Moments.{Moment, mine}
use Rattle.client_plays.specs.Plays.{Plays}
use Rattle.client_plays.specs.Scripts.{PlayedSo, items_of}
use Rattle.client_plays.specs.Tools.{Files, means_of}
use Rattle.plugin_trait.specs.Steps.{PluginSteps}
use Rattle.turn_lock.specs.Lists.{BeginsWith}
use Rattle.turn_lock.specs.Shown.{HasItsEntries, IsFresh, LockId}
use Rattle.shared_daemon.specs.declared.entry.Entry.{Entry}
use Rattle.shared_daemon.specs.Entries.{maker_of, past_seen}
use Rattle.shared_daemon.specs.Names.{IsLogOf, Name}
use Rattle.daemon_tasks.proofs.OnePass.{off-later, own-after, own-counted}
use Rattle.client_threads.specs.declared.clients.Client.{Client}
use Rattle.client_threads.specs.Clients.{PlayedScript}
use Rattle.daemon_tasks.proofs.JudgeLoops.{still-played}

module _ {P : Type 0} (name : Name) (log : List Entry) (s : IsLogOf name name.start) (l : IsLogOf name log) (files : P → Files) (plugins : ℕ → PluginSteps) (faults : P → ℕ) (lock : LockId) (of_boot : List (List Item)) (old new : Client P)
    (p : PlayedScript files plugins faults lock name of_boot old new) (f : IsFresh name.start old.pass) (b : BeginsWith log new.pass.seen) (m : HasItsEntries maker_of name.start log new.pass) where
  own-moments : mine old.pass.number (past_seen name.start) ≡ [] → mine old.pass.number (past_seen log) ≡ p.went.moments
  own-moments none =
      own-after name log s l lock old.pass new.pass p.pass p.went.did.same f b m p.went.moments p.went.did.own_are
      ∙ ap (λ (x : List Moment). x ++ p.went.moments) none

  -- The faults of its shelf that the log tells of it were counted.
  pub one-told : FaultsTold (mine old.pass.number (past_seen name.start)) (mine old.pass.number (past_seen log)) (faults old.shelf) (faults new.shelf)
  one-told = own-counted name log s l lock old.pass new.pass p.pass p.went.did.same f b m (faults old.shelf) (faults new.shelf) p.told

  pub one-played : (wanting : Bool) → (new.wanting ≡ true → wanting ≡ true) → mine old.pass.number (past_seen name.start) ≡ []
      → PlayedSo (off (past_seen log)) wanting old.pass.number (Plays name.basis (means_of (files old.shelf) plugins) old.pass.number) (items_of of_boot old.pass.number) (mine old.pass.number (past_seen log))
  one-played wanting told none =
      let n : ℕ = old.pass.number in
      let Play : Item → List Moment → Type 0 = Plays name.basis (means_of (files old.shelf) plugins) n in
      let later : off (past_seen new.pass.seen) ≡ true → off (past_seen log) ≡ true = off-later name log s l lock old.pass new.pass p.pass p.went.did.same f b m in
      subst (λ (ms : List Moment). PlayedSo (off (past_seen log)) wanting n Play (items_of of_boot n) ms) (sym (own-moments none))
      (still-played n Play (items_of of_boot n) p.went.moments (off (past_seen new.pass.seen)) (off (past_seen log)) new.wanting wanting later told p.went.plays)
