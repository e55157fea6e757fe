use Rattle.std.proofs.Common.{◌≡◌, ◌∙◌, List, None, Some, inl, inr, refl, sym, ap, subst}
use Rattle.std.proofs.lemmas.Result.{IfErr-weaker, err_from_is_err_and, on_ok_weaker, on_err_weaker}
use Rattle.sqlite.specs.Held.{state}
use Rattle.sqlite.specs.State.{HasCleanDisk}
use Rattle.history_keeper.specs.declared.row.Row.{Row}
use Rattle.history_keeper.specs.Changes.{Suits}
use Rattle.history_keeper.specs.Keepers.{StillSettled, StillTold}
use Rattle.history_sqlite.specs.Keeping.{Keeping, doubtful}
use Rattle.history_sqlite.specs.Tables.{Loads}
use Rattle.history_sqlite.specs.Telling.{IsSettled, SettledSo, TellsRows, database}
use Rattle.history_sqlite.proofs.AtHand.{still_read}
use Rattle.history_sqlite.proofs.Opening.{on_err, where_ok}
use Rattle.history_sqlite.proofs.TellingLemmas.{knows_clear, reopened_written, settled, still_settled, suits_told, told_alike}
use Rattle.history_sqlite.proofs.sql_keeper.SqlKeeper.settle.Goals as goal

pub returns-in-Some-clause-settles : goal.returns-in-Some-clause-settles
returns-in-Some-clause-settles g c clean =
    let old = c.args.self.now in
    let doubt : old.doubt ≡ Some c.in-Some.doubt = sym (ap (λ (k : Keeping g.row.D.Denot). k.doubt) c.read.ensures.same) ∙ sym (ap (λ (k : Keeping g.row.D.Denot). k.doubt) (c.self-2.view_is ∙ c.keep_at_hand.ensures)) ∙ c.in-Some.is in
    on_ok_weaker c.write.result
    (settled (database g.D.Store old) (database g.D.Store c.keep_at_hand.new.self) (database g.D.Store c.write.new.self) old.doubt c.in-Some.doubt c.in_ok-rows.rows.items doubt c.if-doubt.true
    (subst (λ k. HasCleanDisk (database g.D.Store k) → Loads (database g.D.Store c.args.self.now) (database g.D.Store k) c.in_ok-rows.rows.items) (sym c.keep_at_hand.ensures) c.in_ok-rows.ensures.loads (c.write.ensures.clean clean)))
    (c.write.ensures.makes clean)

pub returns-in-Some-clause-refused : goal.returns-in-Some-clause-refused
returns-in-Some-clause-refused g c clean is_open =
    let loads = subst (λ k. HasCleanDisk (database g.D.Store k) → Loads (database g.D.Store c.args.self.now) (database g.D.Store k) c.in_ok-rows.rows.items) (sym c.keep_at_hand.ensures) c.in_ok-rows.ensures.loads (c.write.ensures.clean clean) in on_err_weaker c.write.result (λ keeps rows holds. keeps rows (loads rows holds).1) (c.write.ensures.refused clean is_open)

pub returns-in-Some-clause-failed : goal.returns-in-Some-clause-failed
returns-in-Some-clause-failed g c clean =
    let old = c.args.self.now in
    let doubt : old.doubt ≡ Some c.in-Some.doubt = sym (ap (λ (k : Keeping g.row.D.Denot). k.doubt) c.read.ensures.same) ∙ sym (ap (λ (k : Keeping g.row.D.Denot). k.doubt) (c.self-2.view_is ∙ c.keep_at_hand.ensures)) ∙ c.in-Some.is in
    IfErr-weaker c.write.result _ _ (λ why failed. inr (c.in-Some.doubt, doubt, c.keep_at_hand.new.self.connection, failed)) (c.write.ensures.failed clean)

pub returns-in-Some-clause-reads : goal.returns-in-Some-clause-reads
returns-in-Some-clause-reads g c clean =
    where_ok c.write.result (c.read.new.self.connection, c.in_ok-rows.rows.items, c.in_ok-rows.ensures.read (subst (λ k. HasCleanDisk (database g.D.Store k)) c.keep_at_hand.ensures (c.write.ensures.clean clean)))

pub returns-in-Some-clause-reopened : goal.returns-in-Some-clause-reopened
returns-in-Some-clause-reopened g c =
    let doubt : c.args.self.now.doubt ≡ Some c.in-Some.doubt = sym (ap (λ (k : Keeping g.row.D.Denot). k.doubt) c.read.ensures.same) ∙ sym (ap (λ (k : Keeping g.row.D.Denot). k.doubt) (c.self-2.view_is ∙ c.keep_at_hand.ensures)) ∙ c.in-Some.is in
    let tells = TellsRows g.D.Store g.D.Lasting.supposed in
    reopened_written tells c.args.self.now c.keep_at_hand.new.self c.write.new.self c.write.result c.in-Some.doubt doubt
    (ap (λ (k : Keeping g.row.D.Denot). k.doubt) (c.keep_at_hand.ensures ∙ c.read.ensures.same)) (subst (λ k. StillTold (tells c.args.self.now) (tells k)) (sym c.keep_at_hand.ensures) c.read.ensures.unchanged) c.write.ensures.made c.write.ensures.no_doubt c.write.ensures.unchanged c.write.ensures.same

pub returns-in-Some-clause-still : goal.returns-in-Some-clause-still
returns-in-Some-clause-still g c =
    let mid = c.keep_at_hand.new.self in
    let new = c.write.new.self in
    on_err c.write.result (λ e is first s.
    let same : new ≡ record mid { connection = new.connection } = rw is at c.write.ensures.same in
    subst (λ left. SettledSo (database g.D.Store first) (database g.D.Store new) first.doubt left) (sym (ap (λ (k : Keeping g.row.D.Denot). k.doubt) same))
    (still_settled (database g.D.Store first) (database g.D.Store mid) (database g.D.Store new) first.doubt mid.doubt c.write.ensures.clean c.write.ensures.was_open
    (λ clean is_open. rw is at (c.write.ensures.refused clean is_open)) (subst (λ k. StillSettled (IsSettled g.D.Store) c.args.self.now k) (sym c.keep_at_hand.ensures) c.read.ensures.settled first s)))

pub invariant_of-self : goal.invariant_of-self
invariant_of-self g c =
    let s = c.self-in_default.inside in (tt, knows_clear g.D.Lasting.supposed (state g.D.Store s.connection) s.tells s.doubt c.self-in_default.invariant.1)

pub returns-in_err-rows-clause-reopened : goal.returns-in_err-rows-clause-reopened
returns-in_err-rows-clause-reopened g c =
    let p = err_from_is_err_and c.from_residual.result c.from_residual.ensures.1 in rw p.1 (c.read.ensures.unchanged, ap (λ (k : Keeping g.row.D.Denot). doubtful k) c.read.ensures.same)

pub returns-in_err-rows-clause-still : goal.returns-in_err-rows-clause-still
returns-in_err-rows-clause-still g c =
    let p = err_from_is_err_and c.from_residual.result c.from_residual.ensures.1 in rw p.1 c.read.ensures.settled

-- the change that is still in doubt suits the rows
pub write-requires-clause-suits : goal.write-requires-clause-suits
write-requires-clause-suits g c =
    let s = c.self-2.inside in
    let here : Keeping g.row.D.Denot = record { connection = s.connection; doubt = s.doubt; plan = s.plan.items; calls = s.calls; faults = s.faults; tells = s.tells } in
    subst (λ k. (all : List Row) → TellsRows g.D.Store g.D.Lasting.supposed k all → Suits c.in-Some.doubt.change all) c.self-2.view_is
    (suits_told g.D.Store g.D.Lasting.supposed here c.self-2.invariant.1 c.in-Some.doubt c.in-Some.is)

pub returns-in_default-clause-reads : goal.returns-in_default-clause-reads
returns-in_default-clause-reads g c clean =
    let late : HasCleanDisk (database g.D.Store c.read.new.self) = subst (λ k. HasCleanDisk (database g.D.Store k)) (c.self-in_default.view_is ∙ c.keep_at_hand.ensures) clean in
    (c.read.new.self.connection, c.in_ok-rows.rows.items, c.in_ok-rows.ensures.read late)

pub returns-in_default-clause-reopened : goal.returns-in_default-clause-reopened
returns-in_default-clause-reopened g c =
    let s = c.self-in_default.inside in
    let e = c.self-in_default.view_is in
    let new : Keeping g.row.D.Denot = record { connection = s.connection; doubt = None; plan = s.plan.items; calls = s.calls; faults = s.faults; tells = s.tells } in (
      λ all t.
          let before = told_alike g.D.Store c.keep_at_hand.new.self new (ap (λ (k : Keeping g.row.D.Denot). k.connection) e) g.D.Lasting.supposed (ap (λ (k : Keeping g.row.D.Denot). k.tells) e) all t in
          (all, c.read.ensures.unchanged all (subst (λ k. TellsRows g.D.Store g.D.Lasting.supposed k all) c.keep_at_hand.ensures before), inl refl),
      refl,
    )

-- the rows that were read are those of the database as it is
pub keep_at_hand-requires : goal.keep_at_hand-requires
keep_at_hand-requires g c clean = still_read (database g.D.Store c.args.self.now) (database g.D.Store c.read.new.self) c.in_ok-rows.rows.items (c.in_ok-rows.ensures.read clean)
