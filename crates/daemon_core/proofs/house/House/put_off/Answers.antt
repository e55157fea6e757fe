use Rattle.std.proofs.Common.{◌≡◌, ◌≤◌, ◌+◌, ◌∷◌, false, ap, sym, ◌∙◌, subst, arith, inl, inr, refl}
use Rattle.std.specs.Prelude.{Err, None, Some}
use Rattle.history_keeper.specs.declared.change.Change.{Change}
use Rattle.history_keeper.specs.Signs.{signs_of}
use Rattle.update_log.specs.Pasts.{meets_fault, off}
use Rattle.update_log.specs.declared.answer.ClaimAnswer.{ClaimAnswer}
use Rattle.update_log.specs.declared.event.Event.{Event}
use Rattle.update_log.specs.declared.refusal.Refusal.{Refusal}
use Rattle.daemon_core.specs.HouseLog.{Appended}
use Rattle.daemon_core.specs.Housed.{HouseLogView, Housed, past_in}
use Rattle.daemon_core.specs.Keeping.{keeper_faults}
use Rattle.daemon_core.specs.Owed.{owed}
use Rattle.daemon_core.specs.Turns.{KeeperFared}
use Rattle.daemon_core.proofs.HouseLogKept.{appended-past}
use Rattle.daemon_core.proofs.CommitKept.{house-unstored}
use Rattle.daemon_core.proofs.Fared.{calm-memory, calm-ok, counted-more, fared-quiet, told-left, told-with}
use Rattle.daemon_core.proofs.PuttingOff.{house-off, house-plain, keeps-left, keeps-made, kept-doubted, kept-made, off-legal, owed-entry, owed-faulted, quiet-faults, suits-told}
use Rattle.daemon_core.proofs.house.House.put_off.Goals as goal

pub commit-requires-clause-no_doubt : goal.commit-requires-clause-no_doubt
commit-requires-clause-no_doubt g c =
    let e : c.self.inside.house_log ≡ c.args.self.now.house_log = ap (λ (h : Housed g.row.K.Denot). h.house_log) c.self.view_is in
    let h = house-plain (signs_of g.K.Keeper.tells g.K.Keeper.doubt g.K.Keeper.faults) (record { house_log = c.self.inside.house_log; places = c.self.inside.places.items; pool = c.self.inside.pool; keeper = c.self.inside.keeper }) c.args.self.now.house_log e c.self.invariant c.known.ensures c.requires.loaded c.requires.runs.on in
    h.doubt_is

pub commit-requires-clause-suits : goal.commit-requires-clause-suits
commit-requires-clause-suits g c =
    let e : c.self.inside.house_log ≡ c.args.self.now.house_log = ap (λ (h : Housed g.row.K.Denot). h.house_log) c.self.view_is in
    let h = house-plain (signs_of g.K.Keeper.tells g.K.Keeper.doubt g.K.Keeper.faults) (record { house_log = c.self.inside.house_log; places = c.self.inside.places.items; pool = c.self.inside.pool; keeper = c.self.inside.keeper }) c.args.self.now.house_log e c.self.invariant c.known.ensures c.requires.loaded c.requires.runs.on in
    suits-told _ c.self.inside.house_log.core.rows (Change.Add c.row_put_off-row.result) h.rows_are c.row_put_off-row.ensures.suits

pub note-requires-clause-room : goal.note-requires-clause-room
note-requires-clause-room g c =
    let e : c.self.inside.house_log ≡ c.args.self.now.house_log = ap (λ (h : Housed g.row.K.Denot). h.house_log) c.self.view_is in
    let o = owed-entry (past_in c.self.inside.house_log) c.args.client c.args.request.now c.row_put_off-row.result.entry in
    let w = ap (λ (x : Event). owed (x ∷ past_in c.self.inside.house_log)) c.put_off.ensures in
    let r = subst (λ (a : HouseLogView). owed (past_in a) + 1 ≤ a.room) (sym e) c.requires.room in
    omega (arith, o, w, r)

pub note-requires-in-Err-Fault-clause-room : goal.note-requires-in-Err-Fault-clause-room
note-requires-in-Err-Fault-clause-room g c =
    let e : c.self.inside.house_log ≡ c.args.self.now.house_log = ap (λ (h : Housed g.row.K.Denot). h.house_log) c.self.view_is in
    let o = owed-faulted (past_in c.self.inside.house_log) c.args.client c.args.request.now in
    let w = ap (λ (x : Event). owed (x ∷ past_in c.self.inside.house_log)) c.put_off-in-Err-Fault.ensures in
    let r = subst (λ (a : HouseLogView). owed (past_in a) + 1 ≤ a.room) (sym e) c.requires.room in
    omega (arith, o, w, r)

pub invariant_of-self : goal.invariant_of-self
invariant_of-self g c =
    let e : c.self.inside.house_log ≡ c.args.self.now.house_log = ap (λ (h : Housed g.row.K.Denot). h.house_log) c.self.view_is in
    let h = house-plain (signs_of g.K.Keeper.tells g.K.Keeper.doubt g.K.Keeper.faults) (record { house_log = c.self.inside.house_log; places = c.self.inside.places.items; pool = c.self.inside.pool; keeper = c.self.inside.keeper }) c.args.self.now.house_log e c.self.invariant c.known.ensures c.requires.loaded c.requires.runs.on in
    let on : off (past_in c.self.inside.house_log) ≡ false = ap (λ (x : HouseLogView). off (past_in x)) e ∙ c.requires.runs.on in
    let l = off-legal c.self.inside.house_log c.args.self.now.house_log c.args.client c.args.request.now (ClaimAnswer.Entry c.row_put_off-row.result.entry) e c.known.ensures c.requires.runs c.requires.booted c.requires.free c.requires.accepted
    (inl (ap ClaimAnswer.Entry c.row_put_off-row.ensures.entry)) in
    house-off (signs_of g.K.Keeper.tells g.K.Keeper.doubt g.K.Keeper.faults) c.args.client c.args.request.now (ClaimAnswer.Entry c.row_put_off-row.result.entry) (record { house_log = c.self.inside.house_log; places = c.self.inside.places.items; pool = c.self.inside.pool; keeper = c.self.inside.keeper })
    c.note.new.self c.commit.new.self c.self.invariant c.known.ensures c.note.ensures.known
    (subst (λ (x : Event). Appended c.args.client x c.self.inside.house_log c.note.new.self) c.put_off.ensures c.note.ensures.appended)
    l (ap (λ (x : HouseLogView). x.loaded) e ∙ c.requires.loaded)
    (kept-made (signs_of g.K.Keeper.tells g.K.Keeper.doubt g.K.Keeper.faults) c.self.inside.house_log c.args.client c.args.request.now c.row_put_off-row.result.entry c.row_put_off-row.result c.commit.new.self c.known.ensures on c.row_put_off-row.ensures.added
    (keeps-made (signs_of g.K.Keeper.tells g.K.Keeper.doubt g.K.Keeper.faults) c.self.inside.keeper c.commit.new.self c.self.inside.house_log.core.rows (Change.Add c.row_put_off-row.result) h c.in-Ok.ensures.committed))

pub invariant_of-self-in-Err-Fault : goal.invariant_of-self-in-Err-Fault
invariant_of-self-in-Err-Fault g c =
    let e : c.self.inside.house_log ≡ c.args.self.now.house_log = ap (λ (h : Housed g.row.K.Denot). h.house_log) c.self.view_is in
    let h = house-plain (signs_of g.K.Keeper.tells g.K.Keeper.doubt g.K.Keeper.faults) (record { house_log = c.self.inside.house_log; places = c.self.inside.places.items; pool = c.self.inside.pool; keeper = c.self.inside.keeper }) c.args.self.now.house_log e c.self.invariant c.known.ensures c.requires.loaded c.requires.runs.on in
    let l = off-legal c.self.inside.house_log c.args.self.now.house_log c.args.client c.args.request.now (ClaimAnswer.Refused Refusal.KeeperFault) e c.known.ensures c.requires.runs c.requires.booted c.requires.free c.requires.accepted (inr refl) in
    house-off (signs_of g.K.Keeper.tells g.K.Keeper.doubt g.K.Keeper.faults) c.args.client c.args.request.now (ClaimAnswer.Refused Refusal.KeeperFault) (record { house_log = c.self.inside.house_log; places = c.self.inside.places.items; pool = c.self.inside.pool; keeper = c.self.inside.keeper })
    c.note-in-Err-Fault.new.self c.commit.new.self c.self.invariant c.known.ensures c.note-in-Err-Fault.ensures.known
    (subst (λ (x : Event). Appended c.args.client x c.self.inside.house_log c.note-in-Err-Fault.new.self) c.put_off-in-Err-Fault.ensures c.note-in-Err-Fault.ensures.appended)
    l (ap (λ (x : HouseLogView). x.loaded) e ∙ c.requires.loaded)
    (kept-doubted (signs_of g.K.Keeper.tells g.K.Keeper.doubt g.K.Keeper.faults) c.self.inside.house_log c.args.client c.args.request.now c.row_put_off-row.result c.commit.new.self c.known.ensures c.row_put_off-row.ensures.added
    (keeps-left (signs_of g.K.Keeper.tells g.K.Keeper.doubt g.K.Keeper.faults) c.self.inside.keeper c.commit.new.self c.self.inside.house_log.core.rows (Some (Change.Add c.row_put_off-row.result)) h (rw c.in-Err-Fault.field-0-is at c.in-Err-Fault.ensures.committed)))

pub invariant_of-self-in-Err-NoMemory : goal.invariant_of-self-in-Err-NoMemory
invariant_of-self-in-Err-NoMemory g c =
    house-unstored (signs_of g.K.Keeper.tells g.K.Keeper.doubt g.K.Keeper.faults) (record { house_log = c.self.inside.house_log; places = c.self.inside.places.items; pool = c.self.inside.pool; keeper = c.self.inside.keeper })
    c.args.self.now.house_log c.commit.new.self (ap (λ (h : Housed g.row.K.Denot). h.house_log) c.self.view_is) c.self.invariant c.known.ensures c.requires.loaded c.requires.runs.on
    (rw c.in-Err-NoMemory.field-0-is at c.in-Err-NoMemory.ensures.committed)

pub returns-in-Ok-clause-fared : goal.returns-in-Ok-clause-fared
returns-in-Ok-clause-fared g c =
    subst (λ (h : Housed g.row.K.Denot). KeeperFared (signs_of g.K.Keeper.tells g.K.Keeper.doubt g.K.Keeper.faults) h (record { house_log = c.note.new.self; places = c.self.inside.places.items; pool = c.self.inside.pool; keeper = c.commit.new.self })) c.self.view_is
    (fared-quiet (signs_of g.K.Keeper.tells g.K.Keeper.doubt g.K.Keeper.faults) (record { house_log = c.self.inside.house_log; places = c.self.inside.places.items; pool = c.self.inside.pool; keeper = c.self.inside.keeper }) (record { house_log = c.note.new.self; places = c.self.inside.places.items; pool = c.self.inside.pool; keeper = c.commit.new.self })
    (quiet-faults c.args.client c.put_off.result c.self.inside.house_log c.note.new.self c.note.ensures.appended (ap meets_fault c.put_off.ensures))
    (calm-ok _ _ refl c.in-Ok.ensures.quiet) (told-with g.K.Keeper.tells c.self.inside.keeper c.commit.new.self (Change.Add c.row_put_off-row.result) c.in-Ok.ensures.committed.0))

pub returns-in-Err-Fault-clause-fared : goal.returns-in-Err-Fault-clause-fared
returns-in-Err-Fault-clause-fared g c =
    subst (λ (h : Housed g.row.K.Denot). KeeperFared (signs_of g.K.Keeper.tells g.K.Keeper.doubt g.K.Keeper.faults) h (record { house_log = c.note-in-Err-Fault.new.self; places = c.self.inside.places.items; pool = c.self.inside.pool; keeper = c.commit.new.self })) c.self.view_is
    (counted-more (signs_of g.K.Keeper.tells g.K.Keeper.doubt g.K.Keeper.faults) (record { house_log = c.self.inside.house_log; places = c.self.inside.places.items; pool = c.self.inside.pool; keeper = c.self.inside.keeper }) (record { house_log = c.note-in-Err-Fault.new.self; places = c.self.inside.places.items; pool = c.self.inside.pool; keeper = c.commit.new.self })
    (ap keeper_faults (appended-past c.args.client c.put_off-in-Err-Fault.result c.self.inside.house_log c.note-in-Err-Fault.new.self c.note-in-Err-Fault.ensures.appended ∙ ap (λ (x : Event). x ∷ past_in c.self.inside.house_log) c.put_off-in-Err-Fault.ensures))
    (c.in-Err-Fault.ensures.cause (ap Err c.in-Err-Fault.field-0-is))
    (told-left (signs_of g.K.Keeper.tells g.K.Keeper.doubt g.K.Keeper.faults) c.self.inside.keeper c.commit.new.self (Some (Change.Add c.row_put_off-row.result)) (rw c.in-Err-Fault.field-0-is at c.in-Err-Fault.ensures.committed)))

pub returns-in-Err-NoMemory-clause-fared : goal.returns-in-Err-NoMemory-clause-fared
returns-in-Err-NoMemory-clause-fared g c =
    subst (λ (h : Housed g.row.K.Denot). KeeperFared (signs_of g.K.Keeper.tells g.K.Keeper.doubt g.K.Keeper.faults) h (record { house_log = c.self.inside.house_log; places = c.self.inside.places.items; pool = c.self.inside.pool; keeper = c.commit.new.self })) c.self.view_is
    (fared-quiet (signs_of g.K.Keeper.tells g.K.Keeper.doubt g.K.Keeper.faults) (record { house_log = c.self.inside.house_log; places = c.self.inside.places.items; pool = c.self.inside.pool; keeper = c.self.inside.keeper }) (record { house_log = c.self.inside.house_log; places = c.self.inside.places.items; pool = c.self.inside.pool; keeper = c.commit.new.self }) refl
    (calm-memory _ (ap Err c.in-Err-NoMemory.field-0-is) c.in-Err-NoMemory.ensures.quiet)
    (told-left (signs_of g.K.Keeper.tells g.K.Keeper.doubt g.K.Keeper.faults) c.self.inside.keeper c.commit.new.self None (rw c.in-Err-NoMemory.field-0-is at c.in-Err-NoMemory.ensures.committed)))
