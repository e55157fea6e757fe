use Rattle.std.proofs.Common.{◌≡◌, ℕ, List, map, Bor, None, ap, refl, sym, ◌∙◌}
use Rattle.run_status.specs.declared.status.Status.{Status}
use Rattle.fwupd_service.proofs.MakeWords.{words-fit}
use Rattle.fwupd_service.proofs.TopLaws.{keeps-same, marks-same, marks-untold, no-fault-told, says-none, stay-same, words-wanted}
use Rattle.fwupd_service.proofs.top.run_campaign.Goals as goal

pub obey-requires-clause-fits : goal.obey-requires-clause-fits
obey-requires-clause-fits g c = λ κs lives. words-fit (map {A = Bor (List ℕ)} {B = List ℕ} (λ word. word.now) c.args.words.now) c.in-Ok.command c.in-Ok.ensures

pub returns-clause-ends : goal.returns-clause-ends
returns-clause-ends g c =
    let e = c.nothing-in-Err-NoMemory.ensures in
    rw c.with_marks-in-Err-NoMemory.ensures
    (words-wanted _ _ _ c.read_words.result _ _ _ _ _ c.read_words.ensures (rw c.in-Err-NoMemory.field-0-is at c.in-Err-NoMemory.is) e.status
    (record { unread = refl; nothing = record { log = e.log; opening = e.opening; boards = e.boards; keeper_is = e.keeper; nothing = refl } }))

pub returns-in-Err-Usage-clause-shelves : goal.returns-in-Err-Usage-clause-shelves
returns-in-Err-Usage-clause-shelves g c = rw (c.with_marks.ensures, c.nothing.ensures.shelves) (stay-same _)

pub returns-clause-shelves : goal.returns-clause-shelves
returns-clause-shelves g c = rw (c.with_marks-in-Err-NoMemory.ensures, c.nothing-in-Err-NoMemory.ensures.shelves) (stay-same _)

pub returns-in-Err-Usage-clause-own_shelves : goal.returns-in-Err-Usage-clause-own_shelves
returns-in-Err-Usage-clause-own_shelves g c = rw c.with_marks.ensures (keeps-same _ _ _ c.nothing.ensures.shelves)

pub returns-clause-own_shelves : goal.returns-clause-own_shelves
returns-clause-own_shelves g c = rw c.with_marks-in-Err-NoMemory.ensures (keeps-same _ _ _ c.nothing-in-Err-NoMemory.ensures.shelves)

pub returns-in-Err-Usage-clause-own_marks : goal.returns-in-Err-Usage-clause-own_marks
returns-in-Err-Usage-clause-own_marks g c = rw c.with_marks.ensures (marks-same _ _ _ refl)

pub returns-clause-own_marks : goal.returns-clause-own_marks
returns-clause-own_marks g c = rw c.with_marks-in-Err-NoMemory.ensures (marks-same _ _ _ refl)

pub returns-in-Err-Usage-clause-marks_told : goal.returns-in-Err-Usage-clause-marks_told
returns-in-Err-Usage-clause-marks_told g c =
    rw (says-none _ c.read_words.result c.read_words.ensures (rw c.in-Err-Usage.field-0-is at c.in-Err-Usage.is)) (λ after told. (None, tt, tt))

pub returns-clause-marks_told : goal.returns-clause-marks_told
returns-clause-marks_told g c = rw c.with_marks-in-Err-NoMemory.ensures (λ after told. (after, told, marks-untold _ _ _ _ _ _ _ c.nothing-in-Err-NoMemory.ensures.status refl))

pub returns-in-Err-Usage-clause-fault_told : goal.returns-in-Err-Usage-clause-fault_told
returns-in-Err-Usage-clause-fault_told g c = rw c.with_marks.ensures (no-fault-told _ _ _ _ (λ e. let bad : Status.Usage ≡ Status.KeeperFault = sym c.nothing.ensures.status ∙ e in cc) (ap g.K.Keeper.faults c.nothing.ensures.keeper) refl)

pub returns-clause-fault_told : goal.returns-clause-fault_told
returns-clause-fault_told g c = rw c.with_marks-in-Err-NoMemory.ensures (no-fault-told _ _ _ _ (λ e. let bad : Status.NoMemory ≡ Status.KeeperFault = sym c.nothing-in-Err-NoMemory.ensures.status ∙ e in cc) (ap g.K.Keeper.faults c.nothing-in-Err-NoMemory.ensures.keeper) refl)
