use Rattle.std.proofs.Common.{◌≡◌, ◌≤◌, ◌+◌, ◌∷◌, refl, ap, sym, ◌∙◌, arith, length, subst, List}
use Rattle.update_log.specs.declared.event.Event.{Event}
use Rattle.history_keeper.specs.declared.row.Row.{Row}
use Rattle.update_log.specs.Crashes.{next_boot}
use Rattle.update_log.specs.Known.{rows}
use Rattle.update_log.specs.Pasts.{boots}
use Rattle.daemon_core.specs.HouseLog.{Appended, IsLegalSo}
use Rattle.daemon_core.specs.Housed.{basis_in, HouseLogView, past_in}
use Rattle.daemon_core.specs.Owed.{owed}
use Rattle.daemon_core.proofs.HouseKept.{appended-rows}
use Rattle.daemon_core.proofs.BootHouseLog.{boot-event, boot-faults, boot-legal_in, boot-rows, owed-boot}
use Rattle.daemon_core.proofs.house_log.HouseLog.note_boot.Goals as goal

pub append-requires : goal.append-requires
append-requires c =
    let old : HouseLogView = c.args.self.now in
    let plan = c.args.plan.now in
    let found = c.args.found in
    let listed = c.args.boards.items in
    let n : c.boots.result ≡ boots (past_in old) = c.boots.ensures ∙ ap (λ (a : HouseLogView). boots (past_in a)) c.self.view_is in
    let e = boot-event (past_in old) plan found c.boots.result c.of.result listed n c.of.ensures in (
      refl,
      (
        subst (λ (x : Event). IsLegalSo (basis_in old) old.first (x ∷ past_in old)) (sym e)
            (boot-legal_in old plan found listed c.known.ensures c.requires.listed c.requires.found),
        (
          tt,
          (
            subst (λ (x : Event). owed (x ∷ past_in old) + 1 ≤ old.room) (sym e)
                (let o = owed-boot (past_in old) plan found listed in let r = c.requires.room in omega (arith, o, r)),
            (
              subst (λ (x : Event). length (rows (basis_in old) (x ∷ past_in old)) ≤ length old.core.rows + old.core.row_room) (sym e)
                  (subst (λ (x : List Row). length x ≤ length old.core.rows + old.core.row_room) (sym (boot-rows old plan found listed c.known.ensures)) c.requires.row),
              (λ l. boot-faults old plan found listed c.known.ensures c.requires.loaded l, (c.requires.few_boots, c.requires.timely)),
            ),
          ),
        ),
      ),
    )

pub returns-clause-rows : goal.returns-clause-rows
returns-clause-rows c =
    let old : HouseLogView = c.args.self.now in
    let plan = c.args.plan.now in
    let found = c.args.found in
    let listed = c.args.boards.items in
    let n : c.boots.result ≡ boots (past_in old) = c.boots.ensures ∙ ap (λ (a : HouseLogView). boots (past_in a)) c.self.view_is in
    let e = boot-event (past_in old) plan found c.boots.result c.of.result listed n c.of.ensures in
    let a : Appended 0 (next_boot (past_in old) plan found listed) old c.append.new.self =
    subst (λ (x : Event). Appended 0 x old c.append.new.self) e c.append.ensures.appended in
    appended-rows 0 (next_boot (past_in old) plan found listed) old c.append.new.self a c.append.ensures.known ∙ boot-rows old plan found listed c.known.ensures
