use Rattle.std.proofs.Common.{◌≡◌, false, ◌∷◌, ap, sym, ◌∙◌, subst, arith}
use Rattle.update_log.specs.declared.event.Event.{Event}
use Rattle.update_log.specs.Legal.{BelowLimit}
use Rattle.update_log.specs.Pasts.{off}
use Rattle.daemon_core.specs.Housed.{HouseLogView, past_in}
use Rattle.daemon_core.specs.Owed.{owed}
use Rattle.daemon_core.proofs.LogLaws.{loaded-on}
use Rattle.daemon_core.proofs.OwedLaws.{owed-cut}
use Rattle.daemon_core.proofs.house_log.HouseLog.enter.Goals as goal

pub note-requires-clause-loaded : goal.note-requires-clause-loaded
note-requires-clause-loaded c =
    let on : off (past_in c.args.self.now) ≡ false = ap (λ (a : HouseLogView). off (past_in a)) (sym c.self.view_is) ∙ sym c.off.ensures ∙ c.if-off.false in
    ap (λ (a : HouseLogView). a.loaded) c.in_ok-reserve.ensures.same ∙ loaded-on c.args.self.now.loaded (past_in c.args.self.now) c.known.ensures.unloaded c.requires.booted on

pub note-requires-clause-room : goal.note-requires-clause-room
note-requires-clause-room c =
    let o = owed-cut (past_in c.args.self.now) in
    let w = ap (λ (a : HouseLogView). owed (Event.Cut ∷ past_in a)) c.in_ok-reserve.ensures.same in
    let r = c.in_ok-reserve.ensures.room in
    let s = c.requires.some in
    omega (arith, o, w, r, s)

pub returns-clause-entered : goal.returns-clause-entered
returns-clause-entered c =
    let on : off (past_in c.args.self.now) ≡ false = ap (λ (a : HouseLogView). off (past_in a)) (sym c.self.view_is) ∙ sym c.off.ensures ∙ c.if-off.false in
    record {
      runs = record { on = on; below = subst (λ (a : HouseLogView). BelowLimit (past_in a)) c.in_ok-reserve.ensures.same c.if-is_cut.ensures };
      loaded = loaded-on c.args.self.now.loaded (past_in c.args.self.now) c.known.ensures.unloaded c.requires.booted on;
      room = c.in_ok-reserve.ensures.room;
      row_room = c.in_ok-reserve.ensures.row_room;
      same = c.in_ok-reserve.ensures.same;
    }
