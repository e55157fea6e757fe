use Rattle.std.proofs.Common.{◌≡◌, false, ap, sym, ◌∙◌, arith, refl}
use Rattle.update_log.specs.Pasts.{off}
use Rattle.daemon_core.specs.Housed.{HouseLogView, past_in}
use Rattle.daemon_core.proofs.LogLaws.{loaded-on}
use Rattle.daemon_core.proofs.house_log.HouseLog.go_on.Goals as goal

pub note-requires-clause-loaded : goal.note-requires-clause-loaded
note-requires-clause-loaded c =
    let on : off (past_in c.args.self.now) ≡ false = ap (λ (a : HouseLogView). off (past_in a)) (sym c.self.view_is) ∙ sym c.off.ensures ∙ c.if-off.false in
    loaded-on c.args.self.now.loaded (past_in c.args.self.now) c.known.ensures.unloaded c.requires.booted on

pub note-requires-clause-room : goal.note-requires-clause-room
note-requires-clause-room c =
    let on : off (past_in c.args.self.now) ≡ false = ap (λ (a : HouseLogView). off (past_in a)) (sym c.self.view_is) ∙ sym c.off.ensures ∙ c.if-off.false in
    let s = c.requires.spared on in
    let r = c.known.ensures.room in
    omega (arith, s, r)

pub returns-clause-gone : goal.returns-clause-gone
returns-clause-gone c =
    let on : off (past_in c.args.self.now) ≡ false = ap (λ (a : HouseLogView). off (past_in a)) (sym c.self.view_is) ∙ sym c.off.ensures ∙ c.if-off.false in
    (record { on = on; below = c.if-is_cut.ensures }, loaded-on c.args.self.now.loaded (past_in c.args.self.now) c.known.ensures.unloaded c.requires.booted on, refl)
