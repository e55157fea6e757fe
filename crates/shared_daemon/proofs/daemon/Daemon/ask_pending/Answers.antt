use Rattle.std.proofs.Common.{◌≡◌, ℕ, List, ap, sym, ◌∙◌, subst}
use Rattle.std.specs.Prelude.{Some}
use Rattle.history_keeper.specs.declared.row.Row.{Row}
use Rattle.update_log.specs.declared.event.Event.{Event}
use Rattle.daemon_core.specs.Housed.{Housed}
use Rattle.update_log.specs.Known.{row_of, rows}
use Rattle.update_log.specs.Legal.{IsFree, request_of_row}
use Rattle.daemon_core.specs.declared.hold.Asked.{Asked}
use Rattle.daemon_core.specs.Holds.{answer_of}
use Rattle.shared_daemon.specs.declared.entry.Entry.{Entry}
use Rattle.shared_daemon.specs.Calls.{TurnedIn}
use Rattle.shared_daemon.specs.Entries.{chronicle, past_seen}
use Rattle.shared_daemon.specs.Names.{Name}
use Rattle.shared_daemon.proofs.Stayed.{pending-met, same-row}
use Rattle.shared_daemon.proofs.Turning.{adds, begins-still, took, turned-adds, was-seen}
use Rattle.shared_daemon.proofs.daemon.Daemon.ask_pending.Goals as goal

pub ask_pending-answer-requires-clause-free : goal.ask_pending-answer-requires-clause-free
ask_pending-answer-requires-clause-free g c =
    was-seen g.N.Naming.name c.args.pass.now c.enter-turn.result (λ i seen. IsFree (past_seen seen) i) c.args.self.now.id 0 (chronicle c.state.result.now) c.requires.pass c.enter-turn.ensures.begins (sym c.requires.own) (c.enter-turn.ensures.list ∙ ap (λ (h : Housed g.row.K.Denot). chronicle h) (sym c.state.ensures.value))
    (subst (λ (i : ℕ). IsFree (past_seen c.args.pass.now.seen) i) (sym c.requires.own) c.requires.free)

pub ask_pending-answer-requires-clause-pending : goal.ask_pending-answer-requires-clause-pending
ask_pending-answer-requires-clause-pending g c =
    let name : Name = g.N.Naming.name in
    let row : Row = c.requires.pending.0 in (
      row,
      subst (λ (l : List Entry). row_of (rows name.basis (past_seen l)) c.args.entry ≡ Some row) (c.enter-turn.ensures.list ∙ ap (λ (h : Housed g.row.K.Denot). chronicle h) (sym c.state.ensures.value))
          (pending-met name c.args.pass.now.number c.args.pass.now.seen c.enter-turn.result.seen c.args.entry row c.requires.pass.log c.enter-turn.ensures.begins.meets c.requires.own c.requires.pending.1 c.requires.pending.2),
      c.requires.pending.2,
    )

pub leave-requires-clause-begun : goal.leave-requires-clause-begun
leave-requires-clause-begun g c = (c.args.pass.now, begins-still g.N.Naming.name c.args.pass.now c.enter-turn.result c.ask_pending-answer.new.self c.enter-turn.ensures.begins)

pub leave-requires-clause-adds : goal.leave-requires-clause-adds
leave-requires-clause-adds g c =
    let name : Name = g.N.Naming.name in
    let row : Row = c.requires.pending.0 in
    let at : List Entry = chronicle c.state.result.now in
    let log : List Entry = chronicle c.ask_pending-answer.new.self in
    let there : row_of (rows name.basis (past_seen at)) c.args.entry ≡ Some row =
    subst (λ (l : List Entry). row_of (rows name.basis (past_seen l)) c.args.entry ≡ Some row) (c.enter-turn.ensures.list ∙ ap (λ (h : Housed g.row.K.Denot). chronicle h) (sym c.state.ensures.value))
    (pending-met name c.args.pass.now.number c.args.pass.now.seen c.enter-turn.result.seen c.args.entry row c.requires.pass.log c.enter-turn.ensures.begins.meets c.requires.own c.requires.pending.1 c.requires.pending.2) in
    adds name c.args.pass.now c.enter-turn.result 0 at log c.enter-turn.ensures.begins (sym c.requires.own) (c.enter-turn.ensures.list ∙ ap (λ (h : Housed g.row.K.Denot). chronicle h) (sym c.state.ensures.value))
    (turned-adds 0 (λ (a : Asked). Event.Ask 0 (request_of_row row) (Some c.args.entry) (answer_of a)) c.ask_pending-answer.result at log (c.ask_pending-answer.ensures.turn row there))

pub returns-clause-turn : goal.returns-clause-turn
returns-clause-turn g c = λ row is.
    let name : Name = g.N.Naming.name in
    let at : List Entry = chronicle c.state.result.now in
    let log : List Entry = chronicle c.ask_pending-answer.new.self in
    let same : row ≡ c.requires.pending.0 = same-row row c.requires.pending.0 (sym is ∙ c.requires.pending.1) in
    let there : row_of (rows name.basis (past_seen at)) c.args.entry ≡ Some row =
    subst (λ (l : List Entry). row_of (rows name.basis (past_seen l)) c.args.entry ≡ Some row) (c.enter-turn.ensures.list ∙ ap (λ (h : Housed g.row.K.Denot). chronicle h) (sym c.state.ensures.value))
    (pending-met name c.args.pass.now.number c.args.pass.now.seen c.enter-turn.result.seen c.args.entry row c.requires.pass.log c.enter-turn.ensures.begins.meets c.requires.own is (ap (λ (r : Row). r.state) same ∙ c.requires.pending.2)) in
    took name c.args.pass.now c.enter-turn.result (λ (i : ℕ) (met log : List Entry). TurnedIn 0 (λ (a : Asked). Event.Ask 0 (request_of_row row) (Some c.args.entry) (answer_of a)) c.ask_pending-answer.result met log)
    c.leave.new.pass 0 at log c.enter-turn.ensures.begins (sym c.requires.own) (c.enter-turn.ensures.list ∙ ap (λ (h : Housed g.row.K.Denot). chronicle h) (sym c.state.ensures.value)) (c.ask_pending-answer.ensures.turn row there) c.leave.ensures.seen c.leave.ensures.mine

pub returns-clause-holds : goal.returns-clause-holds
returns-clause-holds g c = λ row is.
    let name : Name = g.N.Naming.name in
    let at : List Entry = chronicle c.state.result.now in
    let same : row ≡ c.requires.pending.0 = same-row row c.requires.pending.0 (sym is ∙ c.requires.pending.1) in
    c.ask_pending-answer.ensures.holds row
    (subst (λ (l : List Entry). row_of (rows name.basis (past_seen l)) c.args.entry ≡ Some row) (c.enter-turn.ensures.list ∙ ap (λ (h : Housed g.row.K.Denot). chronicle h) (sym c.state.ensures.value))
    (pending-met name c.args.pass.now.number c.args.pass.now.seen c.enter-turn.result.seen c.args.entry row c.requires.pass.log c.enter-turn.ensures.begins.meets c.requires.own is (ap (λ (r : Row). r.state) same ∙ c.requires.pending.2)))
